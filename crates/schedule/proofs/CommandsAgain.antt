-- Commands are read again from their lines: laws only about lists.
use Rattle.std.proofs.Common.{◌≡◌, ◌≢◌, ℕ, ◌+◌, ◌≤◌, Bool, true, false, cond, eqb, List, [], ◌∷◌, length, map, Ok, Err, All, refl, sym, ap, ◌∙◌, not, ◌||◌}
use Rattle.std.specs.List.{AllByRecursion}
use Rattle.std.proofs.lemmas.Bool.{ne_eqb, cond-false}
use Rattle.chart.specs.Names.{IsName}
use Rattle.chart.specs.NameSets.{AreNames}
use Rattle.texts.specs.Instances.{name_at, known, known_of}
use Rattle.texts.specs.Faults.{◌>>=◌, in_line}
use Rattle.texts.specs.Lines.{name_or_cause, Lacks}
use Rattle.texts.specs.declared.fault.Cause.TheVariants.{Syntax, ToItself}
use Rattle.texts.proofs.Lookups.{instance_again, name_at_all}
use Rattle.texts.proofs.Results.{bind_at, name_again, name_some}
use Rattle.schedule.specs.ActionLines.{pair_of, partners_of, send_of, receive_of, close_of, alone_of, by_two, by_three, action_by, action_of}
use Rattle.schedule.specs.Keywords.{written, is_written}
use Rattle.chart.specs.Keywords.{spelled}
use Rattle.schedule.specs.declared.keyword.ScheduleWord.TheVariants as keywords
use Rattle.schedule.proofs.PlainWords.{plain_written}
use Rattle.schedule.specs.Plans.{IsAmong, HasPartner}
use Rattle.schedule.specs.Reading.{command_at, commands_from}
use Rattle.schedule.specs.ScheduleText.{action_words, command_line, AreNumbered, CanBeNamed, CanBeSpelled}
use Rattle.schedule.specs.declared.command.Action.{Action}
use Rattle.schedule.specs.declared.command.Action.TheVariants.{Send, Receive, Any, Close, Open, Shut}
use Rattle.schedule.specs.declared.command.Command.{Command}
use Rattle.texts.proofs.Spacing.{IsPlain, ArePlain, plain_name, spaced_again, spaced_lacks}

-- ---- tests of words

first_empty : (x : Bool) → x ≡ false → (x || false) ≡ false
first_empty x a = rw a refl

pub not_empty_three : (x y : Bool) → x ≡ false → y ≡ false → (x || y) ≡ false
not_empty_three x y a b = rw (a, b) refl

pub not_empty_four : (x y z w : Bool) → x ≡ false → y ≡ false → z ≡ false → w ≡ true → (x || y || z || not w) ≡ false
not_empty_four x y z w a b c d = rw (a, b, c, d) refl

-- ---- names of instances

module _ (names : List (List ℕ)) (are : AreNames names) (named : All IsName names) where
  -- an instance's name is a name
  is_name : (p : ℕ) → 1 ≤ p → p ≤ length names → IsName (name_at names p)
  is_name p first last = name_at_all IsName names p named first last

  known_again : (p : ℕ) → 1 ≤ p → p ≤ length names → known_of names (name_at names p) ≡ Ok p
  unfolding known_of
  known_again p first last = ap known (instance_again names p are first last)

  pair_again : (p q : ℕ) → 1 ≤ p → p ≤ length names → 1 ≤ q → q ≤ length names → p ≢ q → pair_of names (name_at names p) (name_at names q) ≡ Ok (p, q)
  unfolding pair_of
  pair_again p q first last first' last' other =
      bind_at (known_of names (name_at names p)) (λ by. known_of names (name_at names q) >>= λ to. cond (eqb by to) (Err ToItself) (Ok (by, to))) p (known_again p first last)
      ∙ bind_at (known_of names (name_at names q)) (λ to. cond (eqb p to) (Err ToItself) (Ok (p, to))) q (known_again q first' last')
      ∙ cond-false (eqb p q) (Err ToItself) (Ok (p, q)) (ne_eqb p q other)

  partners_again : (p q : ℕ) → 1 ≤ p → p ≤ length names → 1 ≤ q → q ≤ length names → p ≢ q → partners_of names (name_at names p) (name_at names q) ≡ Ok (p, q)
  unfolding partners_of
  partners_again p q first last first' last' other =
      let x : List ℕ = name_at names p in
      let y : List ℕ = name_at names q in
      bind_at (name_or_cause x) (λ actor. name_or_cause y >>= λ partner. pair_of names actor partner) x (name_again x (is_name p first last))
      ∙ bind_at (name_or_cause y) (λ partner. pair_of names x partner) y (name_again y (is_name q first' last')) ∙ pair_again p q first last first' last' other

  send_again : (p q : ℕ) (m : List ℕ) → 1 ≤ p → p ≤ length names → 1 ≤ q → q ≤ length names → p ≢ q → IsName m → send_of names (name_at names p) (name_at names q) m ≡ Ok (p, Send q m)
  unfolding send_of
  send_again p q m first last first' last' other message =
      let x : List ℕ = name_at names p in
      let y : List ℕ = name_at names q in
      bind_at (name_or_cause x) (λ actor. name_or_cause y >>= λ partner. name_or_cause m >>= λ name. pair_of names actor partner >>= λ pair. Ok (pair.0, Send pair.1 name)) x (name_again x (is_name p first last))
      ∙ bind_at (name_or_cause y) (λ partner. name_or_cause m >>= λ name. pair_of names x partner >>= λ pair. Ok (pair.0, Send pair.1 name)) y (name_again y (is_name q first' last'))
      ∙ bind_at (name_or_cause m) (λ name. pair_of names x y >>= λ pair. Ok (pair.0, Send pair.1 name)) m (name_again m message)
      ∙ bind_at (pair_of names x y) (λ pair. Ok (pair.0, Send pair.1 m)) (p, q) (pair_again p q first last first' last' other)

  receive_again : (p q : ℕ) → 1 ≤ p → p ≤ length names → 1 ≤ q → q ≤ length names → p ≢ q → receive_of names (name_at names p) (name_at names q) ≡ Ok (p, Receive q)
  unfolding receive_of
  receive_again p q first last first' last' other = bind_at (partners_of names (name_at names p) (name_at names q)) (λ pair. Ok (pair.0, Receive pair.1)) (p, q) (partners_again p q first last first' last' other)

  close_again : (p q : ℕ) → 1 ≤ p → p ≤ length names → 1 ≤ q → q ≤ length names → p ≢ q → close_of names (name_at names p) (name_at names q) ≡ Ok (p, Close q)
  unfolding close_of
  close_again p q first last first' last' other = bind_at (partners_of names (name_at names p) (name_at names q)) (λ pair. Ok (pair.0, Close pair.1)) (p, q) (partners_again p q first last first' last' other)

  alone_again : (p : ℕ) (action : Action) → 1 ≤ p → p ≤ length names → alone_of names (name_at names p) action ≡ Ok (p, action)
  unfolding alone_of
  alone_again p action first last =
      let x : List ℕ = name_at names p in
      bind_at (name_or_cause x) (λ actor. known_of names actor >>= λ by. Ok (by, action)) x (name_again x (is_name p first last))
      ∙ bind_at (known_of names x) (λ by. Ok (by, action)) p (known_again p first last)

  -- ---- the words of a command

  any_by : (x : List ℕ) → by_two names x (written keywords.Any) ≡ alone_of names x Any
  unfolding by_two is_written written spelled
  any_by x = refl

  open_by : (x : List ℕ) → by_two names x (written keywords.Concurrent) ≡ alone_of names x Open
  unfolding by_two is_written written spelled
  open_by x = refl

  shut_by : (x : List ℕ) → by_two names x (written keywords.EndConcurrent) ≡ alone_of names x Shut
  unfolding by_two is_written written spelled
  shut_by x = refl

  receive_by : (x y : List ℕ) → by_three names x (written keywords.Receive) y ≡ receive_of names x y
  unfolding by_three is_written written
  receive_by x y = refl

  close_by : (x y : List ℕ) → by_three names x (written keywords.Close) y ≡ close_of names x y
  unfolding by_three is_written written
  close_by x y = refl

  send_by : is_written keywords.Send (written keywords.Send) ≡ true
  unfolding is_written written
  send_by = refl

  some : (p : ℕ) → 1 ≤ p → p ≤ length names → eqb (length (name_at names p)) 0 ≡ false
  some p first last = name_some (name_at names p) (is_name p first last)

  -- a line of two words
  two_again : (p : ℕ) (k : List ℕ) (action : Action) → by_two names (name_at names p) k ≡ alone_of names (name_at names p) action → 1 ≤ p → p ≤ length names → action_by names (name_at names p ∷ k ∷ []) ≡ Ok (p, action)
  two_again p k action by first last =
      cond-false (eqb (length (name_at names p)) 0) (Err Syntax) (by_two names (name_at names p) k) (some p first last) ∙ by ∙ alone_again p action first last

  -- a line of three words
  three_again : (p q : ℕ) (k : List ℕ) (action : Action) → by_three names (name_at names p) k (name_at names q) ≡ Ok (p, action) → 1 ≤ p → p ≤ length names → 1 ≤ q → q ≤ length names
      → action_by names (name_at names p ∷ k ∷ name_at names q ∷ []) ≡ Ok (p, action)
  three_again p q k action by first last first' last' =
      let x : List ℕ = name_at names p in
      let y : List ℕ = name_at names q in
      cond-false (eqb (length x) 0 || eqb (length y) 0) (Err Syntax) (by_three names x k y) (not_empty_three (eqb (length x) 0) (eqb (length y) 0) (some p first last) (some q first' last')) ∙ by

  -- a line of any number of words
  action_again : (p : ℕ) (action : Action) → 1 ≤ p → p ≤ length names → HasPartner (length names) p action → CanBeNamed action → action_by names (name_at names p ∷ action_words names action) ≡ Ok (p, action)
  action_again p (Send q m) first last has can =
      let x : List ℕ = name_at names p in
      let y : List ℕ = name_at names q in
      cond-false (eqb (length x) 0 || eqb (length y) 0 || eqb (length m) 0 || not (is_written keywords.Send (written keywords.Send))) (Err Syntax) (send_of names x y m)
      (not_empty_four (eqb (length x) 0) (eqb (length y) 0) (eqb (length m) 0) (is_written keywords.Send (written keywords.Send)) (some p first last) (some q can.0 has.0) (name_some m can.1) send_by)
      ∙ send_again p q m first last can.0 has.0 has.1 can.1
  action_again p (Receive q) first last has can = three_again p q (written keywords.Receive) (Receive q) (receive_by (name_at names p) (name_at names q) ∙ receive_again p q first last can has.0 has.1) first last can has.0
  action_again p Any first last has can = two_again p (written keywords.Any) Any (any_by (name_at names p)) first last
  action_again p (Close q) first last has can = three_again p q (written keywords.Close) (Close q) (close_by (name_at names p) (name_at names q) ∙ close_again p q first last can has.0 has.1) first last can has.0
  action_again p Open first last has can = two_again p (written keywords.Concurrent) Open (open_by (name_at names p)) first last
  action_again p Shut first last has can = two_again p (written keywords.EndConcurrent) Shut (shut_by (name_at names p)) first last

  -- the words have neither a space nor a line feed
  plain_instance : (p : ℕ) → 1 ≤ p → p ≤ length names → IsPlain (name_at names p)
  plain_instance p first last = plain_name (name_at names p) (is_name p first last)

  plain_action : (p : ℕ) (action : Action) → HasPartner (length names) p action → CanBeNamed action → ArePlain (action_words names action)
  plain_action p (Send q m) has can = (plain_written keywords.Send, (plain_instance q can.0 has.0, (plain_name m can.1, tt)))
  plain_action p (Receive q) has can = (plain_written keywords.Receive, (plain_instance q can has.0, tt))
  plain_action p Any has can = (plain_written keywords.Any, tt)
  plain_action p (Close q) has can = (plain_written keywords.Close, (plain_instance q can has.0, tt))
  plain_action p Open has can = (plain_written keywords.Concurrent, tt)
  plain_action p Shut has can = (plain_written keywords.EndConcurrent, tt)

  plain_command : (command : Command) → IsAmong (length names) command → CanBeSpelled command → ArePlain (name_at names command.actor ∷ action_words names command.action)
  plain_command command among can = (plain_instance command.actor can.0 among.0, plain_action command.actor command.action among.1 can.1)

  -- ---- the lines of the commands

  action_line_again : (command : Command) → IsAmong (length names) command → CanBeSpelled command → action_of names (command_line names command) ≡ Ok (command.actor, command.action)
  unfolding action_of
  action_line_again command among can =
      ap (action_by names) (spaced_again (name_at names command.actor) (action_words names command.action) (plain_command command among can)) ∙ action_again command.actor command.action can.0 among.0 among.1 can.1

  command_again : (n : ℕ) (command : Command) → IsAmong (length names) command → CanBeSpelled command → command.line ≡ n → command_at names n (command_line names command) ≡ Ok command
  unfolding command_at
  command_again n command among can numbered =
      bind_at (in_line n (action_of names (command_line names command))) (λ acting. Ok (record { line = n; actor = acting.0; action = acting.1 })) (command.actor, command.action) (ap (in_line n) (action_line_again command among can))
      ∙ ap (λ m. Ok (record { line = m; actor = command.actor; action = command.action })) (sym numbered)

  -- one line after another
  pub commands_again : (n : ℕ) (commands : List Command) → AllByRecursion (IsAmong (length names)) commands → AllByRecursion CanBeSpelled commands → AreNumbered n commands
      → commands_from names n (map (command_line names) commands) ≡ Ok commands
  unfolding commands_from
  commands_again n [] among can numbered = refl
  commands_again n (command ∷ commands) among can numbered =
      bind_at (command_at names n (command_line names command)) (λ first. commands_from names (n + 1) (map (command_line names) commands) >>= λ others. Ok (first ∷ others)) command (command_again n command among.0 can.0 numbered.0)
      ∙ bind_at (commands_from names (n + 1) (map (command_line names) commands)) (λ others. Ok (command ∷ others)) commands (commands_again (n + 1) commands among.1 can.1 numbered.1)

  -- none of their lines has a line feed
  pub commands_lack : (commands : List Command) → AllByRecursion (IsAmong (length names)) commands → AllByRecursion CanBeSpelled commands → AllByRecursion (Lacks 10) (map (command_line names) commands)
  commands_lack [] among can = tt
  commands_lack (command ∷ commands) among can =
      (spaced_lacks (name_at names command.actor ∷ action_words names command.action) (plain_command command among.0 can.0), commands_lack commands among.1 can.1)
