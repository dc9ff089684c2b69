-- A command's line: a command that is read has this line, and such a line is read. Laws only about lists.
use Rattle.std.proofs.Common.{◌≡◌, ◌≢◌, ℕ, ◌+◌, ◌≤◌, Bool, true, false, cond, eqb, List, [], ◌∷◌, length, map, Option, Some, None, Result, Ok, Err, refl, sym, ap, ◌∙◌, subst, inl, inr, not, ◌||◌}
use Rattle.std.specs.Prelude.{bytes_eq}
use Rattle.std.specs.List.{AllByRecursion}
use Rattle.std.proofs.lemmas.Bool.{eqb-false}
use Rattle.chart.specs.Names.{IsName, instance_of}
use Rattle.texts.specs.Instances.{name_at, known, known_of}
use Rattle.texts.specs.Faults.{◌>>=◌, in_line}
use Rattle.texts.specs.Lines.{words_of, name_or_cause}
use Rattle.texts.specs.declared.fault.Cause.{Cause}
use Rattle.texts.specs.declared.fault.Cause.TheVariants.{Syntax, ToItself}
use Rattle.texts.proofs.Lookups.{IsNamed, instance_is, same_bytes}
use Rattle.texts.proofs.Results.{bind_ok, guard_ok, in_line_ok, name_is, when_ok, chosen, ok_is}
use Rattle.schedule.specs.ActionLines.{ActorAction, pair_of, partners_of, send_of, receive_of, close_of, alone_of, by_two, by_three, action_by, action_of}
use Rattle.schedule.specs.Keywords.{written, is_written}
use Rattle.schedule.specs.declared.keyword.ScheduleWord.TheVariants as keywords
use Rattle.schedule.specs.Plans.{IsAmong, HasPartner}
use Rattle.schedule.specs.Reading.{command_at, commands_from}
use Rattle.schedule.specs.ScheduleText.{action_words, command_line, spaced, AreNumbered, CanBeNamed, CanBeSpelled}
use Rattle.schedule.specs.declared.command.Action.{Action}
use Rattle.schedule.specs.declared.command.Action.TheVariants.{Send, Receive, Any, Close, Open, Shut}
use Rattle.schedule.specs.declared.command.Command.{Command}
use Rattle.texts.proofs.Spacing.{is_spaced}

-- ---- a command that is read has this line

-- the words are those of the actor and its action, and the actor is one of the instances and can be spelled
record Says (names words : List (List ℕ)) (acting : ActorAction) : Type 0 where
  pub among : (acting.0 ≤ length names) × HasPartner (length names) acting.0 acting.1
  pub spelled : (1 ≤ acting.0) × CanBeNamed acting.1
  pub are : words ≡ name_at names acting.0 ∷ action_words names acting.1

-- two instances of these names, which are not the same
record ArePartners (names : List (List ℕ)) (x y : List ℕ) (pair : ℕ × ℕ) : Type 0 where
  pub actor : IsNamed names x pair.0
  pub partner : IsNamed names y pair.1
  pub other : pair.0 ≢ pair.1

known-some : (o : Option ℕ) (p : ℕ) → known o ≡ Ok p → o ≡ Some p
known-some None p e = absurd cc
known-some (Some i) p e = ap Some (ok_is i p e)

-- an instance that is known has the name
known_of-named : (names : List (List ℕ)) (name : List ℕ) (p : ℕ) → known_of names name ≡ Ok p → IsNamed names name p
unfolding known_of
known_of-named names name p e = instance_is names name p (known-some (instance_of names name) p e)

pair_of-partners : (names : List (List ℕ)) (x y : List ℕ) (pair : ℕ × ℕ) → pair_of names x y ≡ Ok pair → ArePartners names x y pair
unfolding pair_of
pair_of-partners names x y pair e =
    let a = bind_ok (known_of names x) (λ by. known_of names y >>= λ to. cond (eqb by to) (Err ToItself) (Ok (by, to))) pair e in
    let b = bind_ok (known_of names y) (λ to. cond (eqb a.0 to) (Err ToItself) (Ok (a.0, to))) pair a.2 in
    let g = guard_ok (eqb a.0 b.0) ToItself (Ok (a.0, b.0)) pair b.2 in
    subst (ArePartners names x y) (ok_is (a.0, b.0) pair g.1)
    (record { actor = known_of-named names x a.0 a.1; partner = known_of-named names y b.0 b.1; other = eqb-false a.0 b.0 g.0 })

-- the same if the names are read from words
partners-read : (names : List (List ℕ)) (x y a b : List ℕ) (pair : ℕ × ℕ) → name_or_cause x ≡ Ok a → name_or_cause y ≡ Ok b → pair_of names a b ≡ Ok pair → ArePartners names x y pair
partners-read names x y a b pair p q e =
    subst (λ v. ArePartners names v y pair) (name_is x a p).0 (subst (λ v. ArePartners names a v pair) (name_is y b q).0 (pair_of-partners names a b pair e))

partners_of-partners : (names : List (List ℕ)) (x y : List ℕ) (pair : ℕ × ℕ) → partners_of names x y ≡ Ok pair → ArePartners names x y pair
unfolding partners_of
partners_of-partners names x y pair e =
    let a = bind_ok (name_or_cause x) (λ actor. name_or_cause y >>= λ partner. pair_of names actor partner) pair e in
    let b = bind_ok (name_or_cause y) (λ partner. pair_of names a.0 partner) pair a.2 in
    partners-read names x y a.0 b.0 pair a.1 b.1 b.2

same_two : {x x' k : List ℕ} {words : List (List ℕ)} → x' ≡ x → words ≡ k ∷ [] → x ∷ k ∷ [] ≡ x' ∷ words
same_two p q = cc

same_three : {x x' k y y' : List ℕ} {words others : List (List ℕ)} → x' ≡ x → y' ≡ y → words ≡ k ∷ y' ∷ others → x ∷ k ∷ y ∷ others ≡ x' ∷ words
same_three p q r = cc

-- an action with a partner
partner-says : (names : List (List ℕ)) (x k y : List ℕ) (others : List (List ℕ)) (r : Result (ℕ × ℕ) Cause) (action : ℕ → Action) (acting : ActorAction)
    → ((q : ℕ) → action_words names (action q) ≡ k ∷ name_at names q ∷ others)
    → ((p q : ℕ) → q ≤ length names → p ≢ q → HasPartner (length names) p (action q))
    → ((q : ℕ) → 1 ≤ q → CanBeNamed (action q))
    → ((pair : ℕ × ℕ) → r ≡ Ok pair → ArePartners names x y pair)
    → (r >>= λ pair. Ok (pair.0, action pair.1)) ≡ Ok acting → Says names (x ∷ k ∷ y ∷ others) acting
partner-says names x k y others r action acting words has can are e =
    let a = bind_ok r (λ pair. Ok (pair.0, action pair.1)) acting e in
    let two = are a.0 a.1 in
    subst (Says names (x ∷ k ∷ y ∷ others)) (ok_is (a.0.0, action a.0.1) acting a.2) (record {
      among = (two.actor.last, has a.0.0 a.0.1 two.partner.last two.other);
      spelled = (two.actor.first, can a.0.1 two.partner.first);
      are = same_three two.actor.has two.partner.has (words a.0.1);
    })

send_words : {v m : List ℕ} (names : List (List ℕ)) (q : ℕ) → v ≡ m → action_words names (Send q v) ≡ written keywords.Send ∷ name_at names q ∷ m ∷ []
send_words names q e = ap (λ v. action_words names (Send q v)) e

send-says : (names : List (List ℕ)) (x y m a b c : List ℕ) (acting : ActorAction) → name_or_cause x ≡ Ok a → name_or_cause y ≡ Ok b → (c ≡ m) × IsName m → (pair_of names a b >>= λ pair. Ok (pair.0, Send pair.1 c)) ≡ Ok acting
    → Says names (x ∷ written keywords.Send ∷ y ∷ m ∷ []) acting
send-says names x y m a b c acting p q message e =
    partner-says names x (written keywords.Send) y (m ∷ []) (pair_of names a b) (λ r. Send r c) acting
    (λ r. send_words names r message.0)
    (λ p r within other. (within, other))
    (λ r first. (first, subst IsName (sym message.0) message.1))
    (λ pair. partners-read names x y a b pair p q) e

send_of-says : (names : List (List ℕ)) (x y m : List ℕ) (acting : ActorAction) → send_of names x y m ≡ Ok acting → Says names (x ∷ written keywords.Send ∷ y ∷ m ∷ []) acting
unfolding send_of
send_of-says names x y m acting e =
    let a = bind_ok (name_or_cause x) (λ actor. name_or_cause y >>= λ partner. name_or_cause m >>= λ name. pair_of names actor partner >>= λ pair. Ok (pair.0, Send pair.1 name)) acting e in
    let b = bind_ok (name_or_cause y) (λ partner. name_or_cause m >>= λ name. pair_of names a.0 partner >>= λ pair. Ok (pair.0, Send pair.1 name)) acting a.2 in
    let c = bind_ok (name_or_cause m) (λ name. pair_of names a.0 b.0 >>= λ pair. Ok (pair.0, Send pair.1 name)) acting b.2 in
    send-says names x y m a.0 b.0 c.0 acting a.1 b.1 (name_is m c.0 c.1) c.2

receive_of-says : (names : List (List ℕ)) (x y : List ℕ) (acting : ActorAction) → receive_of names x y ≡ Ok acting → Says names (x ∷ written keywords.Receive ∷ y ∷ []) acting
unfolding receive_of
receive_of-says names x y acting e =
    partner-says names x (written keywords.Receive) y [] (partners_of names x y) (λ q. Receive q) acting (λ q. refl) (λ p q within other. (within, other)) (λ q first. first) (partners_of-partners names x y) e

close_of-says : (names : List (List ℕ)) (x y : List ℕ) (acting : ActorAction) → close_of names x y ≡ Ok acting → Says names (x ∷ written keywords.Close ∷ y ∷ []) acting
unfolding close_of
close_of-says names x y acting e =
    partner-says names x (written keywords.Close) y [] (partners_of names x y) (λ q. Close q) acting (λ q. refl) (λ p q within other. (within, other)) (λ q first. first) (partners_of-partners names x y) e

-- an action with no partner
alone_of-says : (names : List (List ℕ)) (x k : List ℕ) (action : Action) (acting : ActorAction) → action_words names action ≡ k ∷ [] → ((p : ℕ) → HasPartner (length names) p action) → CanBeNamed action → alone_of names x action ≡ Ok acting
    → Says names (x ∷ k ∷ []) acting
unfolding alone_of
alone_of-says names x k action acting words has can e =
    let a = bind_ok (name_or_cause x) (λ actor. known_of names actor >>= λ by. Ok (by, action)) acting e in
    let b = bind_ok (known_of names a.0) (λ by. Ok (by, action)) acting a.2 in
    let by = known_of-named names a.0 b.0 b.1 in
    subst (Says names (x ∷ k ∷ [])) (ok_is (b.0, action) acting b.2)
    (record { among = (by.last, has b.0); spelled = (by.first, can); are = same_two (by.has ∙ (name_is x a.0 a.1).0) words })

-- a line of two words
by_two-says : (names : List (List ℕ)) (x k : List ℕ) (acting : ActorAction) → by_two names x k ≡ Ok acting → Says names (x ∷ k ∷ []) acting
unfolding by_two is_written
by_two-says names x k acting e =
    elim (chosen (is_written keywords.Any k) (alone_of names x Any) (cond (is_written keywords.Concurrent k) (alone_of names x Open) (cond (is_written keywords.EndConcurrent k) (alone_of names x Shut) (Err Syntax))) (Ok acting) e) [
      | inl any ↦ keyword (written keywords.Any) any.0 (alone_of-says names x (written keywords.Any) Any acting refl (λ p. tt) tt any.1)
      | inr a ↦ elim (chosen (is_written keywords.Concurrent k) (alone_of names x Open) (cond (is_written keywords.EndConcurrent k) (alone_of names x Shut) (Err Syntax)) (Ok acting) a.1) [
        | inl open_it ↦ keyword (written keywords.Concurrent) open_it.0 (alone_of-says names x (written keywords.Concurrent) Open acting refl (λ p. tt) tt open_it.1)
        | inr b ↦ let shut = when_ok (is_written keywords.EndConcurrent k) Syntax (alone_of names x Shut) acting b.1 in keyword (written keywords.EndConcurrent) shut.0 (alone_of-says names x (written keywords.EndConcurrent) Shut acting refl (λ p. tt) tt shut.1)
      ]
    ]
  where
    keyword : (word : List ℕ) → bytes_eq k word ≡ true → Says names (x ∷ word ∷ []) acting → Says names (x ∷ k ∷ []) acting
    keyword word same says = subst (λ w. Says names (x ∷ w ∷ []) acting) (sym (same_bytes k word same)) says

-- a line of three words
by_three-says : (names : List (List ℕ)) (x k y : List ℕ) (acting : ActorAction) → by_three names x k y ≡ Ok acting → Says names (x ∷ k ∷ y ∷ []) acting
unfolding by_three is_written
by_three-says names x k y acting e =
    elim (chosen (is_written keywords.Receive k) (receive_of names x y) (cond (is_written keywords.Close k) (close_of names x y) (Err Syntax)) (Ok acting) e) [
      | inl a ↦ keyword (written keywords.Receive) a.0 (receive_of-says names x y acting a.1)
      | inr b ↦ let close = when_ok (is_written keywords.Close k) Syntax (close_of names x y) acting b.1 in keyword (written keywords.Close) close.0 (close_of-says names x y acting close.1)
    ]
  where
    keyword : (word : List ℕ) → bytes_eq k word ≡ true → Says names (x ∷ word ∷ y ∷ []) acting → Says names (x ∷ k ∷ y ∷ []) acting
    keyword word same says = subst (λ w. Says names (x ∷ w ∷ y ∷ []) acting) (sym (same_bytes k word same)) says

last_test : (x y z w : Bool) → (x || y || z || not w) ≡ false → w ≡ true
last_test true y z w e = cc
last_test false true z w e = cc
last_test false false true w e = cc
last_test false false false true e = refl
last_test false false false false e = cc

-- a line of four words
by_four-says : (names : List (List ℕ)) (x k y m : List ℕ) (acting : ActorAction) → action_by names (x ∷ k ∷ y ∷ m ∷ []) ≡ Ok acting → Says names (x ∷ k ∷ y ∷ m ∷ []) acting
unfolding is_written
by_four-says names x k y m acting e =
    let g = guard_ok (eqb (length x) 0 || eqb (length y) 0 || eqb (length m) 0 || not (is_written keywords.Send k)) Syntax (send_of names x y m) acting e in
    let same = same_bytes k (written keywords.Send) (last_test (eqb (length x) 0) (eqb (length y) 0) (eqb (length m) 0) (is_written keywords.Send k) g.0) in
    subst (λ w. Says names (x ∷ w ∷ y ∷ m ∷ []) acting) (sym same) (send_of-says names x y m acting g.1)

-- a line of any number of words
action_by-says : (names words : List (List ℕ)) (acting : ActorAction) → action_by names words ≡ Ok acting → Says names words acting
action_by-says names [] acting e = absurd cc
action_by-says names (x ∷ []) acting e = absurd cc
action_by-says names (x ∷ k ∷ []) acting e = by_two-says names x k acting (guard_ok (eqb (length x) 0) Syntax (by_two names x k) acting e).1
action_by-says names (x ∷ k ∷ y ∷ []) acting e = by_three-says names x k y acting (guard_ok (eqb (length x) 0 || eqb (length y) 0) Syntax (by_three names x k y) acting e).1
action_by-says names (x ∷ k ∷ y ∷ m ∷ []) acting e = by_four-says names x k y m acting e
action_by-says names (x ∷ k ∷ y ∷ m ∷ z ∷ words) acting e = absurd cc

-- the commands are of the instances, can be spelled, are numbered from n, and have these lines
pub record AreCommandLines (names : List (List ℕ)) (n : ℕ) (lines : List (List ℕ)) (commands : List Command) : Type 0 where
  pub among : AllByRecursion (IsAmong (length names)) commands
  pub spelled : AllByRecursion CanBeSpelled commands
  pub numbered : AreNumbered n commands
  pub are : lines ≡ map (command_line names) commands

-- one command
record IsCommandLine (names : List (List ℕ)) (n : ℕ) (line : List ℕ) (command : Command) : Type 0 where
  pub among : IsAmong (length names) command
  pub spelled : CanBeSpelled command
  pub numbered : command.line ≡ n
  pub is : line ≡ command_line names command

command_at-sound : (names : List (List ℕ)) (n : ℕ) (line : List ℕ) (command : Command) → command_at names n line ≡ Ok command → IsCommandLine names n line command
unfolding command_at action_of
command_at-sound names n line command e =
    let a = bind_ok (in_line n (action_of names line)) (λ acting. Ok (record { line = n; actor = acting.0; action = acting.1 })) command e in
    let says = action_by-says names (words_of line) a.0 (in_line_ok n (action_of names line) a.0 a.1) in
    subst (IsCommandLine names n line) (ok_is (record { line = n; actor = a.0.0; action = a.0.1 }) command a.2)
    (record { among = says.among; spelled = says.spelled; numbered = refl; is = is_spaced line ∙ ap spaced says.are })

-- one line after another
pub commands_from-sound : (names : List (List ℕ)) (n : ℕ) (lines : List (List ℕ)) (commands : List Command) → commands_from names n lines ≡ Ok commands → AreCommandLines names n lines commands
unfolding commands_from
commands_from-sound names n [] commands e = subst (AreCommandLines names n []) (ok_is [] commands e) (record { among = tt; spelled = tt; numbered = tt; are = refl })
commands_from-sound names n (line ∷ lines) commands e =
    let a = bind_ok (command_at names n line) (λ command. commands_from names (n + 1) lines >>= λ others. Ok (command ∷ others)) commands e in
    let b = bind_ok (commands_from names (n + 1) lines) (λ others. Ok (a.0 ∷ others)) commands a.2 in
    let one = command_at-sound names n line a.0 a.1 in
    let more = commands_from-sound names (n + 1) lines b.0 b.1 in
    subst (AreCommandLines names n (line ∷ lines)) (ok_is (a.0 ∷ b.0) commands b.2) (record {
      among = (one.among, more.among);
      spelled = (one.spelled, more.spelled);
      numbered = (one.numbered, more.numbered);
      are = same_lines one.is more.are;
    })
  where
    same_lines : {x y : List ℕ} {xs ys : List (List ℕ)} → x ≡ y → xs ≡ ys → x ∷ xs ≡ y ∷ ys
    same_lines p q = cc
