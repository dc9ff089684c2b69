-- The turns of a schedule's commands are those of the history that they make.
use Rattle.std.proofs.Common.{◌≡◌, ◌≢◌, ℕ, ◌+◌, ◌==◌, ◌&&◌, ◌||◌, not, Bool, true, false, cond, List, [], ◌∷◌, ◌++◌, length, map, filter, Option, None, Some, Result, Ok, Err, refl, sym, ap, ◌∙◌, subst, append_assoc, append-nil, eq-eqb, ne_eqb}
use Rattle.std.specs.Prelude.{fold, nat_lt, nat_le}
use Rattle.std.specs.List.{list_any}
use Rattle.std.proofs.lemmas.List.Elements.{filter_agree}
use Rattle.std.proofs.lemmas.List.Folds.{list_any-append}
use Rattle.chart.specs.Charts.{chart_lines}
use Rattle.chart.specs.Events.{greatest_region}
use Rattle.chart.specs.declared.history.Occurrence.TheVariants as events
use Rattle.chart.specs.Histories.{waiting, is_closed, chart_of}
use Rattle.chart.proofs.HistoryLines.{chart-is}
use Rattle.chart_layout.specs.KeptTurns.Runs.{IsRun}
use Rattle.diagrams.specs.Messages.Each.{Each, Pairs}
use Rattle.diagrams.proofs.MessagesLemmas.EachLemmas.{each_weaker}
use Rattle.schedule.proofs.Legal.{legal}
use Rattle.schedule.specs.Meaning.{Run, State, start, has_waiting, is_line_full, changed, happens, takes, first_waiting, are_closed, receives_any, acts, noted, step, meaning}
use Rattle.schedule.specs.Outcomes.Outcomes.{AreByLine}
use Rattle.schedule.specs.Turns.Turns.{is_noted, makes_event, has_turn, turns_of}
use Rattle.schedule.specs.declared.command.Action.{Action}
use Rattle.schedule.specs.declared.command.Action.TheVariants as actions
use Rattle.schedule.specs.declared.command.Command.{Command}
use Rattle.schedule.specs.declared.command.Note.{Note}
use Rattle.schedule.specs.declared.command.Word.{Word}
use Rattle.schedule.specs.declared.command.Word.TheVariants as words
use Rattle.diagram_laws.specs.Turns.{history_turns, ReplayTurnsLaw}
use Rattle.diagram_laws.proofs.HistoryTurns.{history_run}

-- One action that isn't refused.

abbrev Made : Run → Run → List ℕ → Type 0
Made r s turns = history_turns s.history ≡ history_turns r.history ++ turns

or_run : Run → Result Run Word → Run
or_run d (Ok x) = x
or_run d (Err w) = d

peel : (b : Bool) (w : Word) (r : Result Run Word) (s : Run) → cond b (Err w) r ≡ Ok s → r ≡ Ok s
peel true w r s e = absurd (cc e)
peel false w r s e = e

only_ok : (b : Bool) (w : Word) (x s : Run) → cond b (Err w) (Ok x) ≡ Ok s → x ≡ s
unfolding or_run
only_ok true w x s e = absurd (cc e)
only_ok false w x s e = ap (or_run x) e

only_first : (b : Bool) (w : Word) (x s : Run) → cond b (Ok x) (Err w) ≡ Ok s → x ≡ s
unfolding or_run
only_first true w x s e = ap (or_run x) e
only_first false w x s e = absurd (cc e)

module _ (n k : ℕ) (r s : Run) (p : ℕ) where
  took : (q : ℕ) → takes r p q ≡ Ok s → Made r s (p ∷ [])
  unfolding history_turns
  took q e = ap (λ (x : Run). history_turns x.history) (sym (only_ok (is_line_full r.history p) words.LineFull (record { history = events.Receive p q (r.region p) ∷ r.history; last = changed r.last p q; region = r.region }) s e))

  stays : (x : Run) → history_turns x.history ≡ history_turns r.history → x ≡ s → Made r s []
  stays x same e = ap (λ (y : Run). history_turns y.history) (sym e) ∙ same ∙ sym (append-nil (history_turns r.history))

  closed_or : (b : Bool) → cond b (Err words.Ended) (Err words.Nothing) ≡ Ok s → Made r s (p ∷ [])
  closed_or true e = absurd (cc e)
  closed_or false e = absurd (cc e)

  taken_or : (q : ℕ) (a b : Bool) → cond a (takes r p q) (cond b (Err words.Ended) (Err words.Nothing)) ≡ Ok s → Made r s (p ∷ [])
  taken_or q true b e = took q e
  taken_or q false b e = closed_or b e

  any : (o : Option ℕ) → receives_any n r p o ≡ Ok s → Made r s (p ∷ [])
  any (Some q) e = took q e
  any None e = closed_or (are_closed n r p) e

  acted : (action : Action) → acts n k r p action ≡ Ok s → Made r s (cond (makes_event action) (p ∷ []) [])
  unfolding history_turns
  acted (actions.Send q name) e =
      ap (λ (x : Run). history_turns x.history) (sym (only_ok (nat_le k (length (waiting r.history p q))) words.Full (happens r (events.Send p q (record { name = name; body = [] }))) s
      (peel (is_line_full r.history p) words.LineFull _ s (peel (is_closed r.history p q) words.Closed _ s (peel (nat_lt 0 (r.region p)) words.InCoregion _ s e)))))
  acted (actions.Receive q) e = taken_or q (has_waiting r.history q p) (is_closed r.history q p) e
  acted actions.Any e = any (first_waiting n r p) e
  acted (actions.Close q) e = stays (happens r (events.Close p q)) refl (only_ok (is_closed r.history p q) words.Closed (happens r (events.Close p q)) s e)
  acted actions.Open e = stays opened refl (only_ok (nat_lt 0 (r.region p)) words.Open opened s e)
    where
      opened : Run
      opened = record { history = r.history; last = r.last; region = changed r.region p (greatest_region (chart_of r.history p) + 1) }
  acted actions.Shut e = stays shut refl (only_first (nat_lt 0 (r.region p)) words.NotOpen shut s e)
    where
      shut : Run
      shut = record { history = r.history; last = r.last; region = changed r.region p 0 }

-- The notes of several commands.

or_false : (b : Bool) → (b || false) ≡ b
or_false true = refl
or_false false = refl

or_true : (b : Bool) → (b || true) ≡ true
or_true true = refl
or_true false = refl

pushed_note : (notes : List Note) (place : ℕ) (word : Word) (line : ℕ) (own : Bool) → (place == line) ≡ own → is_noted (notes ++ record { line = place; word = word } ∷ []) line ≡ (is_noted notes line || own)
pushed_note notes place word line own e =
    list_any-append (λ (note : Note). note.line == line) notes (record { line = place; word = word } ∷ [])
    ∙ ap (λ b. is_noted notes line || (b || false)) e ∙ ap (λ b. is_noted notes line || b) (or_false own)

each_two : {A : Type 0} (P Q R : A → Type 0) → ((x : A) → P x → Q x → R x) → (xs : List A) → Each P xs → Each Q xs → Each R xs
each_two P Q R f [] one other = tt
each_two P Q R f (x ∷ xs) one other = (f x one.0 other.0, each_two P Q R f xs one.1 other.1)

module _ (n k : ℕ) where
  notes_else : (commands : List Command) (s : State) (line : ℕ) → Each (λ c. (c.line == line) ≡ false) commands → is_noted (fold (step n k) s commands).notes line ≡ is_noted s.notes line
  notes_else [] s line all = refl
  notes_else (c ∷ commands) s line all = notes_else commands (step n k s c) line all.1 ∙ go (acts n k s.run c.actor c.action)
    where
      go : (r : Result Run Word) → is_noted (noted s c.line r).notes line ≡ is_noted s.notes line
      go (Ok r) = refl
      go (Err word) = pushed_note s.notes c.line word line false all.0 ∙ or_false (is_noted s.notes line)

  abbrev Apart : State → List Command → Type 0
  Apart s commands = Each (λ (c : Command). is_noted s.notes c.line ≡ false) commands

  abbrev Lines : List Command → Type 0
  Lines commands = Pairs (λ (c d : Command). c.line ≢ d.line) commands

  abbrev Walked : State → List Command → Type 0
  Walked s commands = history_turns (fold (step n k) s commands).run.history ≡ history_turns s.run.history ++ turns_of commands (fold (step n k) s commands).notes

  shape : (before later : List ℕ) (a : ℕ) (makes noted_it : Bool) → noted_it ≡ false → (before ++ cond makes (a ∷ []) []) ++ later ≡ before ++ cond (makes && not noted_it) (a ∷ later) later
  shape before later a true noted_it e = rw e (append_assoc before (a ∷ []) later)
  shape before later a false noted_it e = append_assoc before [] later

  shown : (c : Command) (commands : List Command) (its : Bool) → map (λ (d : Command). d.actor) (cond its (c ∷ commands) commands) ≡ cond its (c.actor ∷ map (λ (d : Command). d.actor) commands) (map (λ (d : Command). d.actor) commands)
  shown c commands true = refl
  shown c commands false = refl

  never : (makes : Bool) (b : Bool) → b ≡ true → (makes && not b) ≡ false
  never true b e = ap not e
  never false b e = refl

  walk : (commands : List Command) (s : State) → Apart s commands → Lines commands → Walked s commands
  walk [] s apart lines = sym (append-nil (history_turns s.run.history))
  walk (c ∷ commands) s apart lines = go (acts n k s.run c.actor c.action) refl (λ t apart_t. walk commands t apart_t lines.1)
    where
      behind : Each (λ (d : Command). (d.line == c.line) ≡ false) commands
      behind = each_weaker (λ (d : Command). c.line ≢ d.line) (λ (d : Command). (d.line == c.line) ≡ false) (λ d ne. ne_eqb d.line c.line (λ same. ne (sym same))) commands lines.0

      go : (r : Result Run Word) → acts n k s.run c.actor c.action ≡ r → ((t : State) → Apart t commands → Walked t commands)
          → history_turns (fold (step n k) (noted s c.line r) commands).run.history ≡ history_turns s.run.history ++ turns_of (c ∷ commands) (fold (step n k) (noted s c.line r) commands).notes
      go (Ok r) e next =
          let t : State = record { run = r; notes = s.notes } in
          let last : List Note = (fold (step n k) t commands).notes in
          next t apart.1
          ∙ ap (λ l. l ++ turns_of commands last) (acted n k s.run r c.actor c.action e)
          ∙ shape (history_turns s.run.history) (turns_of commands last) c.actor (makes_event c.action) (is_noted last c.line) (notes_else commands t c.line behind ∙ apart.0)
          ∙ ap (λ l. history_turns s.run.history ++ l) (sym (shown c (filter (has_turn last) commands) (has_turn last c)))
      go (Err word) e next =
          let t : State = record { run = s.run; notes = s.notes ++ record { line = c.line; word = word } ∷ [] } in
          let last : List Note = (fold (step n k) t commands).notes in
          let own : is_noted last c.line ≡ true = notes_else commands t c.line behind ∙ pushed_note s.notes c.line word c.line true (eq-eqb c.line c.line refl) ∙ or_true (is_noted s.notes c.line) in
          next t (each_two (λ (d : Command). is_noted s.notes d.line ≡ false) (λ (d : Command). c.line ≢ d.line) (λ (d : Command). is_noted t.notes d.line ≡ false)
          (λ d was ne. pushed_note s.notes c.line word d.line false (ne_eqb c.line d.line ne) ∙ ap (λ b. b || false) was) commands apart.1 lines.0)
          ∙ ap (λ b. history_turns s.run.history ++ map (λ (d : Command). d.actor) (cond b (c ∷ filter (has_turn last) commands) (filter (has_turn last) commands))) (sym (never (makes_event c.action) (is_noted last c.line) own))

-- Notes by line.

some : {A : Type 0} → List A → Bool
some [] = false
some (x ∷ xs) = true

any_some : {A : Type 0} (test : A → Bool) (xs : List A) → list_any test xs ≡ some (filter test xs)
unfolding some
any_some test [] = refl
any_some test (x ∷ xs) = go (test x) (any_some test xs)
  where
    go : (b : Bool) → list_any test xs ≡ some (filter test xs) → (b || list_any test xs) ≡ some (cond b (x ∷ filter test xs) (filter test xs))
    go true rest = refl
    go false rest = rest

noted_same : (came listed : List Note) → AreByLine came listed → (line : ℕ) → is_noted came line ≡ is_noted listed line
noted_same came listed are line =
    any_some (λ (note : Note). note.line == line) came ∙ ap some (sym (are.same line)) ∙ sym (any_some (λ (note : Note). note.line == line) listed)

none_noted : (commands : List Command) → Each (λ (c : Command). is_noted [] c.line ≡ false) commands
none_noted [] = tt
none_noted (c ∷ commands) = (refl, none_noted commands)

pub replay_run : ReplayTurnsLaw
unfolding history_turns
replay_run plan o keeps numbered lines is =
    let h = (meaning plan).run.history in
    let it = legal plan keeps numbered in
    let turns : history_turns h ≡ turns_of plan.commands (meaning plan).notes = walk (length plan.names) plan.capacity plan.commands start (none_noted plan.commands) lines in
    let same : turns_of plan.commands (meaning plan).notes ≡ turns_of plan.commands o.notes =
    ap (map (λ (c : Command). c.actor)) (filter_agree (has_turn (meaning plan).notes) (has_turn o.notes) (λ c. ap (λ b. makes_event c.action && not b) (noted_same (meaning plan).notes o.notes is.notes c.line)) plan.commands) in
    let chart : chart_of h ≡ chart_lines o.chart = chart-is (length plan.names) plan.capacity h it ∙ ap chart_lines (sym is.chart) in
    subst (λ c. IsRun c (turns_of plan.commands o.notes)) chart (subst (IsRun (chart_of h)) (turns ∙ same) (history_run (length plan.names) plan.capacity h it))
