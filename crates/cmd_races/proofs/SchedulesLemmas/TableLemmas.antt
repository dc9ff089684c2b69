-- The entries of a line's table for its receives.
use Rattle.std.proofs.Common.{◌≡◌, ℕ, zero, suc, ◌-◌, ◌≤◌, ◌↔◌, IsTrue, Bool, true, false, cond, List, [], ◌∷◌, Option, None, Some, take, refl, sym, ap, ◌∙◌, subst, arith}
use Rattle.std.specs.Prelude.{slice_get, option_map, unwrap_or}
use Rattle.std.proofs.lemmas.Bool.{false≢true}
use Rattle.std.proofs.lemmas.List.Sums.{sum_by-cons}
use Rattle.std.proofs.lemmas.Option.{none-some, slice_get-map, get_or_from_slice_get}
use Rattle.chart.specs.Charts.{at, LineView, IsNumbered, chart_lines}
use Rattle.chart.specs.Events.{ith, tally, is_receive}
use Rattle.chart.specs.declared.event.Event.{Event}
use Rattle.chart.specs.declared.event.Event.TheVariants.{Send, Receive}
use Rattle.schedule.specs.declared.command.Command.{Command}
use Rattle.cmd_races.specs.Schedules.Makers.{RunView, IsReceive, names_sender, received, NamesSender}
use Rattle.cmd_races.specs.Schedules.Tables.{kinds, first_kind, later_kinds, named, named_lines}

pub some_is : {A : Type 0} (a b : A) → Some a ≡ Some b → a ≡ b
some_is a b is = ap (λ o. unwrap_or o a) is

counted : (from : ℕ) (name : List ℕ) (region : ℕ) (line : List Event) (i : ℕ) → tally is_receive (Receive from name region ∷ line) (suc i) ≡ suc (tally is_receive line i)
counted from name region line i = let m : Event = Receive from name region in let e = sum_by-cons (λ (x : Event). cond {A = ℕ} (is_receive x) 1 0) m (take i line) in omega (arith, e)

-- the number of a receive is one more than the number of those before it
turn : (line : List Event) (i : ℕ) → IsReceive line (suc i) → tally is_receive line (suc i) ≡ suc (tally is_receive line i)
turn [] i (m, here, is) = absurd (none-some m here)
turn (Send to name ∷ line) zero (m, here, is) = absurd (false≢true (ap is_receive (some_is (Send to name) m here) ∙ is))
turn (Receive from name region ∷ line) zero (m, here, is) = refl
turn (Send to name ∷ line) (suc i) its = turn line i its
turn (Receive from name region ∷ line) (suc i) its = counted from name region line (suc i) ∙ ap suc (turn line i its) ∙ ap suc (sym (counted from name region line i))

later : (some : List Bool) (n : ℕ) → slice_get (later_kinds some) n ≡ slice_get some (suc n)
later [] n = refl
later (kind ∷ some) n = refl

first : (some : List Bool) → first_kind some ≡ true → slice_get some 0 ≡ Some true
first [] is = absurd (false≢true is)
first (kind ∷ some) is = ap Some is

first_back : (some : List Bool) → slice_get some 0 ≡ Some true → first_kind some ≡ true
first_back [] is = absurd (none-some true is)
first_back (kind ∷ some) is = some_is kind true is

abbrev IsRow : List Bool → List Event → ℕ → Type 0
IsRow some line i = IsReceive line (suc i) × (slice_get some (tally is_receive line i) ≡ Some true)

row : (some : List Bool) (line : List Event) (i : ℕ) → slice_get (named some line) i ≡ Some true → IsRow some line i
row some [] i is = absurd (none-some true is)
row some (Send to name ∷ line) zero is = absurd (false≢true (some_is false true is))
row some (Send to name ∷ line) (suc i) is = row some line i is
row some (Receive from name region ∷ line) zero is = ((Receive from name region, refl, refl), first some (some_is (first_kind some) true is))
row some (Receive from name region ∷ line) (suc i) is =
    let its = row (later_kinds some) line i is in (its.0, ap (slice_get some) (counted from name region line i) ∙ sym (later some (tally is_receive line i)) ∙ its.1)

row_back : (some : List Bool) (line : List Event) (i : ℕ) → IsRow some line i → slice_get (named some line) i ≡ Some true
row_back some [] i ((m, here, is), its) = absurd (none-some m here)
row_back some (Send to name ∷ line) zero ((m, here, is), its) = absurd (false≢true (ap is_receive (some_is (Send to name) m here) ∙ is))
row_back some (Send to name ∷ line) (suc i) its = row_back some line i its
row_back some (Receive from name region ∷ line) zero (receive, its) = ap Some (first_back some its)
row_back some (Receive from name region ∷ line) (suc i) (receive, its) = row_back (later_kinds some) line i (receive, later some (tally is_receive line i) ∙ ap (slice_get some) (sym (counted from name region line i)) ∙ its)

mapped : {A B : Type 0} (f : A → B) (o : Option A) (b : B) → option_map f o ≡ Some b → (a : A) × (o ≡ Some a) × (f a ≡ b)
mapped f None b is = absurd (none-some b is)
mapped f (Some a) b is = (a, refl, some_is (f a) b is)

module _ (run : RunView) (p i : ℕ) (line : List Event) (its : chart_lines run.lines p ≡ line) where
  abbrev commands : List Command
  commands = received run.commands run.notes p

  kind_of : Command → Bool
  kind_of command = names_sender command.action

  names : slice_get (named (kinds run.commands run.notes p) line) i ≡ Some true → NamesSender run (at p (suc i))
  names is =
      let r = row (kinds run.commands run.notes p) line i is in
      let made = mapped (λ (c : Command). names_sender c.action) (slice_get commands (tally is_receive line i)) true
      (sym (slice_get-map (λ (c : Command). names_sender c.action) commands (tally is_receive line i)) ∙ r.1) in
      let by_turn = ap (ith commands) (turn line i r.0) ∙ made.1 in
      record {
        receive = subst (λ (l : List Event). IsReceive l (suc i)) (sym its) r.0;
        command = made.0;
        made = subst (λ (l : List Event). ith commands (tally is_receive l (suc i)) ≡ Some made.0) (sym its) by_turn;
        names = made.2;
      }

  names_back : NamesSender run (at p (suc i)) → slice_get (named (kinds run.commands run.notes p) line) i ≡ Some true
  names_back n =
      let receive = subst (λ (l : List Event). IsReceive l (suc i)) its n.receive in
      let made = subst (λ (l : List Event). ith commands (tally is_receive l (suc i)) ≡ Some n.command) its n.made in
      let by_turn = ap (ith commands) (sym (turn line i receive)) ∙ made in
      row_back (kinds run.commands run.notes p) line i (
        receive,
        slice_get-map (λ (c : Command). names_sender c.action) commands (tally is_receive line i)
            ∙ ap (option_map (λ (c : Command). names_sender c.action)) by_turn ∙ ap Some n.names,
      )

-- the table of an instance's line
pub table_is : (run : RunView) (tables : List (List Bool)) → tables ≡ named_lines run.commands run.notes run.lines → IsNumbered run.lines → (p : ℕ) (table : List Bool) → slice_get tables p ≡ Some table
    → table ≡ named (kinds run.commands run.notes (suc p)) (chart_lines run.lines (suc p))
table_is run tables are numbered p table is =
    let of_line = λ (l : LineView). named (kinds run.commands run.notes l.instance) l.events in
    let found = mapped of_line (slice_get run.lines p) table (sym (slice_get-map of_line run.lines p) ∙ ap (λ ts. slice_get ts p) (sym are) ∙ is) in
    let l = found.0 in
    let events : chart_lines run.lines (suc p) ≡ l.events = ap (λ (x : LineView). x.events) (get_or_from_slice_get run.lines p l (record { instance = suc p; events = [] }) found.1) in
    sym found.2 ∙ ap (λ k. named (kinds run.commands run.notes k) l.events) (numbered p l found.1) ∙ ap (named (kinds run.commands run.notes (suc p))) (sym events)

-- the table's entry for an event
pub says : (run : RunView) (p i : ℕ) (table : List Bool) → table ≡ named (kinds run.commands run.notes p) (chart_lines run.lines p) → slice_get table i ≡ Some true → NamesSender run (at p (suc i))
says run p i table its is = names run p i (chart_lines run.lines p) refl (ap (λ t. slice_get t i) (sym its) ∙ is)

pub is_named : (run : RunView) (p i : ℕ) (table : List Bool) → table ≡ named (kinds run.commands run.notes p) (chart_lines run.lines p) → NamesSender run (at p (suc i)) → slice_get table i ≡ Some true
is_named run p i table its n = ap (λ t. slice_get t i) its ∙ names_back run p i (chart_lines run.lines p) refl n

-- the table's entry for an event of an instance's line, by the event's number
pub cell : (run : RunView) (tables : List (List Bool)) → tables ≡ named_lines run.commands run.notes run.lines → IsNumbered run.lines → (p : ℕ) (table : List Bool) → slice_get tables p ≡ Some table
    → (instance index : ℕ) → instance ≡ suc p → 1 ≤ index → (slice_get table (index - 1) ≡ Some true) ↔ NamesSender run (at instance index)
cell run tables are numbered p table is instance index place first =
    let its = table_is run tables are numbered p table is in
    let i = index - 1 in
    let number : index ≡ suc i = omega (arith, first) in
    subst (λ q. (slice_get table i ≡ Some true) ↔ NamesSender run (at q index)) (sym place)
    (subst (λ j. (slice_get table i ≡ Some true) ↔ NamesSender run (at (suc p) j)) (sym number)
    (says run (suc p) i table its, is_named run (suc p) i table its))

pub some_true : (o : Option Bool) (b : Bool) → o ≡ Some b → (N : Type 0) → (o ≡ Some true) ↔ N → IsTrue b ↔ N
some_true o b is N by = (λ t. by.0 (is ∙ ap Some t), λ n. some_is b true (sym is ∙ by.1 n))

pub none_true : (o : Option Bool) → o ≡ None → (N : Type 0) → (o ≡ Some true) ↔ N → IsTrue false ↔ N
none_true o is N by = (λ t. absurd (false≢true t), λ n. absurd (none-some true (sym is ∙ by.1 n)))
