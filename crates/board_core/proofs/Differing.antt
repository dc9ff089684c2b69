-- Differences between clocks, applied, and the differences on a lane.
use Rattle.std.proofs.Common.{◌≡◌, ℕ, zero, suc, ◌+◌, ◌<◌, ◌≤◌, ◌⊎◌, inl, inr, List, [], ◌∷◌, length, get_or, Contains, Some, refl, sym, ap, ◌∙◌, subst, arith}
use Rattle.std.specs.Prelude.{slice_get}
use Rattle.std.proofs.lemmas.Bool.{cases_eq}
use Rattle.std.proofs.lemmas.List.{ext_get_or, length-replicate}
use Rattle.std.proofs.lemmas.Option.{slice_get-get_or}
use Rattle.chart.specs.declared.history.Occurrence.{Occurrence}
use Rattle.chart.specs.Events.{is_send_to}
use Rattle.chart.specs.Histories.{chart_of, IsLegal}
use Rattle.chart.proofs.Lanes.{sent_count}
use Rattle.chart.proofs.Tally.{tally-le-count_by}
use Rattle.clock.specs.declared.diff.Change.{Change}
use Rattle.clock.specs.Clocks.{entry_of, with_entry}
use Rattle.clock.specs.Diffs.{apply_diff, IsDiff}
use Rattle.clock.proofs.DiffLemmas.{IsDiffUpTo, up_to_none, up_to_same, up_to_change, up_to_all}
use Rattle.line_recorder.specs.Carried.{clocks_of}
use Rattle.line_recorder.proofs.Carrying.{clocks_many, carried_clock, carried_entries}
use Rattle.clock.proofs.EntryLemmas.{entry_of-with_entry, entry_of-with_entry_other, length-with_entry}
use Rattle.board_core.specs.Parcels.{clocks, goods}
use Rattle.board_core.specs.Differences.{zeros, AreDiffs, restored}
use Rattle.board_core.specs.Runs.{history_of}
use Rattle.board_core.specs.Laws.{DifferencesLaw, RestoringLaw, KnowledgeLaw, RunRestoringLaw}
use Rattle.board_core.proofs.GoodsLemmas.{goods_clocks}
use Rattle.board_core.proofs.Knowledge.{legal, lanes}

-- Two clocks with the same number of entries.

-- a change is the first one, or one of the others
first_or_later : (first : Change) (rest : List Change) (change : Change) → Contains (first ∷ rest) change → (first ≡ change) ⊎ Contains rest change
first_or_later first rest change (zero, within, e) = inl e
first_or_later first rest change (suc k, within, e) = inr (k, omega (arith, within), e)

-- changes that write the clock's entries turn the base into the clock, if the base has the entries that none of them
-- writes
made_clock : (base clock : List ℕ) (diff : List Change) → length base ≡ length clock
    → ((change : Change) → Contains diff change → (1 ≤ change.instance) × (change.instance ≤ length clock) × (change.entry ≡ entry_of clock change.instance))
    → ((p : ℕ) → 1 ≤ p → p ≤ length clock → ((x : ℕ) → Contains diff (record { instance = p; entry = x }) → ⊥) → entry_of base p ≡ entry_of clock p)
    → apply_diff base diff ≡ clock
made_clock base clock [] same writes others =
    ext_get_or 0 base clock same (λ i within. others (suc i) (omega arith) (omega (arith, same, within)) (λ x (k, inside, e). absurd (omega (arith, inside))))
made_clock base clock (first ∷ rest) same writes others =
    let this = writes first (0, omega arith, refl) in
    let p = first.instance in
    let x = first.entry in
    made_clock (with_entry base p x) clock rest (length-with_entry base p x ∙ same)
    (λ change (k, within, e). writes change (suc k, omega (arith, within), e))
    (λ r low high none. elim (cases_eq r p) [
      | inl own ↦ ap (entry_of (with_entry base p x)) own ∙ entry_of-with_entry base p x this.0 (omega (arith, this.1, same)) ∙ this.2 ∙ ap (entry_of clock) (sym own)
      | inr other ↦ entry_of-with_entry_other base p r x other
          ∙ others r low high (λ y found. elim (first_or_later first rest (record { instance = r; entry = y }) found) [
            | inl here ↦ other (sym (ap (λ (change : Change). change.instance) here))
            | inr later ↦ none y later
          ])
    ])

-- the difference turns the base into the clock
difference_restores : (base clock : List ℕ) (diff : List Change) → length base ≡ length clock → IsDiff base clock diff → apply_diff base diff ≡ clock
difference_restores base clock diff same its =
    made_clock base clock diff same
    (λ change found. let is = (its.exact change).0 found in (is.first, is.last, is.entry))
    (λ p low high none. elim (cases_eq (entry_of base p) (entry_of clock p)) [
      | inl e ↦ e
      | inr other ↦
          let change : Change = record { instance = p; entry = entry_of clock p } in
          absurd (none change.entry ((its.exact change).1 (record { first = low; last = high; entry = refl; differs = λ e. other (sym e) })))
    ])

-- there is a difference up to each instance
difference_up_to : (base clock : List ℕ) → length clock ≡ length base → (n : ℕ) → n ≤ length clock → (diff : List Change) × IsDiffUpTo base clock n diff
difference_up_to base clock same zero within = ([], up_to_none base clock)
difference_up_to base clock same (suc n) within =
    let before = difference_up_to base clock same n (omega (arith, within)) in
    let next : n + 1 ≡ suc n = omega arith in
    subst (λ m. (diff : List Change) × IsDiffUpTo base clock m diff) next (elim (cases_eq (get_or clock n 0) (get_or base n 0)) [
      | inl e ↦ (before.0, up_to_same base clock n before.0 (omega (arith, within)) same e before.1)
      | inr other ↦ (_, up_to_change base clock n (get_or clock n 0) before.0 (omega (arith, within)) same refl other before.1)
    ])

-- there is a difference
difference : (base clock : List ℕ) → length base ≡ length clock → (diff : List Change) × IsDiff base clock diff
difference base clock same =
    let all = difference_up_to base clock (sym same) (length clock) (omega arith) in
    (all.0, up_to_all base clock (length clock) all.0 (sym same) refl all.1)

-- Clocks in order, all with the same number of entries.

-- each of these clocks has n entries
abbrev AreLong : ℕ → List (List ℕ) → Type 0
AreLong n those = (i : ℕ) (clock : List ℕ) → slice_get those i ≡ Some clock → length clock ≡ n

differences : (n : ℕ) (base : List ℕ) (those : List (List ℕ)) → length base ≡ n → AreLong n those → (diffs : List (List Change)) × AreDiffs base those diffs
differences n base [] long are_long = ([], tt)
differences n base (clock ∷ those) long are_long =
    let clock_long = are_long 0 clock refl in
    let first = difference base clock (long ∙ sym clock_long) in
    let rest = differences n clock those clock_long (λ i. are_long (suc i)) in
    (first.0 ∷ rest.0, (first.1, rest.1))

differences_restore : (n : ℕ) (base : List ℕ) (those : List (List ℕ)) (diffs : List (List Change)) → length base ≡ n → AreLong n those → AreDiffs base those diffs → restored base diffs ≡ those
differences_restore n base [] [] long are_long are = refl
differences_restore n base [] (diff ∷ diffs) long are_long are = absurd are
differences_restore n base (clock ∷ those) [] long are_long are = absurd are
differences_restore n base (clock ∷ those) (diff ∷ diffs) long are_long are =
    let clock_long = are_long 0 clock refl in
    let first = difference_restores base clock diff (long ∙ sym clock_long) are.0 in
    let rest = differences_restore n clock those diffs clock_long (λ i. are_long (suc i)) are.1 in
    subst (λ made. made ∷ restored made diffs ≡ clock ∷ those) (sym first) (ap (λ more. clock ∷ more) rest)

-- The laws.

-- the clocks on a lane have an entry for each instance
goods_long : (n k : ℕ) (h : List Occurrence) → IsLegal n k h → (q p : ℕ) → AreLong n (clocks (goods n h q p))
goods_long n k h legal q p = subst (AreLong n) (sym (goods_clocks n h q p)) (carried_entries n k h legal q p)

pub exist : DifferencesLaw
exist n k h legal q p = differences n (zeros n) (clocks (goods n h q p)) (length-replicate n 0) (goods_long n k h legal q p)

pub restore : RestoringLaw
restore n k h legal q p diffs are = differences_restore n (zeros n) (clocks (goods n h q p)) diffs (length-replicate n 0) (goods_long n k h legal q p) are

pub know : KnowledgeLaw
know n k h legal q p diffs are i j send =
    let within : i < length (clocks_of n h q p) = omega (arith, send.1, tally-le-count_by (is_send_to p) (chart_of h q) j, sent_count h q p, clocks_many n h q p) in
    let clock = get_or (clocks_of n h q p) i [] in
    let there : slice_get (clocks_of n h q p) i ≡ Some clock = slice_get-get_or (clocks_of n h q p) i [] within in (
      clock,
      ap (λ those. slice_get those i) (restore n k h legal q p diffs are ∙ goods_clocks n h q p) ∙ there,
      carried_entries n k h legal q p i clock there,
      carried_clock n k h legal q p i j clock there send,
    )

pub runs : RunRestoringLaw
runs n k steps run q p diffs =
    let h = history_of n k steps in
    subst (λ xs. AreDiffs (zeros n) (clocks xs) diffs → restored (zeros n) diffs ≡ clocks xs) (sym (lanes n k steps run q p).0) (restore n k h (legal n k steps run) q p diffs)
