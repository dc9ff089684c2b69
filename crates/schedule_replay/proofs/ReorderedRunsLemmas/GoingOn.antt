-- How a run goes on.
use Rattle.std.proofs.Common.{◌≡◌, ℕ, zero, suc, ◌+◌, ◌<◌, ◌≤◌, inl, inr, false, List, [], ◌∷◌, ◌++◌, length, set, take, replicate, Option, None, Some, MatchOption, refl, sym, ap, ◌∙◌, subst, arith, take_all, append_assoc, append-nil, length-append}
use Rattle.std.specs.Prelude.{slice_get, slice_index}
use Rattle.std.proofs.lemmas.Bool.{cases_lt, cases_eq}
use Rattle.std.proofs.lemmas.List.{length_push, get_or-set_same, get_or-replicate, get_or_past, length-replicate, take-append-le}
use Rattle.std.proofs.lemmas.Option.{same_Some, slice_get_within}
use Rattle.chart.specs.declared.history.Occurrence.{Occurrence}
use Rattle.chart.specs.declared.history.Occurrence.TheVariants as occurrences
use Rattle.chart.specs.declared.event.Event.{Event}
use Rattle.chart.specs.declared.event.Event.TheVariants.{Send, Receive}
use Rattle.chart.specs.declared.instance.TheConstants.{MAX_INSTANCES}
use Rattle.chart.specs.declared.line.TheConstants.{MAX_EVENTS}
use Rattle.chart.specs.Messages.{Content}
use Rattle.chart.specs.Events.{ith, receive_event, MayHaveRegion}
use Rattle.chart.specs.Histories.{by, waiting, is_closed, chart_of, MayFollow, IsLegal}
use Rattle.chart.specs.Charts.{Chart, LineView, IsChart, IsPossible, chart_lines}
use Rattle.chart.proofs.Growing.{GrowsTo}
use Rattle.chart.proofs.Sends.{line_after_send, line_after_receive}
use Rattle.chart.proofs.Steps.{line_of_other}
use Rattle.chart.proofs.Tally.{ith-append_next}
use Rattle.closure.specs.Rows.{entry}
use Rattle.closure.proofs.ReadLemmas.{empty_line, line_short, partner_within, partner_other}
use Rattle.closure.proofs.RunLemmas.{entry-raised}
use Rattle.chart.specs.declared.run_steps.step.Step.{Step}
use Rattle.chart.specs.RunSteps.Steps.{occurrence_of, history_of, maker_of, step_made}
use Rattle.schedule_replay.specs.ReorderedRuns.Runs.{IsChartRun, IsInTurn, IsNext, IsStopped, IsHeld, MayCome}
use Rattle.schedule_replay.proofs.ReorderedRunsLemmas.Partners.{partner-begun, first_named}

-- a legal history without closes made these numbers of events of each line of the chart, and no others
pub record IsGoing (n k : ℕ) (c : Chart) (h : List Occurrence) (made : List ℕ) : Type 0 where
  pub legal : IsLegal n k h
  pub never_closed : (p q : ℕ) → is_closed h p q ≡ false
  pub grows : GrowsTo (chart_of h) c
  pub many : (p : ℕ) → length (chart_of h p) ≡ entry made p

-- at first no events were made
pub IsGoing-start : (n k m : ℕ) (c : Chart) → IsGoing n k c [] (replicate m 0)
IsGoing-start n k m c = record {
  legal = tt;
  never_closed = λ p q. refl;
  grows = λ p. (c p, refl);
  many = λ p. sym (zeros p);
}
  where
    zeros : (p : ℕ) → entry (replicate m 0) p ≡ 0
    zeros zero = refl
    zeros (suc p) =
        elim (cases_lt p m) [
          | inl within ↦ get_or-replicate m p 0 0 within
          | inr past ↦ get_or_past (replicate m 0) p 0 (rw length-replicate past)
        ]

-- a line that begins with these events also begins with the next one
begins-more : (xs more ys : List Event) (m : Event) → ys ≡ xs ++ more → slice_get ys (length xs) ≡ Some m → (rest : List Event) × (ys ≡ (xs ++ m ∷ []) ++ rest)
begins-more xs [] ys m e is =
    let within = slice_get_within ys (length xs) m is in
    let same : length ys ≡ length xs = ap length (e ∙ append-nil xs) in
    absurd (omega arith)
begins-more xs (y ∷ rest) ys m e is =
    let same : y ≡ m = same_Some y m (sym (ith-append_next xs rest y) ∙ ap (λ l. ith l (suc (length xs))) (sym e) ∙ is) in
    (rest, e ∙ ap (λ z. xs ++ z ∷ rest) same ∙ sym (append_assoc xs (m ∷ []) rest))

module _ (lines : List LineView) (k : ℕ) (h : List Occurrence) (made : List ℕ) (p : ℕ) (chart : IsChart lines) (possible : IsPossible (length lines) (chart_lines lines)) (whole : length made ≡ MAX_INSTANCES) (old : IsGoing (length lines) k (chart_lines lines) h made) (inside : p < length lines) where
  abbrev n : ℕ
  n = length lines

  abbrev c : Chart
  c = chart_lines lines

  abbrev i : ℕ
  i = slice_index made p

  -- this event of the line is made
  next-by : (e : Occurrence) (m : Event) → by e ≡ suc p → slice_get (c (suc p)) i ≡ Some m → MayFollow n k h e → ((a b : ℕ) → is_closed (e ∷ h) a b ≡ false) → chart_of (e ∷ h) (suc p) ≡ chart_of h (suc p) ++ m ∷ [] → IsGoing n k c (e ∷ h) (set made p (i + 1))
  next-by e m its is follows never line = record {
    legal = (follows, old.legal);
    never_closed = never;
    grows = λ r. elim (cases_eq r (suc p)) [
      | inl here ↦
          let g = old.grows (suc p) in
          let w = begins-more (chart_of h (suc p)) g.0 (c (suc p)) m g.1 (subst (λ j. slice_get (c (suc p)) j ≡ Some m) (sym (old.many (suc p))) is) in
          subst (λ x. (more : List Event) × (c x ≡ chart_of (e ∷ h) x ++ more)) (sym here) (w.0, w.1 ∙ ap (λ xs. xs ++ w.0) (sym line))
      | inr other ↦
          let g = old.grows r in
          (g.0, g.1 ∙ ap (λ xs. xs ++ g.0) (sym (line_of_other h e r (λ x. other (sym x ∙ its)))))
    ];
    many = λ r. elim (cases_eq r (suc p)) [
      | inl here ↦
          subst (λ x. length (chart_of (e ∷ h) x) ≡ entry (set made p (i + 1)) x) (sym here)
          (ap length line ∙ length_push (chart_of h (suc p)) m ∙ ap (λ j. j + 1) (old.many (suc p)) ∙ sym (get_or-set_same made p (i + 1) 0 (omega (arith, whole, inside, chart.limit))))
      | inr other ↦ ap length (line_of_other h e r (λ x. other (sym x ∙ its))) ∙ old.many r ∙ sym (entry-raised made p (i + 1) r other)
    ];
  }

  module _ (m : Event) (is : slice_get (c (suc p)) i ≡ Some m) where
    -- the line has room for it
    room : length (chart_of h (suc p)) < MAX_EVENTS
    room =
        let within = slice_get_within (c (suc p)) i m is in
        let most = line_short lines p chart inside in
        let many = old.many (suc p) in
        omega arith

  next-send : (q : ℕ) (name : List ℕ) → slice_get (c (suc p)) i ≡ Some (Send q name) → length (waiting h (suc p) q) < k → IsGoing n k c (occurrences.Send (suc p) q (record { name = name; body = [] }) ∷ h) (set made p (i + 1))
  next-send q name is free =
      let x : Content = record { name = name; body = [] } in
      let within = partner_within lines p i (Send q name) chart inside is in
      let other = partner_other lines p i (Send q name) chart inside is in
      let begun = partner-begun n c possible (suc p) (suc i) (Send q name) is in
      next-by (occurrences.Send (suc p) q x) (Send q name) refl is
      ((omega arith, omega arith, begun, within, λ e. other (sym e)), old.never_closed (suc p) q, free, room (Send q name) is)
      old.never_closed (line_after_send h (suc p) q x)

  next-receive : (q : ℕ) (name : List ℕ) (region : ℕ) → slice_get (c (suc p)) i ≡ Some (Receive q name region) → 0 < length (waiting h q (suc p)) → IsGoing n k c (occurrences.Receive (suc p) q region ∷ h) (set made p (i + 1))
  next-receive q name region is some = from_first (waiting h q (suc p)) refl some
    where
      m : Event
      m = Receive q name region

      front : take i (c (suc p)) ≡ chart_of h (suc p)
      front =
          let g = old.grows (suc p) in
          let many = old.many (suc p) in
          ap (λ j. take j (c (suc p))) (sym many) ∙ ap (take (length (chart_of h (suc p)))) g.1 ∙ take-append-le (length (chart_of h (suc p))) (chart_of h (suc p)) g.0 (omega arith) ∙ take_all (length (chart_of h (suc p))) (chart_of h (suc p)) (omega arith)

      region_may : MayHaveRegion (chart_of h (suc p)) region
      region_may = subst (λ xs. MayHaveRegion xs region) front ((chart.each p (record { instance = suc p; events = [] }) inside).regions i (Receive q name region) is)

      from_first : (ms : List Content) → waiting h q (suc p) ≡ ms → 0 < length ms → IsGoing n k c (occurrences.Receive (suc p) q region ∷ h) (set made p (i + 1))
      from_first [] none one = absurd (omega arith)
      from_first (x ∷ rest) first one =
          let within = partner_within lines p i (Receive q name region) chart inside is in
          let other = partner_other lines p i (Receive q name region) chart inside is in
          let begun = partner-begun n c possible (suc p) (suc i) (Receive q name region) is in
          let there = subst (λ j. slice_get (c (suc p)) j ≡ Some (Receive q name region)) (sym (old.many (suc p))) is in
          let named = first_named n c possible h k old.legal old.grows q (suc p) name region there x rest first in
          next-by (occurrences.Receive (suc p) q region) (Receive q name region) refl is
          ((omega arith, omega arith, begun, within, λ e. other (sym e)), some, room (Receive q name region) is, region_may)
          old.never_closed
          (line_after_receive h (suc p) q region x rest first ∙ ap (λ a. chart_of h (suc p) ++ receive_event q a region ∷ []) named)

  -- the next event, by its step
  pub IsGoing-next : (x : Step) → IsNext c k h made p x → IsGoing n k c (occurrence_of x ∷ h) (set made p (i + 1))
  IsGoing-next x (m, is, its, may) = subst (λ y. IsGoing n k c (occurrence_of y ∷ h) (set made p (i + 1))) (sym its) (go m is may)
    where
      go : (m : Event) → slice_get (c (suc p)) i ≡ Some m → MayCome k h (suc p) m → IsGoing n k c (occurrence_of (step_made (suc p) m) ∷ h) (set made p (i + 1))
      go (Send q name) is may = next-send q name is may
      go (Receive q name region) is may = next-receive q name region is may

-- if all events were made, the chart is the history's
pub IsChartRun-done : (lines : List LineView) (k : ℕ) (steps : List Step) (made : List ℕ) → IsGoing (length lines) k (chart_lines lines) (history_of steps) made → ((p : ℕ) → p < length lines → length (chart_lines lines (suc p)) ≤ slice_index made p) → IsInTurn (chart_lines lines) (length lines) k (history_of steps) → IsChartRun (length lines) k (chart_lines lines) steps
IsChartRun-done lines k steps made old all turn = record {
  legal = old.legal;
  turn = turn;
  chart = λ p. let g = old.grows p in sym (nothing_more (chart_of (history_of steps) p) g.0 (chart_lines lines p) g.1 (subst (λ j. length (chart_lines lines p) ≤ j) (sym (old.many p)) (whole p)));
}
  where
    whole : (p : ℕ) → length (chart_lines lines p) ≤ entry made p
    whole zero = omega arith
    whole (suc p) =
        elim (cases_lt p (length lines)) [
          | inl within ↦ all p within
          | inr past ↦ let e = ap length (empty_line lines p past) in omega arith
        ]

    nothing_more : (xs more ys : List Event) → ys ≡ xs ++ more → length ys ≤ length xs → ys ≡ xs
    nothing_more xs [] ys e le = e ∙ append-nil xs
    nothing_more xs (y ∷ more) ys e le = let same = ap length e ∙ length-append xs (y ∷ more) in absurd (omega arith)

-- the next step of a line is its instance's, and the line has room for it
pub maker-next : (c : Chart) (k : ℕ) (h : List Occurrence) (made : List ℕ) (p : ℕ) (x : Step) → IsNext c k h made p x → maker_of x ≡ suc p
maker-next c k h made p x (m, is, its, may) = ap maker_of its ∙ go m
  where
    go : (y : Event) → maker_of (step_made (suc p) y) ≡ suc p
    go (Send q name) = refl
    go (Receive q name region) = refl

pub left-next : (c : Chart) (k : ℕ) (h : List Occurrence) (made : List ℕ) (p : ℕ) (x : Step) → IsNext c k h made p x → slice_index made p < length (c (suc p))
left-next c k h made p x (m, is, its, may) = slice_get_within (c (suc p)) (slice_index made p) m is

pub room-next : (lines : List LineView) (k : ℕ) (h : List Occurrence) (made : List ℕ) (p : ℕ) (x : Step) → IsChart lines → p < length lines → IsNext (chart_lines lines) k h made p x → (line : ℕ) → maker_of x ≡ suc line → slice_index made line < MAX_EVENTS
room-next lines k h made p x chart inside next line its =
    let same : p ≡ line = omega (arith, maker-next (chart_lines lines) k h made p x next, its) in
    subst (λ j. slice_index made j < MAX_EVENTS) same (omega (arith, line_short lines p chart inside, left-next (chart_lines lines) k h made p x next))

-- whether a line can go on, decided by whether its lane lets the next event come
pub next_from : (c : Chart) (k : ℕ) (h : List Occurrence) (made : List ℕ) (p : ℕ) (m : Event) (actor : ℕ) → slice_get (c (suc p)) (slice_index made p) ≡ Some m → actor ≡ suc p → (found : Option Step) → MatchOption found (IsHeld k h actor m) (λ x. (x ≡ step_made actor m) × MayCome k h actor m)
    → MatchOption found (IsStopped c k h made p) (IsNext c k h made p)
next_from c k h made p m actor is its None held = λ x at_x. subst (IsHeld k h (suc p)) (same_Some m x (sym is ∙ at_x)) (subst (λ a. IsHeld k h a m) its held)
next_from c k h made p m actor is its (Some x) (same, may) = (m, is, subst (λ a. x ≡ step_made a m) its same, subst (λ a. MayCome k h a m) its may)
