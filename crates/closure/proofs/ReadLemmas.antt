-- Reads of lines, and the events at their places.
use Rattle.std.proofs.Common.{◌≡◌, ◌≢◌, ℕ, zero, suc, ◌+◌, ◌-◌, ◌<◌, ◌≤◌, inl, inr, List, [], ◌∷◌, ◌++◌, length, take, get_or, Some, refl, sym, ap, ◌∙◌, subst, arith}
use Rattle.std.proofs.lemmas.Bool.{cases_lt}
use Rattle.std.specs.Prelude.{slice_get}
use Rattle.std.proofs.lemmas.Option.{slice_get_read, slice_get_within, slice_get-get_or, get_or_from_slice_get}
use Rattle.std.proofs.lemmas.List.{get_or_past, take_more}
use Rattle.chart.specs.declared.event.Event.{Event}
use Rattle.chart.specs.declared.line.TheConstants.{MAX_EVENTS}
use Rattle.chart.specs.Events.{ith, partner_of}
use Rattle.chart.specs.Charts.{Place, at, chart_event, LineView, IsLine, IsChart, chart_lines}
use Rattle.chart.specs.Places.{IsEvent}
use Rattle.chart.proofs.Tally.{ith_within}

-- the element that was read at an index less one is at this index
pub ith_read : {X : Type 0} (xs : List X) (j : ℕ) (x : X) → 1 ≤ j → j ≤ length xs → x ≡ get_or xs (j - 1) x → ith xs j ≡ Some x
ith_read xs zero x low high is = absurd (omega arith)
ith_read xs (suc i) x low high is =
    let e : suc i - 1 ≡ i = omega arith in
    slice_get_read xs (length xs) i x refl (omega arith) (subst (λ k. x ≡ get_or xs k x) e is)

-- the first elements, and one more
pub front_next : {X : Type 0} → (xs : List X) (k : ℕ) (x : X) → slice_get xs k ≡ Some x → take (k + 1) xs ≡ take k xs ++ x ∷ []
front_next xs k x is = take_more xs k x (slice_get_within xs k x is) ∙ ap (λ y. take k xs ++ y ∷ []) (get_or_from_slice_get xs k x x is)

-- a number that is no instance's has an empty line
pub empty_line : (lines : List LineView) (p : ℕ) → length lines ≤ p → chart_lines lines (suc p) ≡ []
empty_line lines p past = ap (λ (l : LineView). l.events) (get_or_past lines p (record { instance = suc p; events = [] }) past)

-- an event is on a line
pub line_within : (lines : List LineView) (p i : ℕ) → IsEvent (chart_lines lines) (at (suc p) i) → p < length lines
line_within lines p i here =
    elim (cases_lt p (length lines)) [
      | inl within ↦ within
      | inr past ↦ let e = ap length (empty_line lines p past) in absurd (omega arith)
    ]

-- the instance of an event is one of the chart's
pub instance_within : (lines : List LineView) (e : Place) → IsEvent (chart_lines lines) e → (p : ℕ) × (e.instance ≡ suc p) × (p < length lines)
instance_within lines e here = go e.instance refl
  where
    go : (q : ℕ) → e.instance ≡ q → (p : ℕ) × (e.instance ≡ suc p) × (p < length lines)
    go zero is = let w = subst (λ x. e.index ≤ length (chart_lines lines x)) is here.1 in let v = here.0 in absurd (omega arith)
    go (suc p) is = (p, is, line_within lines p e.index (subst (λ x. IsEvent (chart_lines lines) (at x e.index)) is here))

-- the partner of an event is one of the chart's instances
pub partner_within : (lines : List LineView) (p k : ℕ) (m : Event) → IsChart lines → p < length lines → chart_event (chart_lines lines) (at (suc p) (suc k)) ≡ Some m → partner_of m ≤ length lines
partner_within lines p k m chart within at_k =
    let l : LineView = get_or lines p (record { instance = suc p; events = [] }) in
    let bound = (ith_within l.events (suc k) m at_k).1 in
    subst (λ x. partner_of x ≤ length lines) (get_or_from_slice_get l.events k m m at_k) (chart.partners p (record { instance = suc p; events = [] }) within k m (omega arith))

-- and it is another instance
pub partner_other : (lines : List LineView) (p k : ℕ) (m : Event) → IsChart lines → p < length lines → chart_event (chart_lines lines) (at (suc p) (suc k)) ≡ Some m → partner_of m ≢ suc p
partner_other lines p k m chart within at_k same =
    let d : LineView = record { instance = suc p; events = [] } in
    let line : IsLine (get_or lines p d) = chart.each p d within in
    line.partners k m at_k (same ∙ sym (chart.numbered p (get_or lines p d) (slice_get-get_or lines p d within)))

-- a line is short
pub line_short : (lines : List LineView) (p : ℕ) → IsChart lines → p < length lines → length (chart_lines lines (suc p)) ≤ MAX_EVENTS
line_short lines p chart within = (chart.each p (record { instance = suc p; events = [] }) within).short
