-- The lines of a history's instances are its chart.
use Rattle.std.proofs.Common.{◌≡◌, ℕ, zero, suc, ◌+◌, ◌<◌, ◌≤◌, ◌⊎◌, inl, inr, List, [], ◌∷◌, length, get_or, refl, sym, ap, ◌∙◌, arith}
use Rattle.std.specs.Prelude.{All}
use Rattle.std.specs.List.{range_with_len}
use Rattle.std.proofs.lemmas.List.{get_or_past}
use Rattle.std.proofs.lemmas.List.Elements.{All-map}
use Rattle.std.proofs.lemmas.List.FromFn.{length-map-range_with_len, get_or-map-range_with_len}
use Rattle.std.proofs.lemmas.Option.{slice_get_within, get_or_from_slice_get}
use Rattle.std.proofs.Math.Path.{fun_ext}
use Rattle.std.proofs.lemmas.Bool.{cases_lt}
use Rattle.chart.specs.declared.history.Occurrence.{Occurrence}
use Rattle.chart.specs.declared.history.Occurrence.TheVariants as events
use Rattle.chart.specs.Events.{partner_of}
use Rattle.chart.specs.Histories.{by, chart_of, MayFollow, IsLegal}
use Rattle.chart.specs.HistoryLines.{history_line, history_lines}
use Rattle.chart.specs.Charts.{LineView, IsNumbered, HasPartners, chart_lines}
use Rattle.chart.proofs.Steps.{line_of_other}
use Rattle.chart.proofs.Histories.{partners-known}

-- a number that is no instance's has an empty line
no-line : (n k : ℕ) (h : List Occurrence) → IsLegal n k h → (p : ℕ) → (p ≡ 0) ⊎ (n < p) → chart_of h p ≡ []
no-line n k [] legal p none = refl
no-line n k (e ∷ h) legal p none = line_of_other h e p (λ same. absurd (out (by-within e legal.0) same none)) ∙ no-line n k h legal.1 p none
  where
    by-within : (e : Occurrence) → MayFollow n k h e → (1 ≤ by e) × (by e ≤ n)
    by-within (events.Send a b m) may = (may.0.0, may.0.1)
    by-within (events.Receive a b c) may = (may.0.0, may.0.1)
    by-within (events.Close a b) may = (may.0.0, may.0.1)

    out : (1 ≤ by e) × (by e ≤ n) → by e ≡ p → (p ≡ 0) ⊎ (n < p) → ⊥
    out within same (inl first) = absurd (omega (arith, within.0, same, first))
    out within same (inr past) = absurd (omega (arith, within.1, same, past))

-- the lines are the history's chart
pub chart-is : (n k : ℕ) (h : List Occurrence) → IsLegal n k h → chart_of h ≡ chart_lines (history_lines n h)
chart-is n k h legal = fun_ext (λ p. at_instance p)
  where
    at_instance : (p : ℕ) → chart_of h p ≡ chart_lines (history_lines n h) p
    at_instance zero = no-line n k h legal 0 (inl refl)
    at_instance (suc i) =
        let none : LineView = record { instance = suc i; events = [] } in
        let place : 1 + i ≡ suc i = omega arith in
        elim (cases_lt i n) [
          | inl within ↦ sym (ap (λ (l : LineView). l.events) (get_or-map-range_with_len (history_line h) 1 n i (suc i) none within place))
          | inr past ↦ no-line n k h legal (suc i) (inr (omega (arith, past))) ∙ sym (ap (λ (l : LineView). l.events) (get_or_past (history_lines n h) i none (omega (arith, past, length-map-range_with_len (history_line h) 1 n))))
        ]

-- they are numbered
pub lines-numbered : (n : ℕ) (h : List Occurrence) → IsNumbered (history_lines n h)
lines-numbered n h i l e =
    let inside = slice_get_within (history_lines n h) i l e in
    let within : i < n = omega (arith, inside, length-map-range_with_len (history_line h) 1 n) in
    let place : 1 + i ≡ suc i = omega arith in
    let same : l ≡ history_line h (suc i) = sym (get_or_from_slice_get (history_lines n h) i l l e) ∙ get_or-map-range_with_len (history_line h) 1 n i (suc i) l within place in
    ap (λ (x : LineView). x.instance) same

-- and have partners among the instances
pub lines-partnered : (n k : ℕ) (h : List Occurrence) → IsLegal n k h → HasPartners n (history_lines n h)
lines-partnered n k h legal =
    All-map (λ (l : LineView). All (λ m. partner_of m ≤ n) l.events) (history_line h) (range_with_len 1 n) (λ i d _. partners-known n k h legal (get_or (range_with_len 1 n) i d))

-- there is a line for each instance
pub length-history_lines : (n : ℕ) (h : List Occurrence) → length (history_lines n h) ≡ n
length-history_lines n h = length-map-range_with_len (history_line h) 1 n
