-- The picked row: the highest of some arrivals, a message, a send.
use Rattle.std.proofs.Common.{◌≡◌, ℕ, suc, ◌<◌, ◌≤◌, inl, inr, Bool, true, false, cond, List, [], ◌∷◌, ◌++◌, length, take, Option, None, Some, refl, sym, ap, ◌∙◌, subst, arith}
use Rattle.std.specs.Prelude.{MatchOption, nat_lt, slice_get}
use Rattle.std.proofs.lemmas.Bool.{cases_eq, ltb-true, ltb-false}
use Rattle.std.proofs.lemmas.List.{take_at, take-append-le}
use Rattle.std.proofs.lemmas.Option.{slice_get_within, same_Some}
use Rattle.chart.specs.Charts.{Chart, Place, LineView, BelongsTo, chart_lines}
use Rattle.chart.proofs.Belongs.{same_send, not_both}
use Rattle.chart.proofs.Tally.{ith_from_append, ith_single}
use Rattle.closure.specs.Faults.{place_of}
use Rattle.closure.specs.Closures.{IsPossibleChart}
use Rattle.closure.proofs.ReadLemmas.{instance_within}
use Rattle.chart_layout.specs.declared.row.Row.{Row}
use Rattle.chart_layout.specs.declared.row.Row.TheVariants.{Message, Event}
use Rattle.chart_layout.specs.declared.finding.Arrival.{Arrival}
use Rattle.chart_layout.specs.declared.finding.Way.TheVariants.{Level, Early}
use Rattle.chart_layout.specs.Layouts.{row_of, AreInOrder}
use Rattle.chart_layout.specs.Picking.{line_of, last_from, last_line, IsFirst, IsPicked}
use Rattle.chart_layout.specs.Searching.{higher, IsHighestOf}
use Rattle.chart_layout.specs.Ways.{IsArrival, IsWay, HasNoArrival, HaveNoArrival, HaveNoWay, IsNextRow, AreLaidOut}
use Rattle.chart_layout.proofs.FindLemmas.{same_next, all_laid_out}

-- what a line's next event may be
abbrev pub IsFoundOn : Chart → List Row → ℕ → Option Arrival → Type 0
IsFoundOn c rows p found = MatchOption found (HasNoArrival c rows p) (λ a. (a.receive.instance ≡ suc p) × IsArrival c rows (place_of a.receive) a.row)

-- an arrival is the only one of its line
same_arrival : (c : Chart) (rows : List Row) (x y : Place) (i j : ℕ) → x.instance ≡ y.instance → IsArrival c rows x i → IsArrival c rows y j → i ≡ j
same_arrival c rows x y i j line one other =
    let same = same_next c rows x y line one.next other.next in
    let sends = same_send c one.send other.send y (subst (BelongsTo c one.send) same one.belongs) other.belongs in
    same_Some i j (sym one.row ∙ ap (row_of rows) sends ∙ other.row)

-- one more line
module _ (c : Chart) (rows : List Row) (p : ℕ) where
  none_more : HaveNoArrival c p rows → HasNoArrival c rows p → HaveNoArrival c (suc p) rows
  none_more before here q less = elim (cases_eq q p) [
    | inl last ↦ subst (HasNoArrival c rows) (sym last) here
    | inr other ↦ before q (omega (arith, less, other))
  ]

  abbrev AreLower : Arrival → ℕ → Type 0
  AreLower best n = (q : ℕ) (x : Place) (j : ℕ) → q < n → x.instance ≡ suc q → IsArrival c rows x j → best.row ≤ j

  lower_more : (best : Arrival) → AreLower best p → ((x : Place) (j : ℕ) → x.instance ≡ suc p → IsArrival c rows x j → best.row ≤ j) → AreLower best (suc p)
  lower_more best before here q x j less line arrival = elim (cases_eq q p) [
    | inl last ↦ here x j (line ∙ ap suc last) arrival
    | inr other ↦ before q x j (omega (arith, less, other)) line arrival
  ]

  -- the send of line p's arrival is at least as high as that of each arrival of this line
  lower_here : (found : Arrival) → found.receive.instance ≡ suc p → IsArrival c rows (place_of found.receive) found.row → (x : Place) (j : ℕ) → x.instance ≡ suc p → IsArrival c rows x j → found.row ≤ j
  lower_here found line is x j its arrival = let same = same_arrival c rows (place_of found.receive) x found.row j (line ∙ sym its) is arrival in omega (arith, same)

  pub highest-next : (best found : Option Arrival) → IsHighestOf c p rows best → IsFoundOn c rows p found → IsHighestOf c (suc p) rows (higher best found)
  highest-next None None before here = none_more before here
  highest-next None (Some a) before here = (here.1, lower_more a (λ q x j less line arrival. absurd (before q less x j line arrival)) (lower_here a here.0 here.1))
  highest-next (Some b) None before here = (before.0, lower_more b before.1 (λ x j line arrival. absurd (here x j line arrival)))
  highest-next (Some b) (Some a) before here = go (nat_lt a.row b.row) refl
    where
      go : (less : Bool) → nat_lt a.row b.row ≡ less → IsHighestOf c (suc p) rows (Some (cond less a b))
      go true is = let above = ltb-true a.row b.row is in (here.1, lower_more a (λ q x j less line arrival. let low = before.1 q x j less line arrival in omega arith) (lower_here a here.0 here.1))
      go false is = let above = ltb-false a.row b.row is in (before.0, lower_more b before.1 (λ x j line arrival. let low = lower_here a here.0 here.1 x j line arrival in omega arith))

-- the resulting row
module _ (lines : List LineView) (rows : List Row) where
  abbrev c : Chart
  c = chart_lines lines

  abbrev n : ℕ
  n = length lines

  pub picked_arrival : (best : Arrival) → IsHighestOf c n rows (Some best) → IsPicked c n rows (Event best.receive)
  picked_arrival best is = inl (best.row, is.0, λ x j arrival. let on = instance_within lines x arrival.next.event in is.1 on.0 x j on.2 on.1 arrival)

  pub picked_message : (hint : ℕ) (row : Row) → last_line rows ≡ suc hint → HaveNoArrival c n rows → IsWay c rows Level row × IsFirst c rows Level (suc hint) row → IsPicked c n rows row
  picked_message hint (Message s r) last none way = (none, (way.0, subst (λ line. IsFirst c rows Level line (Message s r)) (sym last) way.1))
  picked_message hint (Event e) last none way = absurd way.0

  picked_send : (hint : ℕ) (row : Row) → last_line rows ≡ suc hint → HaveNoArrival c n rows → HaveNoWay c n rows Level → IsWay c rows Early row × IsFirst c rows Early (suc hint) row → IsPicked c n rows row
  picked_send hint (Message s r) last none level way = absurd way.0
  picked_send hint (Event e) last none level way = inr (none, level, (way.0, subst (λ line. IsFirst c rows Early line (Event e)) (sym last) way.1))

  -- the result of the last way
  pub last_way : (hint : ℕ) → IsPossibleChart lines → AreInOrder rows → last_line rows ≡ suc hint → HaveNoArrival c n rows → HaveNoWay c n rows Level → (found : Option Row)
      → MatchOption found (HaveNoWay c n rows Early) (λ row. IsWay c rows Early row × IsFirst c rows Early (suc hint) row) → MatchOption found (AreLaidOut c n rows) (IsPicked c n rows)
  last_way hint possible order last none level None early = all_laid_out lines rows possible order none early
  last_way hint possible order last none level (Some row) way = picked_send hint row last none level way

  -- a row that is picked may be the next one
  pub next_picked : (row : Row) → IsPicked c n rows row → IsNextRow c rows row
  next_picked (Message s r) picked = picked.1.0
  next_picked (Event e) (inl highest) = record {
    next = highest.1.next;
    after = λ s belongs. (highest.0, ap (row_of rows) (same_send c s highest.1.send (place_of e) belongs highest.1.belongs) ∙ highest.1.row);
  }
  next_picked (Event e) (inr early) = record {
    next = early.2.0.0;
    after = λ s belongs. absurd (not_both c early.2.0.1.0 s.instance (place_of e) early.2.0.1.1 belongs.received);
  }

-- a fact that holds of each row and of those above it
abbrev pub OfEach : (List Row → Row → Type 0) → List Row → Type 0
OfEach Holds rows = (i : ℕ) (row : Row) → slice_get rows i ≡ Some row → Holds (take i rows) row

pub OfEach-next : (Holds : List Row → Row → Type 0) (rows : List Row) (row : Row) → OfEach Holds rows → Holds rows row → OfEach Holds (rows ++ row ∷ [])
OfEach-next Holds rows row old new i x at_i =
    elim (ith_from_append rows (row ∷ []) (suc i) x at_i) [
      | inl first ↦
          let inside = slice_get_within rows i x first in
          subst (λ xs. Holds xs x) (sym (take-append-le i rows (row ∷ []) (omega (arith, inside)))) (old i x first)
      | inr last ↦
          let one = ith_single row last.0 x last.2 in
          let here : i ≡ length rows = omega (arith, last.1, one.0) in
          subst (λ xs. Holds xs x) (sym (take_at rows (row ∷ []) i (sym here))) (subst (Holds rows) one.1 new)
    ]

-- the line from which the search for the next row begins is the last row's
pub last_from-push : (p : ℕ) (rows : List Row) (row : Row) → last_from p (rows ++ row ∷ []) ≡ line_of row
last_from-push p [] row = refl
last_from-push p (first ∷ rows) row = last_from-push (line_of first) rows row
