-- The rows that draw a chart: what is above a row, and the row of a send.
use Rattle.std.proofs.Common.{◌≡◌, ℕ, zero, suc, ◌+◌, ◌<◌, ◌≤◌, ◌||◌, ◌⊎◌, inl, inr, Bool, true, false, cond, List, [], ◌∷◌, ◌++◌, length, drop, Option, None, Some, refl, sym, ap, ◌∙◌, subst, arith, append_assoc, length-append}
use Rattle.std.specs.Prelude.{slice_get, option_map}
use Rattle.std.specs.List.{range_with_len}
use Rattle.std.proofs.lemmas.Option.{none-some, same_Some}
use Rattle.std.proofs.lemmas.List.FromFn.{length-range_with_len}
use Rattle.chart.specs.declared.instance.EventNo.{EventNo}
use Rattle.chart.specs.Charts.{Chart, Place, LineView, IsSendTo, IsReceiveFrom, chart_lines}
use Rattle.chart.specs.Places.{IsEvent}
use Rattle.chart.proofs.Belongs.{not_both}
use Rattle.closure.specs.Faults.{place_of}
use Rattle.chart_layout.specs.declared.row.Row.{Row}
use Rattle.chart_layout.specs.declared.row.Row.TheVariants.{Message, Event}
use Rattle.chart_layout.specs.Layouts.{number_on, row_on, laid_out, is_at, has_event, row_of, AreInOrder, IsDrawing}
use Rattle.chart_layout.proofs.BegunLemmas.{row_of_laid_out}
use Rattle.chart_layout.proofs.IndexLemmas.{is_at-true}
use Rattle.chart_layout.proofs.LaidOutLemmas.{number_on-own}

-- Numbers in lists, and ranges.

abbrev Has : List ℕ → ℕ → Type 0
Has [] x = ⊥
Has (y ∷ xs) x = (y ≡ x) ⊎ Has xs x

has_left : (xs ys : List ℕ) (x : ℕ) → Has xs x → Has (xs ++ ys) x
has_left [] ys x has = absurd has
has_left (y ∷ xs) ys x (inl here) = inl here
has_left (y ∷ xs) ys x (inr later) = inr (has_left xs ys x later)

has_right : (xs ys : List ℕ) (x : ℕ) → Has ys x → Has (xs ++ ys) x
has_right [] ys x has = has
has_right (y ∷ xs) ys x has = inr (has_right xs ys x has)

head_or : ℕ → List ℕ → ℕ
head_or d [] = d
head_or d (y ∷ l) = y

first_of_range : (a n y : ℕ) (ys : List ℕ) → y ∷ ys ≡ range_with_len a (suc n) → y ≡ a
unfolding head_or
first_of_range a n y ys is = ap (λ l. head_or a l) is

-- the first numbers of a range are below their number
has_ranged : (a n : ℕ) (xs ys : List ℕ) (x : ℕ) → xs ++ ys ≡ range_with_len a n → Has xs x → x < a + length xs
has_ranged a n [] ys x is has = absurd has
has_ranged a zero (y ∷ xs) ys x is has = absurd (omega (arith, ap length is))
has_ranged a (suc n) (y ∷ xs) ys x is (inl here) = let first = first_of_range a n y (xs ++ ys) is in omega (arith, first, here)
has_ranged a (suc n) (y ∷ xs) ys x is (inr later) = let rest = has_ranged (a + 1) n xs ys x (ap (drop 1) is) later in omega (arith, rest)

-- the number after the first ones of a range
seam : (a n : ℕ) (xs : List ℕ) (x : ℕ) (ys : List ℕ) → xs ++ x ∷ ys ≡ range_with_len a n → (x ≡ a + length xs) × (length xs < n)
seam a zero [] x ys is = absurd (omega (arith, ap length is))
seam a (suc n) [] x ys is = let first = first_of_range a n x ys is in (omega (arith, first), omega arith)
seam a zero (y ∷ xs) x ys is = absurd (omega (arith, ap length is))
seam a (suc n) (y ∷ xs) x ys is = let rest = seam (a + 1) n xs x ys (ap (drop 1) is) in (omega (arith, rest.0), omega (arith, rest.1))

-- Events in rows.

or_cases : (x y : Bool) → (x || y) ≡ true → (x ≡ true) ⊎ (y ≡ true)
or_cases true y its = inl refl
or_cases false y its = inr its

on_event : (s : Place) (e : EventNo) → is_at s e ≡ true → Has (number_on s.instance e) s.index
on_event s e its =
    let same = is_at-true s e its in
    subst (λ l. Has l s.index) (sym (number_on-own s.instance e (ap (λ (x : Place). x.instance) same))) (inl (ap (λ (x : Place). x.index) same))

on_row : (s : Place) (row : Row) → has_event s row ≡ true → Has (row_on s.instance row) s.index
on_row s (Event e) its = on_event s e its
on_row s (Message a b) its =
    elim (or_cases (is_at s a) (is_at s b) its) [
      | inl one ↦ has_left (number_on s.instance a) (number_on s.instance b) s.index (on_event s a one)
      | inr other ↦ has_right (number_on s.instance a) (number_on s.instance b) s.index (on_event s b other)
    ]

-- an event whose row is one of the upper ones is in these
in_above : (above rest : List Row) (s : Place) (j : ℕ) → row_of (above ++ rest) s ≡ Some j → j < length above → Has (laid_out above s.instance) s.index
in_above [] rest s j is less = absurd (omega (arith, less))
in_above (row ∷ above) rest s j is less = go (has_event s row) refl (row_of (above ++ rest) s) (λ i found low. in_above above rest s i found low) is
  where
    go : (here : Bool) → has_event s row ≡ here → (found : Option ℕ) → ((i : ℕ) → found ≡ Some i → i < length above → Has (laid_out above s.instance) s.index)
        → cond here (Some 0) (option_map suc found) ≡ Some j → Has (row_on s.instance row ++ laid_out above s.instance) s.index
    go true its found deeper e = has_left (row_on s.instance row) (laid_out above s.instance) s.index (on_row s row its)
    go false its None deeper e = absurd (none-some j e)
    go false its (Some i) deeper e =
        let same = same_Some (suc i) j e in
        has_right (row_on s.instance row) (laid_out above s.instance) s.index (deeper i refl (omega (arith, same, less)))

-- the row that has an event
at_row : (rows : List Row) (e : Place) (j : ℕ) → row_of rows e ≡ Some j → (row : Row) × (slice_get rows j ≡ Some row) × (has_event e row ≡ true)
at_row [] e j is = absurd (none-some j is)
at_row (row ∷ rows) e j is = go (has_event e row) refl (row_of rows e) (λ i found. at_row rows e i found) is
  where
    go : (here : Bool) → has_event e row ≡ here → (found : Option ℕ) → ((i : ℕ) → found ≡ Some i → (x : Row) × (slice_get rows i ≡ Some x) × (has_event e x ≡ true))
        → cond here (Some 0) (option_map suc found) ≡ Some j → (x : Row) × (slice_get (row ∷ rows) j ≡ Some x) × (has_event e x ≡ true)
    go true its found deeper first = (row, ap (slice_get (row ∷ rows)) (sym (same_Some 0 j first)), its)
    go false its None deeper none = absurd (none-some j none)
    go false its (Some i) deeper later = let w = deeper i refl in (w.0, ap (slice_get (row ∷ rows)) (sym (same_Some (suc i) j later)) ∙ w.1, w.2)

laid_out_both : (above rest : List Row) (p : ℕ) → laid_out (above ++ rest) p ≡ laid_out above p ++ laid_out rest p
laid_out_both [] rest p = refl
laid_out_both (row ∷ above) rest p = ap (λ l. row_on p row ++ l) (laid_out_both above rest p) ∙ sym (append_assoc (row_on p row) (laid_out above p) (laid_out rest p))

-- the event of a row that is a send, if one is
abbrev sender : Row → EventNo
sender (Message s r) = s
sender (Event e) = e

module _ (lines : List LineView) (rows : List Row) (drawing : IsDrawing lines rows) where
  abbrev c : Chart
  c = chart_lines lines

  order_of : (above rest : List Row) → above ++ rest ≡ rows → (p : ℕ) → laid_out above p ++ laid_out rest p ≡ range_with_len 1 (length (c p))
  order_of above rest is p = sym (laid_out_both above rest p) ∙ ap (λ r. laid_out r p) is ∙ drawing.order p

  -- a line's events above are its first ones
  pub above_first : (above rest : List Row) → above ++ rest ≡ rows → (s : Place) (j : ℕ) → row_of rows s ≡ Some j → j < length above → s.index ≤ length (laid_out above s.instance)
  above_first above rest is s j at_j less =
      let has = in_above above rest s j (ap (λ r. row_of r s) is ∙ at_j) less in
      let up = has_ranged 1 (length (c s.instance)) (laid_out above s.instance) (laid_out rest s.instance) s.index (order_of above rest is s.instance) has in
      omega (arith, up)

  -- and those of the row are the next ones
  pub next_in_row : (above : List Row) (row : Row) (rest : List Row) → above ++ row ∷ rest ≡ rows → (e : EventNo) (before after : List ℕ) → row_on e.instance row ≡ before ++ e.index ∷ after
      → (e.index ≡ suc (length (laid_out above e.instance) + length before)) × (e.index ≤ length (c e.instance))
  next_in_row above row rest is e before after its =
      let first = laid_out above e.instance in
      let last = laid_out rest e.instance in
      let order : (first ++ before) ++ e.index ∷ (after ++ last) ≡ range_with_len 1 (length (c e.instance)) =
      append_assoc first before (e.index ∷ (after ++ last)) ∙ ap (λ l. first ++ l) (sym (append_assoc before (e.index ∷ after) last)) ∙ ap (λ l. first ++ (l ++ last)) (sym its) ∙ order_of above (row ∷ rest) is e.instance in
      let there = seam 1 (length (c e.instance)) (first ++ before) e.index (after ++ last) order in
      let long = length-append first before in
      (omega (arith, there.0, long), omega (arith, there.0, there.1))

  whole : (p : ℕ) → length (laid_out rows p) ≡ length (c p)
  whole p = ap length (drawing.order p) ∙ length-range_with_len 1 (length (c p))

  pub has_row : (e : Place) → IsEvent c e → (j : ℕ) × (row_of rows e ≡ Some j) × (j < length rows)
  has_row e event = let all = whole e.instance in row_of_laid_out rows order e event.0 (omega (arith, event.1, all))
    where
      order : AreInOrder rows
      order p = drawing.order p ∙ ap (λ k. range_with_len 1 k) (sym (whole p))

  send_in : (j : ℕ) (row : Row) (s : Place) (q : ℕ) → slice_get rows j ≡ Some row → has_event s row ≡ true → IsSendTo c q s → place_of (sender row) ≡ s
  send_in j (Event e) s q is has sends = is_at-true s e has
  send_in j (Message a b) s q is has sends =
      elim (or_cases (is_at s a) (is_at s b) has) [
        | inl one ↦ is_at-true s a one
        | inr other ↦ absurd (not_both c q a.instance s sends (subst (IsReceiveFrom c a.instance) (is_at-true s b other) (drawing.level j a b is).received))
      ]

  -- no two sends are in one row
  pub one_send : (s t : Place) (q u j : ℕ) → IsSendTo c q s → IsSendTo c u t → row_of rows s ≡ Some j → row_of rows t ≡ Some j → s ≡ t
  one_send s t q u j sends other at_s at_t =
      let one = at_row rows s j at_s in
      let two = at_row rows t j at_t in
      let same = same_Some one.0 two.0 (sym one.1 ∙ two.1) in
      sym (send_in j one.0 s q one.1 one.2 sends) ∙ send_in j one.0 t u one.1 (subst (λ (r : Row). has_event t r ≡ true) (sym same) two.2) other
