-- The first rows of a drawing, from the top down, and one more row.
use Rattle.std.proofs.Common.{◌≡◌, ℕ, zero, suc, ◌+◌, ◌-◌, ◌<◌, ◌≤◌, ◌==◌, ◌⊎◌, inl, inr, Bool, true, false, cond, List, [], ◌∷◌, ◌++◌, length, Some, refl, sym, ap, ◌∙◌, subst, arith, append-nil, length-append}
use Rattle.std.specs.Prelude.{slice_get, option_map}
use Rattle.std.specs.List.{range_with_len}
use Rattle.std.proofs.lemmas.Bool.{cases_eq, cases_lt, or_left, or_right, eqb-true, false≢true}
use Rattle.std.proofs.lemmas.Option.{slice_get_within, same_Some, none-some}
use Rattle.chart.specs.declared.instance.EventNo.{EventNo}
use Rattle.chart.specs.declared.event.Event.{Event as Occurs}
use Rattle.chart.specs.declared.event.Event.TheVariants as events
use Rattle.chart.specs.Events.{ith, is_send_to, partner_of}
use Rattle.chart.specs.Charts.{Chart, Place, at, chart_event, LineView, IsChart, BelongsTo, chart_lines}
use Rattle.chart.proofs.Tally.{ith_at, ith_from_append, ith_single, ith_nil}
use Rattle.chart.proofs.Belongs.{IsEvent-from_passes, same_place}
use Rattle.closure.specs.Faults.{place_of}
use Rattle.closure.proofs.ReadLemmas.{empty_line, instance_within, partner_other}
use Rattle.chart_layout.specs.declared.row.Row.{Row}
use Rattle.chart_layout.specs.declared.row.Row.TheVariants.{Message, Event}
use Rattle.chart_layout.specs.Layouts.{number_on, row_on, laid_out, is_at, has_event, row_of, AreInOrder, IsDrawing}
use Rattle.chart_layout.specs.Indexes.{AreNext}
use Rattle.chart_layout.specs.Picking.{line_of}
use Rattle.chart_layout.specs.Ways.{IsNextEvent, IsNextRow, AreLaidOut}
use Rattle.chart_layout.proofs.LaidOutLemmas.{laid_out-push, number_on-own, number_on-other}
use Rattle.chart_layout.proofs.IndexLemmas.{is_at-same}
use Rattle.chart_layout.proofs.RowLemmas.{row_of-push_old, row_of-within}

-- the first events of each line are in the rows, as a layout has them
pub record IsBegun (lines : List LineView) (rows : List Row) : Type 0 where
  pub order : AreInOrder rows
  pub within : (p : ℕ) → length (laid_out rows p) ≤ length (chart_lines lines p)
  pub level : (i : ℕ) (s r : EventNo) → slice_get rows i ≡ Some (Message s r) → BelongsTo (chart_lines lines) (place_of s) (place_of r)
  pub lower : (i : ℕ) (e : EventNo) (s : Place) → slice_get rows i ≡ Some (Event e) → BelongsTo (chart_lines lines) s (place_of e) → (j : ℕ) × (row_of rows s ≡ Some j) × (j < i)

-- there are no rows yet
pub IsBegun-none : (lines : List LineView) → IsBegun lines []
IsBegun-none lines = record {
  order = λ p. refl;
  within = λ p. omega arith;
  level = λ i s r at_i. absurd (none-some _ at_i);
  lower = λ i e s at_i belongs. absurd (none-some _ at_i);
}

-- a range, and one more
range_push : (a n : ℕ) → range_with_len a n ++ (a + n) ∷ [] ≡ range_with_len a (n + 1)
range_push a zero = ap (λ x. x ∷ []) (let e : a + 0 ≡ a = omega arith in e)
range_push a (suc n) =
    let e : a + suc n ≡ a + 1 + n = omega arith in
    let m : suc n + 1 ≡ suc (n + 1) = omega arith in
    ap (λ x. a ∷ (range_with_len (a + 1) n ++ x ∷ [])) e ∙ ap (λ xs. a ∷ xs) (range_push (a + 1) n) ∙ ap (range_with_len a) (sym m)

-- the number at a place of a range
ith_range : (a n k x : ℕ) → ith (range_with_len a n) (suc k) ≡ Some x → x ≡ a + k
ith_range a zero k x at_k = absurd (none-some x at_k)
ith_range a (suc n) zero x at_k = let e = same_Some a x at_k in omega arith
ith_range a (suc n) (suc k) x at_k = let e = ith_range (a + 1) n k x at_k in omega arith

-- a number on a line is that of an event in the row
on_event : (p x k : ℕ) (e : EventNo) → ith (number_on p e) k ≡ Some x → is_at (at p x) e ≡ true
on_event p x k e at_k = go (e.instance == p) refl at_k
  where
    go : (own : Bool) → (e.instance == p) ≡ own → ith (cond own (e.index ∷ []) []) k ≡ Some x → is_at (at p x) e ≡ true
    go true its found = is_at-same (at p x) e (eqb-true e.instance p its) (ith_single e.index k x found).1
    go false its found = absurd (ith_nil k x found)

on_row : (p x k : ℕ) (row : Row) → ith (row_on p row) k ≡ Some x → has_event (at p x) row ≡ true
on_row p x k (Event e) at_k = on_event p x k e at_k
on_row p x k (Message s r) at_k =
    elim (ith_from_append (number_on p s) (number_on p r) k x at_k) [
      | inl first ↦ or_left (is_at (at p x) s) (is_at (at p x) r) (on_event p x k s first)
      | inr second ↦ or_right (is_at (at p x) s) (is_at (at p x) r) (on_event p x second.0 r second.2)
    ]

-- each event that is drawn has a row
has_row : (rows : List Row) (p x k : ℕ) → ith (laid_out rows p) k ≡ Some x → (j : ℕ) × (row_of rows (at p x) ≡ Some j) × (j < length rows)
has_row [] p x k at_k = absurd (ith_nil k x at_k)
has_row (row ∷ rows) p x k at_k =
    elim (ith_from_append (row_on p row) (laid_out rows p) k x at_k) [
      | inl here ↦ (0, ap (λ b. cond b (Some 0) (option_map suc (row_of rows (at p x)))) (on_row p x k row here), omega arith)
      | inr later ↦ go (has_event (at p x) row) (has_row rows p x later.0 later.2)
    ]
  where
    go : (here : Bool) → (j : ℕ) × (row_of rows (at p x) ≡ Some j) × (j < length rows) → (j : ℕ) × (cond here (Some 0) (option_map suc (row_of rows (at p x))) ≡ Some j) × (j < length (row ∷ rows))
    go true found = (0, refl, omega arith)
    go false (j, at_j, inside) = (suc j, ap (option_map suc) at_j, omega arith)

-- so does each event of a line up to the last drawn one
pub row_of_laid_out : (rows : List Row) → AreInOrder rows → (e : Place) → 1 ≤ e.index → e.index ≤ length (laid_out rows e.instance) → (j : ℕ) × (row_of rows e ≡ Some j) × (j < length rows)
row_of_laid_out rows order e begun above = go e.index refl
  where
    go : (k : ℕ) → e.index ≡ k → (j : ℕ) × (row_of rows e ≡ Some j) × (j < length rows)
    go zero is = absurd (omega arith)
    go (suc k) is =
        let found = ith_at (laid_out rows e.instance) (suc k) (omega arith) (omega arith) in
        let number : found.0 ≡ suc k = omega (arith, ith_range 1 (length (laid_out rows e.instance)) k found.0 (ap (λ xs. ith xs (suc k)) (sym (order e.instance)) ∙ found.1)) in
        subst (λ x. (j : ℕ) × (row_of rows (at e.instance x) ≡ Some j) × (j < length rows)) (number ∙ sym is) (has_row rows e.instance found.0 (suc k) found.1)

-- the two ends of a message are on two lines
sent_to : (q : ℕ) (m : Occurs) → is_send_to q m ≡ true → partner_of m ≡ q
sent_to q (events.Send to name) goes = eqb-true to q goes
sent_to q (events.Receive from name region) goes = absurd (false≢true goes)

pub ends_differ : (lines : List LineView) (s r : Place) → IsChart lines → BelongsTo (chart_lines lines) s r → s.instance ≡ r.instance → ⊥
ends_differ lines s r chart belongs same =
    let event = IsEvent-from_passes (chart_lines lines) (is_send_to r.instance) s belongs.sent in
    let on = instance_within lines s event in
    by_index on.0 on.1 on.2 s.index refl event.0
  where
    by_index : (p : ℕ) → s.instance ≡ suc p → p < length lines → (k : ℕ) → s.index ≡ k → 1 ≤ s.index → ⊥
    by_index p line inside zero is begun = omega arith
    by_index p line inside (suc k) is begun =
        let here = subst (λ (e : Place). chart_event (chart_lines lines) e ≡ Some belongs.sent.0) (same_place s (at (suc p) (suc k)) line is) belongs.sent.1 in
        partner_other lines p k belongs.sent.0 chart inside here (sent_to r.instance belongs.sent.0 belongs.sent.2 ∙ sym same ∙ line)

-- the ends of a next row are next, and on two lines
pub AreNext-from_next : (lines : List LineView) (rows : List Row) (row : Row) → IsChart lines → IsNextRow (chart_lines lines) rows row → AreNext rows row
AreNext-from_next lines rows (Message s r) chart next = (next.1.next, next.2.next, ends_differ lines (place_of s) (place_of r) chart next.0)
AreNext-from_next lines rows (Event e) chart next = next.next.next

-- what one more row adds to a line: nothing, or the next event
abbrev Adds : Chart → List Row → Row → ℕ → Type 0
Adds c rows row p = (row_on p row ≡ []) ⊎ ((row_on p row ≡ (length (laid_out rows p) + 1) ∷ []) × (length (laid_out rows p) + 1 ≤ length (c p)))

adds_event : (c : Chart) (rows : List Row) (e : EventNo) (p : ℕ) → IsNextEvent c rows (place_of e) → (number_on p e ≡ []) ⊎ ((e.instance ≡ p) × (number_on p e ≡ (length (laid_out rows p) + 1) ∷ []) × (length (laid_out rows p) + 1 ≤ length (c p)))
adds_event c rows e p next =
    elim (cases_eq e.instance p) [
      | inr other ↦ inl (number_on-other p e other)
      | inl own ↦
          inr (
            own,
            number_on-own p e own ∙ ap (λ i. i ∷ []) next.next ∙ ap (λ q. (length (laid_out rows q) + 1) ∷ []) own,
            subst (λ q. length (laid_out rows q) + 1 ≤ length (c q)) own (omega (arith, next.next, next.event.1)),
          )
    ]

adds : (lines : List LineView) (rows : List Row) (row : Row) (p : ℕ) → IsChart lines → IsNextRow (chart_lines lines) rows row → Adds (chart_lines lines) rows row p
adds lines rows (Event e) p chart next =
    elim (adds_event (chart_lines lines) rows e p next.next) [ inl none ↦ inl none | inr one ↦ inr (one.1, one.2) ]
adds lines rows (Message s r) p chart next =
    elim (adds_event (chart_lines lines) rows s p next.1) [
      | inl none ↦
          elim (adds_event (chart_lines lines) rows r p next.2) [
            | inl neither ↦ inl (ap (λ xs. xs ++ number_on p r) none ∙ neither)
            | inr second ↦ inr (ap (λ xs. xs ++ number_on p r) none ∙ second.1, second.2)
          ]
      | inr first ↦
          elim (adds_event (chart_lines lines) rows r p next.2) [
            | inl none ↦ inr (ap (λ xs. number_on p s ++ xs) none ∙ append-nil (number_on p s) ∙ first.1, first.2)
            | inr second ↦ absurd (ends_differ lines (place_of s) (place_of r) chart next.0 (first.0 ∙ sym second.0))
          ]
    ]

-- the number of drawn events of a line, with one more row
pub laid_out_more : (rows : List Row) (row : Row) (p : ℕ) → length (laid_out (rows ++ row ∷ []) p) ≡ length (laid_out rows p) + length (row_on p row)
laid_out_more rows row p = ap length (laid_out-push rows row p) ∙ length-append (laid_out rows p) (row_on p row)

module _ (lines : List LineView) (rows : List Row) (row : Row) (chart : IsChart lines) (old : IsBegun lines rows) (next : IsNextRow (chart_lines lines) rows row) where
  abbrev c : Chart
  c = chart_lines lines

  order_more : (p : ℕ) → laid_out (rows ++ row ∷ []) p ≡ range_with_len 1 (length (laid_out (rows ++ row ∷ []) p))
  order_more p =
      elim (adds lines rows row p chart next) [
        | inl none ↦
            let same = laid_out-push rows row p ∙ ap (λ xs. laid_out rows p ++ xs) none ∙ append-nil (laid_out rows p) in
            same ∙ old.order p ∙ ap (λ xs. range_with_len 1 (length xs)) (sym same)
        | inr one ↦
            let k = length (laid_out rows p) in
            let more : length (laid_out (rows ++ row ∷ []) p) ≡ k + 1 = laid_out_more rows row p ∙ ap (λ xs. k + length xs) one.0 in
            let e : k + 1 ≡ 1 + k = omega arith in
            laid_out-push rows row p ∙ ap (λ xs. laid_out rows p ++ xs) (one.0 ∙ ap (λ i. i ∷ []) e) ∙ ap (λ xs. xs ++ (1 + k) ∷ []) (old.order p) ∙ range_push 1 k ∙ ap (range_with_len 1) (sym more)
      ]

  within_more : (p : ℕ) → length (laid_out (rows ++ row ∷ []) p) ≤ length (c p)
  within_more p =
      let more = laid_out_more rows row p in
      elim (adds lines rows row p chart next) [
        | inl none ↦ let e = ap length none in omega (arith, more, e, old.within p)
        | inr one ↦ let e = ap length one.0 in omega (arith, more, e, one.1)
      ]

  -- a row is an old one, or the new one
  which : (i : ℕ) (x : Row) → slice_get (rows ++ row ∷ []) i ≡ Some x → ((slice_get rows i ≡ Some x) × (i < length rows)) ⊎ ((i ≡ length rows) × (row ≡ x))
  which i x at_i =
      elim (ith_from_append rows (row ∷ []) (suc i) x at_i) [
        | inl first ↦ inl (first, slice_get_within rows i x first)
        | inr last ↦ let one = ith_single row last.0 x last.2 in inr (omega (arith, last.1, one.0), one.1)
      ]

  level_more : (i : ℕ) (s r : EventNo) → slice_get (rows ++ row ∷ []) i ≡ Some (Message s r) → BelongsTo c (place_of s) (place_of r)
  level_more i s r at_i =
      elim (which i (Message s r) at_i) [
        | inl first ↦ old.level i s r first.0
        | inr last ↦ (subst (IsNextRow c rows) last.1 next).0
      ]

  lower_more : (i : ℕ) (e : EventNo) (s : Place) → slice_get (rows ++ row ∷ []) i ≡ Some (Event e) → BelongsTo c s (place_of e) → (j : ℕ) × (row_of (rows ++ row ∷ []) s ≡ Some j) × (j < i)
  lower_more i e s at_i belongs =
      elim (which i (Event e) at_i) [
        | inl first ↦ let w = old.lower i e s first.0 belongs in (w.0, row_of-push_old rows row s w.0 w.1, w.2)
        | inr last ↦
            let above = (subst (IsNextRow c rows) last.1 next).after s belongs in
            let less = row_of-within rows s above.0 above.1 in
            (above.0, row_of-push_old rows row s above.0 above.1, omega (arith, less, last.0))
      ]

  pub IsBegun-next : IsBegun lines (rows ++ row ∷ [])
  IsBegun-next = record {
    order = order_more;
    within = within_more;
    level = level_more;
    lower = lower_more;
  }

-- if all events are in the rows, these draw the chart
pub IsDrawing-from_begun : (lines : List LineView) (rows : List Row) → IsBegun lines rows → AreLaidOut (chart_lines lines) (length lines) rows → IsDrawing lines rows
IsDrawing-from_begun lines rows is all = record {
  order = λ p. is.order p ∙ ap (range_with_len 1) (whole p);
  level = is.level;
  lower = is.lower;
}
  where
    whole : (p : ℕ) → length (laid_out rows p) ≡ length (chart_lines lines p)
    whole zero = let some = is.within zero in omega arith
    whole (suc p) =
        elim (cases_lt p (length lines)) [
          | inl inside ↦ omega (arith, all p inside, is.within (suc p))
          | inr past ↦ let none = ap length (empty_line lines p past) in omega (arith, none, is.within (suc p))
        ]

-- the number of events of the first n lines that remain to be drawn
abbrev pub left : Chart → ℕ → List Row → ℕ
left c zero rows = 0
left c (suc n) rows = left c n rows + (length (c (suc n)) - length (laid_out rows (suc n)))

-- one more row leaves no more events, and fewer if it has an event of these lines
left-le : (c : Chart) (n : ℕ) (rows : List Row) (row : Row) → left c n (rows ++ row ∷ []) ≤ left c n rows
left-le c zero rows row = omega arith
left-le c (suc n) rows row = omega (arith, left-le c n rows row, laid_out_more rows row (suc n))

left-less : (c : Chart) (n p : ℕ) (rows : List Row) (row : Row) → p < n → length (laid_out rows (suc p)) < length (c (suc p)) → 1 ≤ length (row_on (suc p) row) → left c n (rows ++ row ∷ []) < left c n rows
left-less c zero p rows row inside some one = absurd (omega arith)
left-less c (suc n) p rows row inside some one =
    elim (cases_eq n p) [
      | inl e ↦
          let there = subst (λ x. length (laid_out rows (suc x)) < length (c (suc x))) (sym e) some in
          let adds_one = subst (λ x. 1 ≤ length (row_on (suc x) row)) (sym e) one in
          omega (arith, left-le c n rows row, laid_out_more rows row (suc n), there, adds_one)
      | inr differs ↦ omega (arith, left-less c n p rows row (omega arith) some one, laid_out_more rows row (suc n))
    ]

-- the line from which the search goes on is one of the chart's, and one more row leaves fewer events
pub line_within-next : (lines : List LineView) (rows : List Row) (row : Row) → IsNextRow (chart_lines lines) rows row → (p : ℕ) → line_of row ≡ suc p → p < length lines
line_within-next lines rows (Message s r) next p is = let on = instance_within lines (place_of s) next.1.event in omega (arith, on.1, on.2, is)
line_within-next lines rows (Event e) next p is = let on = instance_within lines (place_of e) next.next.event in omega (arith, on.1, on.2, is)

pub left-next : (lines : List LineView) (rows : List Row) (row : Row) → IsNextRow (chart_lines lines) rows row → left (chart_lines lines) (length lines) (rows ++ row ∷ []) < left (chart_lines lines) (length lines) rows
left-next lines rows (Message s r) next =
    let on = instance_within lines (place_of s) next.1.event in
    let own = ap length (number_on-own (suc on.0) s on.1) in
    let two = length-append (number_on (suc on.0) s) (number_on (suc on.0) r) in
    left-less (chart_lines lines) (length lines) on.0 rows (Message s r) on.2
    (subst (λ q. length (laid_out rows q) < length (chart_lines lines q)) on.1 (omega (arith, next.1.next, next.1.event.1)))
    (omega (arith, own, two))
left-next lines rows (Event e) next =
    let on = instance_within lines (place_of e) next.next.event in
    let own = ap length (number_on-own (suc on.0) e on.1) in
    left-less (chart_lines lines) (length lines) on.0 rows (Event e) on.2
    (subst (λ q. length (laid_out rows q) < length (chart_lines lines q)) on.1 (omega (arith, next.next.next, next.next.event.1)))
    (omega (arith, own))
