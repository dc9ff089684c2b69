-- A chart has only one layout: the picking leaves no choice.
use Rattle.std.proofs.Common.{◌≡◌, ℕ, zero, suc, ◌≤◌, ◌⊎◌, inl, inr, Bool, true, false, cond, List, [], ◌∷◌, ◌++◌, length, drop, Option, None, Some, refl, sym, ap, ◌∙◌, subst, arith, append_assoc, length-append}
use Rattle.std.specs.Prelude.{slice_get, option_map, ◌||◌, ◌+◌}
use Rattle.std.proofs.Math.Seq.{take-append_seam}
use Rattle.std.proofs.lemmas.Bool.{cases_lt}
use Rattle.std.proofs.lemmas.List.FromFn.{length-range_with_len}
use Rattle.std.proofs.lemmas.Option.{none-some, same_Some}
use Rattle.chart.specs.declared.instance.EventNo.{EventNo}
use Rattle.chart.specs.Charts.{Chart, Place, LineView, BelongsTo, IsReceiveFrom, chart_lines}
use Rattle.chart.proofs.Belongs.{same_send, same_receive, not_both}
use Rattle.closure.specs.Faults.{place_of}
use Rattle.closure.proofs.ReadLemmas.{instance_within}
use Rattle.chart_layout.specs.declared.row.Row.{Row}
use Rattle.chart_layout.specs.declared.row.Row.TheVariants.{Message, Event}
use Rattle.chart_layout.specs.declared.finding.Way.{Way}
use Rattle.chart_layout.specs.declared.finding.Way.TheVariants.{Level, Early}
use Rattle.chart_layout.specs.Layouts.{laid_out, number_on, row_on, is_at, has_event, row_of}
use Rattle.chart_layout.specs.Picking.{line_of, last_line, sought_on, IsFirst, IsSought, IsHighest, IsPicked, Comes, actors, IsLayout, OneLayoutLaw}
use Rattle.chart_layout.specs.Ways.{IsWay, HasNoWay, HaveNoArrival, HaveNoWay}
use Rattle.chart_layout.proofs.LaidOutLemmas.{number_on-own}
use Rattle.chart_layout.proofs.FindLemmas.{same_next}
use Rattle.chart_layout.proofs.IndexLemmas.{is_at-true}
use Rattle.chart_layout.proofs.TurnLemmas.{same_event, same_turn_row}

slice_get_front : (xs ys : List Row) (i : ℕ) (x : Row) → slice_get xs i ≡ Some x → slice_get (xs ++ ys) i ≡ Some x
slice_get_front [] ys i x is = absurd (none-some x is)
slice_get_front (first ∷ xs) ys zero x is = is
slice_get_front (first ∷ xs) ys (suc i) x is = slice_get_front xs ys i x is

slice_get_seam : (xs : List Row) (x : Row) (ys : List Row) → slice_get (xs ++ x ∷ ys) (length xs) ≡ Some x
slice_get_seam [] x ys = refl
slice_get_seam (first ∷ xs) x ys = slice_get_seam xs x ys

-- the row that has an event
row_with : (rows : List Row) (e : Place) (i : ℕ) → row_of rows e ≡ Some i → (row : Row) × (slice_get rows i ≡ Some row) × (has_event e row ≡ true)
row_with [] e i is = absurd (none-some i is)
row_with (row ∷ rows) e i is = go (has_event e row) refl (row_of rows e) (λ n at_n. row_with rows e n at_n) is
  where
    go : (here : Bool) → has_event e row ≡ here → (found : Option ℕ) → ((n : ℕ) → found ≡ Some n → (x : Row) × (slice_get rows n ≡ Some x) × (has_event e x ≡ true))
        → cond here (Some 0) (option_map suc found) ≡ Some i → (x : Row) × (slice_get (row ∷ rows) i ≡ Some x) × (has_event e x ≡ true)
    go true has found later first = (row, ap (slice_get (row ∷ rows)) (sym (same_Some 0 i first)), has)
    go false has None later none = absurd (none-some i none)
    go false has (Some n) later next =
        let w = later n refl in
        (w.0, ap (slice_get (row ∷ rows)) (sym (same_Some (suc n) i next)) ∙ w.1, w.2)

or_either : (a b : Bool) → (a || b) ≡ true → (a ≡ true) ⊎ (b ≡ true)
or_either true b is = inl refl
or_either false b is = inr is

module _ (lines : List LineView) where
  abbrev c : Chart
  c = chart_lines lines

  abbrev n : ℕ
  n = length lines

  abbrev AreLevelIn : List Row → Type 0
  AreLevelIn rows = (i : ℕ) (s r : EventNo) → slice_get rows i ≡ Some (Message s r) → BelongsTo c (place_of s) (place_of r)

  -- a row has only one send
  one_send : (rows : List Row) → AreLevelIn rows → (s t q r : Place) (i : ℕ) → BelongsTo c s q → BelongsTo c t r → row_of rows s ≡ Some i → row_of rows t ≡ Some i → s ≡ t
  one_send rows level s t q r i sent other at_s at_t =
      let a = row_with rows s i at_s in
      let b = row_with rows t i at_t in
      let same : a.0 ≡ b.0 = same_Some a.0 b.0 (sym a.1 ∙ b.1) in
      go a.0 a.1 a.2 (subst (λ row. has_event t row ≡ true) (sym same) b.2)
    where
      go : (row : Row) → slice_get rows i ≡ Some row → has_event s row ≡ true → has_event t row ≡ true → s ≡ t
      go (Event e) here has_s has_t = sym (is_at-true s e has_s) ∙ is_at-true t e has_t
      go (Message a b) here has_s has_t = elim (or_either (is_at s a) (is_at s b) has_s) [
        | inr late ↦ absurd (not_both c q.instance a.instance s sent.sent (subst (IsReceiveFrom c a.instance) (is_at-true s b late) (level i a b here).received))
        | inl first ↦ elim (or_either (is_at t a) (is_at t b) has_t) [
          | inr late ↦ absurd (not_both c r.instance a.instance t other.sent (subst (IsReceiveFrom c a.instance) (is_at-true t b late) (level i a b here).received))
          | inl same_row ↦ sym (is_at-true s a first) ∙ is_at-true t a same_row
        ]
      ]

  -- a line on which a row is found has one in this way
  blocks : (rows : List Row) (way : Way) (x : Row) (p : ℕ) → IsWay c rows way x → sought_on x ≡ suc p → HasNoWay c rows way p → ⊥
  blocks rows Level (Message s r) p is line none = none (place_of s) (place_of r) line is.0 is.1 is.2
  blocks rows Level (Event e) p is line none = is
  blocks rows Early (Message s r) p is line none = is
  blocks rows Early (Event e) p is line none = none is.1.0 (place_of e) line is.1.1 is.0

  on_line : (rows : List Row) (way : Way) (x : Row) → IsWay c rows way x → (p : ℕ) × (sought_on x ≡ suc p)
  on_line rows Level (Message s r) is = let on = instance_within lines (place_of r) is.2.event in (on.0, on.1)
  on_line rows Level (Event e) is = absurd is
  on_line rows Early (Message s r) is = absurd is
  on_line rows Early (Event e) is = let on = instance_within lines (place_of e) is.0.event in (on.0, on.1)

  -- the rows that are found in one way are on one line
  same_line : (rows : List Row) (way : Way) (line : ℕ) (x y : Row) → IsWay c rows way x → IsWay c rows way y → IsFirst c rows way line x → IsFirst c rows way line y → sought_on x ≡ sought_on y
  same_line rows way line x y is_x is_y first_x first_y = go (on_line rows way x is_x) (on_line rows way y is_y) first_x first_y
    where
      go : (p : ℕ) × (sought_on x ≡ suc p) → (q : ℕ) × (sought_on y ≡ suc q) → IsFirst c rows way line x → IsFirst c rows way line y → sought_on x ≡ sought_on y
      go on_x on_y (inl here) (inl there) = here ∙ sym there
      go on_x on_y (inl here) (inr before) = absurd (blocks rows way x on_x.0 is_x on_x.1 (before on_x.0 (inl (sym on_x.1 ∙ here))))
      go on_x on_y (inr before) (inl there) = absurd (blocks rows way y on_y.0 is_y on_y.1 (before on_y.0 (inl (sym on_y.1 ∙ there))))
      go on_x on_y (inr before_x) (inr before_y) = elim (cases_lt (sought_on x) (sought_on y)) [
        | inl less ↦ absurd (blocks rows way x on_x.0 is_x on_x.1 (before_y on_x.0 (inr (omega (arith, less, on_x.1)))))
        | inr least ↦ elim (cases_lt (sought_on y) (sought_on x)) [
          | inl less ↦ absurd (blocks rows way y on_y.0 is_y on_y.1 (before_x on_y.0 (inr (omega (arith, less, on_y.1)))))
          | inr most ↦ omega (arith, least, most)
        ]
      ]

  -- on one line there is only one such row
  same_way : (rows : List Row) (way : Way) (x y : Row) → IsWay c rows way x → IsWay c rows way y → sought_on x ≡ sought_on y → x ≡ y
  same_way rows Level (Message s r) (Message t q) is_x is_y line =
      let receives = same_next c rows (place_of r) (place_of q) line is_x.2 is_y.2 in
      let sends = same_send c (place_of s) (place_of t) (place_of q) (subst (BelongsTo c (place_of s)) receives is_x.0) is_y.0 in
      ap (λ a. Message a r) (same_event s t sends) ∙ ap (λ b. Message t b) (same_event r q receives)
  same_way rows Level (Event e) y is_x is_y line = absurd is_x
  same_way rows Level (Message s r) (Event e) is_x is_y line = absurd is_y
  same_way rows Early (Message s r) y is_x is_y line = absurd is_x
  same_way rows Early (Event e) (Message s r) is_x is_y line = absurd is_y
  same_way rows Early (Event e) (Event f) is_x is_y line = ap (λ a. Event a) (same_event e f (same_next c rows (place_of e) (place_of f) line is_x.0 is_y.0))

  same_sought : (rows : List Row) (way : Way) (x y : Row) → IsSought c rows way x → IsSought c rows way y → x ≡ y
  same_sought rows way x y a b = same_way rows way x y a.0 b.0 (same_line rows way (last_line rows) x y a.0 b.0 a.1 b.1)

  -- if no line has an arrival, there is none
  no_highest : (rows : List Row) (e : Place) → HaveNoArrival c n rows → IsHighest c rows e → ⊥
  no_highest rows e none highest = let on = instance_within lines e highest.1.next.event in none on.0 on.2 e highest.0 on.1 highest.1

  not_sought : (rows : List Row) (way : Way) (x : Row) → HaveNoWay c n rows way → IsWay c rows way x → ⊥
  not_sought rows Level (Message s r) none is = let on = instance_within lines (place_of r) is.2.event in none on.0 on.2 (place_of s) (place_of r) on.1 is.0 is.1 is.2
  not_sought rows Level (Event e) none is = is
  not_sought rows Early (Message s r) none is = is
  not_sought rows Early (Event e) none is = let on = instance_within lines (place_of e) is.0.event in none on.0 on.2 is.1.0 (place_of e) on.1 is.1.1 is.0

  -- there is only one highest arrival
  same_highest : (rows : List Row) → AreLevelIn rows → (e f : EventNo) → IsHighest c rows (place_of e) → IsHighest c rows (place_of f) → e ≡ f
  same_highest rows level e f a b =
      let low = a.2 (place_of f) b.0 b.1 in
      let high = b.2 (place_of e) a.0 a.1 in
      let row : a.0 ≡ b.0 = omega (arith, low, high) in
      let sends = one_send rows level a.1.send b.1.send (place_of e) (place_of f) b.0 a.1.belongs b.1.belongs (a.1.row ∙ ap (λ i. Some i) row) b.1.row in
      same_event e f (same_receive c b.1.send (place_of e) (place_of f) (subst (λ s. BelongsTo c s (place_of e)) sends a.1.belongs) b.1.belongs)

  -- only one row is picked
  same_pick : (rows : List Row) → AreLevelIn rows → (x y : Row) → IsPicked c n rows x → IsPicked c n rows y → x ≡ y
  same_pick rows level (Message s r) (Message t q) a b = same_sought rows Level (Message s r) (Message t q) a.1 b.1
  same_pick rows level (Message s r) (Event e) a (inl b) = absurd (no_highest rows (place_of e) a.0 b)
  same_pick rows level (Message s r) (Event e) a (inr b) = absurd (not_sought rows Level (Message s r) b.1 a.1.0)
  same_pick rows level (Event e) (Message s r) (inl a) b = absurd (no_highest rows (place_of e) b.0 a)
  same_pick rows level (Event e) (Message s r) (inr a) b = absurd (not_sought rows Level (Message s r) a.1 b.1.0)
  same_pick rows level (Event e) (Event f) (inl a) (inl b) = ap (λ x. Event x) (same_highest rows level e f a b)
  same_pick rows level (Event e) (Event f) (inl a) (inr b) = absurd (no_highest rows (place_of e) b.0 a)
  same_pick rows level (Event e) (Event f) (inr a) (inl b) = absurd (no_highest rows (place_of f) a.0 b)
  same_pick rows level (Event e) (Event f) (inr a) (inr b) = same_sought rows Early (Event e) (Event f) a.2 b.2

  -- only one row comes next
  same_coming : (rows : List Row) (turns : List ℕ) → AreLevelIn rows → (x y : Row) → Comes c n rows turns x → Comes c n rows turns y → x ≡ y
  same_coming rows turns level x y (inl a) (inl b) = same_turn_row c rows turns x y a b
  same_coming rows turns level x y (inl a) (inr b) = absurd (b.0 x a)
  same_coming rows turns level x y (inr a) (inl b) = absurd (a.0 y b)
  same_coming rows turns level x y (inr a) (inr b) = same_pick rows level x y a.1 b.1

  -- one more row draws at least one more event
  some_event : (row : Row) → 1 ≤ length (row_on (line_of row) row)
  some_event (Event e) = let own = ap length (number_on-own e.instance e refl) in omega arith
  some_event (Message s r) =
      let own = ap length (number_on-own s.instance s refl) in
      let both = length-append (number_on s.instance s) (number_on s.instance r) in
      omega arith

  laid_out_join : (one other : List Row) (p : ℕ) → length (laid_out (one ++ other) p) ≡ length (laid_out one p) + length (laid_out other p)
  laid_out_join [] other p = omega arith
  laid_out_join (row ∷ one) other p =
      let rest = laid_out_join one other p in
      let first = length-append (row_on p row) (laid_out (one ++ other) p) in
      let second = length-append (row_on p row) (laid_out one p) in
      omega arith

module _ (lines : List LineView) (turns : List ℕ) where
  as_long : (rows : List Row) → IsLayout lines turns rows → (p : ℕ) → length (laid_out rows p) ≡ length (chart_lines lines p)
  as_long rows is p = ap length (is.drawing.order p) ∙ length-range_with_len 1 (length (chart_lines lines p))

  no_more : (above rest : List Row) (row : Row) → IsLayout lines turns (above ++ []) → IsLayout lines turns (above ++ row ∷ rest) → ⊥
  no_more above rest row one other =
      let p = line_of row in
      let short = as_long (above ++ []) one p in
      let long = as_long (above ++ row ∷ rest) other p in
      let a = laid_out_join lines above [] p in
      let b = laid_out_join lines above (row ∷ rest) p in
      let d = length-append (row_on p row) (laid_out rest p) in
      let some = some_event lines row in
      let z : length (laid_out [] p) ≡ 0 = refl in
      omega arith

  front_level : (above rest : List Row) → IsLayout lines turns (above ++ rest) → AreLevelIn lines above
  front_level above rest is i s r at_i = is.drawing.level i s r (slice_get_front above rest i (Message s r) at_i)

  comes_below : (above rest : List Row) (row : Row) → IsLayout lines turns (above ++ row ∷ rest) → Comes (chart_lines lines) (length lines) above (drop (length (actors above)) turns) row
  comes_below above rest row is = subst (λ rows. Comes (chart_lines lines) (length lines) rows (drop (length (actors rows)) turns) row) (take-append_seam above (row ∷ rest)) (is.comes (length above) row (slice_get_seam above row rest))

  same_rest : (above one other : List Row) → IsLayout lines turns (above ++ one) → IsLayout lines turns (above ++ other) → one ≡ other
  same_rest above [] [] is_one is_other = refl
  same_rest above [] (row ∷ other) is_one is_other = absurd (no_more above other row is_one is_other)
  same_rest above (row ∷ one) [] is_one is_other = absurd (no_more above one row is_other is_one)
  same_rest above (x ∷ one) (y ∷ other) is_one is_other =
      let first = same_coming lines above (drop (length (actors above)) turns) (front_level above (x ∷ one) is_one) x y (comes_below above one x is_one) (comes_below above other y is_other) in
      let moved = subst (λ row. IsLayout lines turns (above ++ row ∷ other)) (sym first) is_other in
      let rest = same_rest (above ++ x ∷ []) one other (subst (IsLayout lines turns) (sym (append_assoc above (x ∷ []) one)) is_one) (subst (IsLayout lines turns) (sym (append_assoc above (x ∷ []) other)) moved) in
      ap (λ row. row ∷ one) first ∙ ap (λ rows. y ∷ rows) rest

pub one_layout : OneLayoutLaw
one_layout lines turns one other is_one is_other = same_rest lines turns [] one other is_one is_other
