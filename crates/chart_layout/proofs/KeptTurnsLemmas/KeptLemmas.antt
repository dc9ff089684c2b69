-- The rows of a layout, one after another, and the turns that they have had.
use Rattle.std.proofs.Common.{◌≡◌, ℕ, zero, suc, ◌+◌, ◌≤◌, ◌==◌, ◌⊎◌, inl, inr, Bool, true, false, cond, List, [], ◌∷◌, ◌++◌, length, take, drop, Some, refl, sym, ap, ◌∙◌, subst, arith, append_assoc, append-nil, length-append, eq-eqb}
use Rattle.std.specs.Prelude.{slice_get}
use Rattle.std.specs.List.{flat_map, range_with_len}
use Rattle.std.proofs.Math.Seq.{take-append_seam}
use Rattle.std.proofs.lemmas.Grind.{flat_map-append}
use Rattle.std.proofs.lemmas.List.FromFn.{length-range_with_len}
use Rattle.chart.specs.declared.instance.EventNo.{EventNo}
use Rattle.chart.specs.Charts.{Chart, Place, LineView, BelongsTo, at, chart_lines}
use Rattle.chart.specs.Events.{is_send_to}
use Rattle.chart.proofs.Belongs.{IsEvent-from_passes}
use Rattle.closure.specs.Faults.{place_of}
use Rattle.chart_layout.specs.declared.row.Row.{Row}
use Rattle.chart_layout.specs.declared.row.Row.TheVariants.{Message, Event}
use Rattle.chart_layout.specs.Layouts.{number_on, row_on, laid_out, AreInOrder}
use Rattle.chart_layout.specs.Picking.{IsPicked, IsTurn, Comes, actors_of, actors, IsLayout}
use Rattle.chart_layout.specs.Ways.{IsNextEvent, IsNextAlone}
use Rattle.chart_layout.proofs.BegunLemmas.{row_of_laid_out}
use Rattle.chart_layout.specs.KeptTurns.Runs.{times, IsRun}

-- Turns, counted.

times-append : (p : ℕ) (xs ys : List ℕ) → times p (xs ++ ys) ≡ times p xs + times p ys
unfolding times
times-append p [] ys = omega arith
times-append p (x ∷ xs) ys = let rest = times-append p xs ys in omega arith

times-own : (p : ℕ) (turns : List ℕ) → times p (p ∷ turns) ≡ 1 + times p turns
unfolding times
times-own p turns = ap (λ b. cond b 1 0 + times p turns) (eq-eqb p p refl)

times-event : (p : ℕ) (e : EventNo) → times p (e.instance ∷ []) ≡ length (number_on p e)
unfolding times
times-event p e = go (e.instance == p)
  where
    go : (own : Bool) → cond own 1 0 + 0 ≡ length (cond own (e.index ∷ []) [])
    go true = refl
    go false = refl

times-row : (p : ℕ) (row : Row) → times p (actors_of row) ≡ length (row_on p row)
times-row p (Event e) = times-event p e
times-row p (Message s r) =
    times-append p (s.instance ∷ []) (r.instance ∷ [])
    ∙ (let first = times-event p s in let second = times-event p r in let both = length-append (number_on p s) (number_on p r) in omega arith)

-- there are as many turns as drawn events
times-rows : (p : ℕ) (rows : List Row) → times p (actors rows) ≡ length (laid_out rows p)
unfolding times
times-rows p [] = refl
times-rows p (row ∷ rows) =
    let first = times-row p row in
    let rest = times-rows p rows in
    let both = times-append p (actors_of row) (actors rows) in
    let all = length-append (row_on p row) (laid_out rows p) in
    omega arith

-- Rows that are the first ones of a drawing.

front_range : (a n : ℕ) (xs ys : List ℕ) → xs ++ ys ≡ range_with_len a n → xs ≡ range_with_len a (length xs)
front_range a n [] ys is = refl
front_range a zero (x ∷ xs) ys is = absurd (omega (arith, ap length is))
front_range a (suc n) (x ∷ xs) ys is =
    let first : x ≡ a = ap (λ l. head_or a l) is in
    ap (λ y. y ∷ xs) first ∙ ap (λ l. a ∷ l) (front_range (a + 1) n xs ys (ap (drop 1) is))
  where
    head_or : ℕ → List ℕ → ℕ
    head_or d [] = d
    head_or d (y ∷ l) = y

laid_out-append : (above rest : List Row) (p : ℕ) → laid_out (above ++ rest) p ≡ laid_out above p ++ laid_out rest p
laid_out-append [] rest p = refl
laid_out-append (row ∷ above) rest p = ap (λ l. row_on p row ++ l) (laid_out-append above rest p) ∙ sym (append_assoc (row_on p row) (laid_out above p) (laid_out rest p))

slice_get_seam : {A : Type 0} (xs : List A) (x : A) (ys : List A) → slice_get (xs ++ x ∷ ys) (length xs) ≡ Some x
slice_get_seam [] x ys = refl
slice_get_seam (first ∷ xs) x ys = slice_get_seam xs x ys

drop_seam : {A : Type 0} (xs ys : List A) → drop (length xs) (xs ++ ys) ≡ ys
drop_seam [] ys = refl
drop_seam (x ∷ xs) ys = drop_seam xs ys

-- the event of a picked row comes next on its line
picked_next : (c : Chart) (n : ℕ) (rows : List Row) (row : Row) → IsPicked c n rows row → (e : Place) × IsNextEvent c rows e
picked_next c n rows (Message s r) is = (place_of s, is.1.0.1)
picked_next c n rows (Event e) (inl highest) = (place_of e, highest.1.next)
picked_next c n rows (Event e) (inr early) = (place_of e, early.2.0.0)

module _ (lines : List LineView) (turns : List ℕ) (run : IsRun (chart_lines lines) turns) where
  abbrev c : Chart
  c = chart_lines lines

  -- if all turns were had, each event is drawn
  all_laid_out : (rows : List Row) → actors rows ++ [] ≡ turns → (p : ℕ) → length (laid_out rows p) ≡ length (c p)
  all_laid_out rows had p = sym (times-rows p rows) ∙ ap (times p) (sym (append-nil (actors rows)) ∙ had) ∙ run.all p

  -- if a turn is left, its event may come next
  alone : (above : List Row) (p : ℕ) (left : List ℕ) → AreInOrder above → actors above ++ p ∷ left ≡ turns → IsNextAlone c above (at p (length (laid_out above p) + 1))
  alone above p left order had = record {
    next = record { event = (omega arith, short); next = refl };
    after = λ s belongs.
        let event = IsEvent-from_passes c (is_send_to p) s belongs.sent in
        let sent = run.after (length (actors above)) p s here (subst (λ k. BelongsTo c s (at p (k + 1))) (sym (so_far p)) belongs) in
        let row = row_of_laid_out above order s event.0 (omega (arith, sent, so_far s.instance)) in
        (row.0, row.1);
  }
    where
      first : take (length (actors above)) turns ≡ actors above
      first = ap (take (length (actors above))) (sym had) ∙ take-append_seam (actors above) (p ∷ left)

      so_far : (q : ℕ) → times q (take (length (actors above)) turns) ≡ length (laid_out above q)
      so_far q = ap (times q) first ∙ times-rows q above

      here : slice_get turns (length (actors above)) ≡ Some p
      here = ap (λ l. slice_get l (length (actors above))) (sym had) ∙ slice_get_seam (actors above) p left

      short : length (laid_out above p) + 1 ≤ length (c p)
      short =
          let all = ap (times p) had ∙ run.all p in
          let both = times-append p (actors above) (p ∷ left) in
          let own = times-own p left in
          let above_it = times-rows p above in
          omega arith

  -- a row for which no turn is left isn't picked
  picked_not : (above : List Row) (row : Row) (left : List ℕ) → AreInOrder above → actors above ++ left ≡ turns
      → ((x : Row) → IsTurn c above left x → ⊥) → IsPicked c (length lines) above row → ⊥
  picked_not above row [] order had none picked =
      let next = picked_next c (length lines) above row picked in
      omega (arith, next.1.next, next.1.event.1, all_laid_out above had next.0.instance)
  picked_not above row (p ∷ left) order had none picked =
      let e : EventNo = record { instance = p; index = length (laid_out above p) + 1 } in
      none (Event e) (refl, alone above p left order had, λ r has way. none (Message e r) (refl, has, way))

  -- the turns of one more row
  row_turns : (above : List Row) (row : Row) (left : List ℕ) → IsTurn c above left row → (rest : List ℕ) × (left ≡ actors_of row ++ rest)
  row_turns above (Message s r) [] is = absurd is.0
  row_turns above (Message s r) (p ∷ []) is = absurd is.1
  row_turns above (Message s r) (p ∷ q ∷ rest) is = (rest, ap (λ x. x ∷ q ∷ rest) is.0 ∙ ap (λ x. s.instance ∷ x ∷ rest) is.1)
  row_turns above (Event e) [] is = absurd is.0
  row_turns above (Event e) (p ∷ rest) is = (rest, ap (λ x. x ∷ rest) is.0)

  -- the remaining rows have the remaining turns
  kept : (above rest : List Row) (left : List ℕ) → IsLayout lines turns (above ++ rest) → actors above ++ left ≡ turns → actors rest ≡ left
  kept above [] [] is had = refl
  kept above [] (p ∷ left) is had =
      let laid_out_all = ap length (ap (λ rows. laid_out rows p) (sym (append-nil above)) ∙ is.drawing.order p) ∙ length-range_with_len 1 (length (c p)) in
      let all = ap (times p) had ∙ run.all p in
      let both = times-append p (actors above) (p ∷ left) in
      let own = times-own p left in
      let above_it = times-rows p above in
      absurd (omega arith)
  kept above (row ∷ rest) left is had = go (λ l e. kept (above ++ row ∷ []) rest l (subst (IsLayout lines turns) (sym (append_assoc above (row ∷ []) rest)) is) e) comes
    where
      order : AreInOrder above
      order p = front_range 1 (length (c p)) (laid_out above p) (laid_out (row ∷ rest) p) (sym (laid_out-append above (row ∷ rest) p) ∙ is.drawing.order p)

      comes : Comes c (length lines) above left row
      comes = subst (λ ts. Comes c (length lines) above ts row) (ap (drop (length (actors above))) (sym had) ∙ drop_seam (actors above) left)
          (subst (λ rows. Comes c (length lines) rows (drop (length (actors rows)) turns) row) (take-append_seam above (row ∷ rest)) (is.comes (length above) row (slice_get_seam above row rest)))

      go : ((l : List ℕ) → actors (above ++ row ∷ []) ++ l ≡ turns → actors rest ≡ l) → Comes c (length lines) above left row → actors (row ∷ rest) ≡ left
      go next (inr none) = absurd (picked_not above row left order had none.0 none.1)
      go next (inl turn) =
          let more = row_turns above row left turn in
          let joined : actors (above ++ row ∷ []) ≡ actors above ++ actors_of row = flat_map-append actors_of above (row ∷ []) ∙ ap (λ l. actors above ++ l) (append-nil (actors_of row)) in
          let then = next more.0
          (ap (λ l. l ++ more.0) joined ∙ append_assoc (actors above) (actors_of row) more.0 ∙ ap (λ l. actors above ++ l) (sym more.1) ∙ had) in
          ap (λ l. actors_of row ++ l) then ∙ sym more.1

pub kept_turns : (lines : List LineView) (turns : List ℕ) (rows : List Row) → IsRun (chart_lines lines) turns → IsLayout lines turns rows → actors rows ≡ turns
kept_turns lines turns rows run is = kept lines turns run [] rows turns is refl
