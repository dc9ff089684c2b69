-- The next row by turns.
use Rattle.std.proofs.Common.{◌≡◌, ℕ, suc, ◌+◌, ◌≤◌, inl, inr, true, false, List, [], ◌∷◌, ◌++◌, length, drop, Option, None, Some, refl, sym, ap, ◌∙◌, subst, arith, length-append}
use Rattle.std.specs.Prelude.{MatchOption}
use Rattle.std.proofs.lemmas.List.{drop-drop}
use Rattle.std.proofs.lemmas.Option.{none-some}
use Rattle.std.proofs.lemmas.Bool.{both_ways}
use Rattle.chart.specs.declared.instance.EventNo.{EventNo}
use Rattle.chart.specs.Charts.{Chart, Place, LineView, BelongsTo, IsReceiveFrom, chart_lines}
use Rattle.chart.proofs.Belongs.{same_send, same_receive, not_both}
use Rattle.closure.specs.Faults.{place_of}
use Rattle.closure.proofs.ReadLemmas.{instance_within}
use Rattle.chart_layout.specs.declared.row.Row.{Row}
use Rattle.chart_layout.specs.declared.row.Row.TheVariants.{Message, Event}
use Rattle.chart_layout.specs.declared.finding.Way.TheVariants.{Level}
use Rattle.chart_layout.specs.Layouts.{is_at, row_of}
use Rattle.chart_layout.specs.Picking.{HasTurn, later, IsTurn, Comes, IsPicked, actors_of, actors, IsLayout}
use Rattle.chart_layout.specs.Searching.{IsSendRow}
use Rattle.chart_layout.specs.Ways.{IsNextEvent, IsWay, IsNextRow, AreLaidOut}
use Rattle.chart_layout.proofs.FindLemmas.{same_next}
use Rattle.chart_layout.proofs.IndexLemmas.{is_at-true, is_at-same}
use Rattle.chart_layout.proofs.BegunLemmas.{IsBegun, IsDrawing-from_begun}
use Rattle.chart_layout.proofs.PickLemmas.{OfEach, next_picked}

pub same_event : (a b : EventNo) → place_of a ≡ place_of b → a ≡ b
same_event a b same = go a b (ap (λ (e : Place). e.instance) same) (ap (λ (e : Place). e.index) same)
  where
    go : (x y : EventNo) → x.instance ≡ y.instance → x.index ≡ y.index → x ≡ y
    go x y line number = ap (λ p. record { instance = p; index = x.index }) line ∙ ap (λ i. record { instance = y.instance; index = i }) number

-- only one instance has the turn
same_turn : (turns : List ℕ) (p q : ℕ) → HasTurn turns p → HasTurn turns q → p ≡ q
same_turn [] p q one other = absurd one
same_turn (x ∷ turns) p q one other = sym one ∙ other

-- an event that comes next is on one of the chart's lines
pub next_within : (lines : List LineView) (rows : List Row) (p : ℕ) → length lines ≤ p → (e : Place) → e.instance ≡ suc p → IsNextEvent (chart_lines lines) rows e → ⊥
next_within lines rows p past e line next = let on = instance_within lines e next.event in let same = on.1 in let inside = on.2 in omega (arith, same, line, inside, past)

module _ (c : Chart) (rows : List Row) (turns : List ℕ) where
  -- without an event that comes next there is no row
  pub no_event : ((e : EventNo) → HasTurn turns e.instance → IsNextEvent c rows (place_of e) → ⊥) → (x : Row) → IsTurn c rows turns x → ⊥
  no_event none (Message s r) is = none s is.0 is.2.1
  no_event none (Event e) is = none e is.0 is.1.next

  module _ (e : EventNo) (turn : HasTurn turns e.instance) (next : IsNextEvent c rows (place_of e)) where
    its : (f : EventNo) → HasTurn turns f.instance → IsNextEvent c rows (place_of f) → f ≡ e
    its f has here = same_event f e (same_next c rows (place_of f) (place_of e) (same_turn turns f.instance e.instance has turn) here next)

    -- a receive whose send is above, or isn't yet
    module _ (s : Place) (belongs : BelongsTo c s (place_of e)) where
      pub receive_row : (i : ℕ) → row_of rows s ≡ Some i → IsTurn c rows turns (Event e)
      receive_row i row = (
        turn,
        record { next = next; after = λ t other. (i, ap (row_of rows) (same_send c t s (place_of e) other belongs) ∙ row) },
        λ r has way. not_both c r.instance s.instance (place_of e) way.0.sent belongs.received,
      )

      pub no_receive : row_of rows s ≡ None → (x : Row) → IsTurn c rows turns x → ⊥
      no_receive none (Message t r) is =
          let same = its t is.0 is.2.1 in
          not_both c r.instance s.instance (place_of e) (subst (λ (y : EventNo). BelongsTo c (place_of y) (place_of r)) same is.2.0).sent belongs.received
      no_receive none (Event f) is =
          let same = its f is.0 is.1.next in
          let above = is.1.after s (subst (λ (y : EventNo). BelongsTo c s (place_of y)) (sym same) belongs) in
          none-some above.0 (sym none ∙ above.1)

    -- a send
    pub send_turn : ((q : ℕ) → IsReceiveFrom c q (place_of e) → ⊥) → (x : Row) → IsSendRow c rows (later turns) e x → IsTurn c rows turns x
    send_turn sends (Message s r) is = subst (λ (y : EventNo). IsTurn c rows turns (Message y r)) (sym is.0) (turn, is.1, is.2)
    send_turn sends (Event f) is = subst (λ (y : EventNo). IsTurn c rows turns (Event y)) (sym is.0) (
      turn,
      record { next = next; after = λ s other. absurd (sends s.instance other.received) },
      is.1,
    )

  -- the turns have only one row
  pub same_turn_row : (x y : Row) → IsTurn c rows turns x → IsTurn c rows turns y → x ≡ y
  same_turn_row (Message s r) (Message t q) a b =
      let sends = its t b.0 b.2.1 s a.0 a.2.1 in
      let receives = same_event r q (same_receive c (place_of t) (place_of r) (place_of q) (subst (λ (y : EventNo). BelongsTo c (place_of y) (place_of r)) sends a.2.0) b.2.0) in
      ap (λ z. Message z r) sends ∙ ap (λ z. Message t z) receives
  same_turn_row (Message s r) (Event e) a b =
      let same = its e b.0 b.1.next s a.0 a.2.1 in
      absurd (b.2 r a.1 (subst (λ (y : EventNo). IsWay c rows Level (Message y r)) same a.2))
  same_turn_row (Event e) (Message s r) a b =
      let same = its e a.0 a.1.next s b.0 b.2.1 in
      absurd (a.2 r b.1 (subst (λ (y : EventNo). IsWay c rows Level (Message y r)) same b.2))
  same_turn_row (Event e) (Event f) a b = ap (λ z. Event z) (its f b.0 b.1.next e a.0 a.1.next)

  -- the row of a send whose receive comes next after it
  pub level_row : (send receive : EventNo) → IsNextEvent c rows (place_of send) → HasTurn turns receive.instance × IsNextEvent c rows (place_of receive) → (sender : EventNo) → BelongsTo c (place_of sender) (place_of receive)
      → is_at (place_of send) sender ≡ true → IsSendRow c rows turns send (Message send receive)
  level_row send receive next here sender belongs same =
      (refl, here.0, (subst (λ (s : Place). BelongsTo c s (place_of receive)) (is_at-true (place_of send) sender same) belongs, next, here.1))

  alone_row : (send : EventNo) → ((r : EventNo) → HasTurn turns r.instance → IsNextEvent c rows (place_of r) → BelongsTo c (place_of send) (place_of r) → ⊥) → IsSendRow c rows turns send (Event send)
  alone_row send none = (refl, λ r has way. none r has way.2 way.0)

  -- a send whose receive doesn't come next: the next event is no receive
  pub no_receive_row : (send receive : EventNo) → HasTurn turns receive.instance × IsNextEvent c rows (place_of receive) → ((q : ℕ) → IsReceiveFrom c q (place_of receive) → ⊥) → IsSendRow c rows turns send (Event send)
  no_receive_row send receive here never = alone_row send (λ r has next belongs. never send.instance (subst (λ (y : EventNo). IsReceiveFrom c send.instance (place_of y)) (its receive here.0 here.1 r has next) belongs.received))

  -- the next event is the receive of another send
  pub other_row : (send receive : EventNo) → HasTurn turns receive.instance × IsNextEvent c rows (place_of receive) → (sender : EventNo) → BelongsTo c (place_of sender) (place_of receive) → is_at (place_of send) sender ≡ false → IsSendRow c rows turns send (Event send)
  other_row send receive here sender mine differs = alone_row send (λ r has next belongs.
      let same = its receive here.0 here.1 r has next in
      let sends = same_event sender send (same_send c (place_of sender) (place_of send) (place_of receive) mine (subst (λ (y : EventNo). BelongsTo c (place_of send) (place_of y)) same belongs)) in
      both_ways (is_at (place_of send) sender) differs (is_at-same (place_of send) sender (ap (λ (y : EventNo). y.instance) sends) (ap (λ (y : EventNo). y.index) sends)))

module _ (lines : List LineView) (rows : List Row) (turns : List ℕ) where
  -- a row that comes next may be the next one
  pub next_coming : (row : Row) → Comes (chart_lines lines) (length lines) rows turns row → IsNextRow (chart_lines lines) rows row
  next_coming (Message s r) (inl turn) = turn.2
  next_coming (Event e) (inl turn) = turn.1
  next_coming row (inr picked) = next_picked lines rows row picked.1

  pub picked_coming : ((x : Row) → IsTurn (chart_lines lines) rows turns x → ⊥) → (found : Option Row) → MatchOption found (AreLaidOut (chart_lines lines) (length lines) rows) (IsPicked (chart_lines lines) (length lines) rows)
      → MatchOption found (AreLaidOut (chart_lines lines) (length lines) rows) (Comes (chart_lines lines) (length lines) rows turns)
  picked_coming none None all = all
  picked_coming none (Some row) picked = inr (none, picked)

-- the remaining turns
actors_more : (rows : List Row) (row : Row) → length (actors (rows ++ row ∷ [])) ≡ length (actors rows) + length (actors_of row)
actors_more [] row = length-append (actors_of row) [] ∙ omega arith
actors_more (first ∷ rows) row =
    let more = actors_more rows row in
    let one = length-append (actors_of first) (actors (rows ++ row ∷ [])) in
    let two = length-append (actors_of first) (actors rows) in
    omega arith

pub left-next : (turns : List ℕ) (rows : List Row) (row : Row) → drop (length (actors_of row)) (drop (length (actors rows)) turns) ≡ drop (length (actors (rows ++ row ∷ []))) turns
left-next turns rows row = drop-drop (length (actors_of row)) (length (actors rows)) turns ∙ ap (λ k. drop k turns) (sym (actors_more rows row))

-- if all events are in the rows, these are the layout
pub IsLayout-from_begun : (lines : List LineView) (turns : List ℕ) (rows : List Row) → IsBegun lines rows → OfEach (λ above row. Comes (chart_lines lines) (length lines) above (drop (length (actors above)) turns) row) rows → AreLaidOut (chart_lines lines) (length lines) rows → IsLayout lines turns rows
IsLayout-from_begun lines turns rows begun comes all = record { drawing = IsDrawing-from_begun lines rows begun all; comes = comes }
