use Rattle.std.proofs.Common.{◌≡◌, ◌==◌, ◌∙◌, true, false, cond, length, sym, ap, arith}
use Rattle.std.proofs.lemmas.Bool.{eq-eqb, ne_eqb}
use Rattle.board.proofs.LongRunsLemmas.Preparing.{counted_next, counted_within}
use Rattle.board.proofs.long_runs.carrying.count_sends.Goals as goal
use Rattle.board.proofs.long_runs.carrying.count_sends.Goals.{then-number-sender, else-number-sender}

pub overflow_add-sends : goal.overflow_add-sends
overflow_add-sends c =
    let lane = c.lane-item.result in
    let p = c.args.sender in
    let within = counted_within p c.args.left.now c.loop-lane.lane-index lane c.loop-lane-test.true c.lane-item.is in
    let mine : (lane.sender == p) ≡ true = eq-eqb lane.sender p (sym c.number.ensures.value ∙ c.if-number-sender.true) in
    let here : cond (lane.sender == p) (length lane.messages.items) 0 ≡ length lane.messages.items = ap (λ b. cond b (length lane.messages.items) 0) mine in
    omega (arith, within, here, c.loop-lane.invariant, c.len-sends.ensures, c.requires)

pub loop-lane-preserved : goal.loop-lane-preserved
loop-lane-preserved c =
    let lane = c.lane-item.result in
    let p = c.args.sender in
    let next = counted_next p c.args.left.now c.loop-lane.lane-index lane c.loop-lane-test.true c.lane-item.is in
    elim c.if-number-sender.branch [
      | then-number-sender w ↦
          let mine : (lane.sender == p) ≡ true = eq-eqb lane.sender p (sym c.number.ensures.value ∙ w.if-number-sender.true) in
          let here : cond (lane.sender == p) (length lane.messages.items) 0 ≡ length lane.messages.items = ap (λ b. cond b (length lane.messages.items) 0) mine in
          omega (arith, next, here, c.loop-lane.invariant, w.sends-is, w.len-sends.ensures)
      | else-number-sender w ↦
          let other : (lane.sender == p) ≡ false = ne_eqb lane.sender p (λ same. w.if-number-sender.false (c.number.ensures.value ∙ same)) in
          let none : cond (lane.sender == p) (length lane.messages.items) 0 ≡ 0 = ap (λ b. cond b (length lane.messages.items) 0) other in
          omega (arith, next, none, c.loop-lane.invariant, w.sends-is)
    ]
