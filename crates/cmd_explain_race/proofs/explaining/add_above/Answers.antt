use Rattle.std.proofs.Common.{ℕ, ◌+◌, ◌++◌, sym, ap, ◌∙◌}
use Rattle.cmd_base.specs.Pairs.Sayings.{passing, comes_first, so}
use Rattle.cmd_base.proofs.PairsLemmas.Growing.{grown, grown_none, passing-taken, passing-left}
use Rattle.cmd_explain_race.proofs.explaining.add_above.Goals as goal
use Rattle.cmd_explain_race.proofs.explaining.add_above.Goals.{then-comes_so+in_ok-push, else-comes_so}

pub loop-place-init : goal.loop-place-init
loop-place-init c = grown_none c.args.order.now.items

pub loop-place-preserved : goal.loop-place-preserved
loop-place-preserved c =
    let own = c.args.own.now in
    let test = λ (i : ℕ). so c.args.before (comes_first own.events.now own.count own.sender i) in
    let n = c.loop-place.place in
    elim c.if-comes_so.branch [
      | then-comes_so+in_ok-push b ↦
          rw b.order-is (grown c.args.order.now.items (passing test n) (passing test (n + 1)) c.loop-place.order.items b.push.new.self.items (n + 1) c.loop-place.invariant b.in_ok-push.ensures.items (passing-taken test n (sym c.comes_so.ensures ∙ b.if-comes_so.true)))
      | else-comes_so b ↦ rw b.order-is (c.loop-place.invariant ∙ ap (λ l. c.args.order.now.items ++ l) (sym (passing-left test n (sym c.comes_so.ensures ∙ b.if-comes_so.false))))
    ]
