use Rattle.std.proofs.Common.{◌+◌, ◌++◌, sym, ap, ◌∙◌}
use Rattle.std.specs.Prelude.{nat_lt}
use Rattle.std.proofs.lemmas.Bool.{lt-ltb, le-ltb}
use Rattle.cmd_base.specs.Pairs.Sayings.{passing}
use Rattle.cmd_base.proofs.PairsLemmas.Growing.{grown, grown_none, passing-taken, passing-left}
use Rattle.cmd_explain_race.proofs.explaining.add_below.Goals as goal
use Rattle.cmd_explain_race.proofs.explaining.add_below.Goals.{then-own-place+in_ok-push, else-own-place}

pub loop-place-init : goal.loop-place-init
loop-place-init c = grown_none c.args.order.now.items

pub loop-place-preserved : goal.loop-place-preserved
loop-place-preserved c =
    let own = c.args.own.now in
    let test = nat_lt own.receive in
    let n = c.loop-place.place in
    elim c.if-own-place.branch [
      | then-own-place+in_ok-push b ↦
          rw b.order-is (grown c.args.order.now.items (passing test n) (passing test (n + 1)) c.loop-place.order.items b.push.new.self.items (n + 1) c.loop-place.invariant b.in_ok-push.ensures.items (passing-taken test n (lt-ltb own.receive (n + 1) b.if-own-place.true)))
      | else-own-place b ↦ rw b.order-is (c.loop-place.invariant ∙ ap (λ l. c.args.order.now.items ++ l) (sym (passing-left test n (le-ltb own.receive (n + 1) b.if-own-place.false))))
    ]
