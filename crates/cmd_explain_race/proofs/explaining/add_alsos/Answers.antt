use Rattle.std.proofs.Common.{◌+◌, ◌++◌, sym, ap, ◌∙◌}
use Rattle.cmd_base.specs.declared.pairs.saying.Saying.TheVariants.{Also}
use Rattle.cmd_base.specs.Pairs.Sayings.{passing, comes_too, alsos}
use Rattle.cmd_base.proofs.PairsLemmas.Growing.{grown, grown_none, alsos-taken, alsos-left}
use Rattle.cmd_explain_race.proofs.explaining.add_alsos.Goals as goal
use Rattle.cmd_explain_race.proofs.explaining.add_alsos.Goals.{then-comes_too+in_ok-push, else-comes_too}

pub loop-place-init : goal.loop-place-init
loop-place-init c = grown_none c.args.sayings.now.items

pub loop-place-preserved : goal.loop-place-preserved
loop-place-preserved c =
    let own = c.args.own.now in
    let test = comes_too own.events.now own.count own.sender in
    let n = c.loop-place.place in
    elim c.if-comes_too.branch [
      | then-comes_too+in_ok-push b ↦
          rw b.sayings-is (grown c.args.sayings.now.items (alsos own.instance (passing test n)) (alsos own.instance (passing test (n + 1))) c.loop-place.sayings.items b.push.new.self.items (Also own.instance (n + 1)) c.loop-place.invariant b.in_ok-push.ensures.items (alsos-taken own.instance test n (sym c.comes_too.ensures ∙ b.if-comes_too.true)))
      | else-comes_too b ↦ rw b.sayings-is (c.loop-place.invariant ∙ ap (λ l. c.args.sayings.now.items ++ l) (sym (alsos-left own.instance test n (sym c.comes_too.ensures ∙ b.if-comes_too.false))))
    ]
