use Rattle.std.proofs.Common.{◌+◌, ◌++◌, ◌∷◌, [], sym, ap, ◌∙◌, add-one}
use Rattle.cmd_base.specs.Pairs.Sayings.{comes_too}
use Rattle.cmd_base.proofs.PairsLemmas.Growing.{passing-taken, passing-left}
use Rattle.cmd_page.proofs.marks.marks.also_before.Goals as goal
use Rattle.cmd_page.proofs.marks.marks.also_before.Goals.{then-comes_too+in_ok-push, else-comes_too}

pub loop-place-preserved : goal.loop-place-preserved
loop-place-preserved c =
    let test = comes_too c.args.events.now c.args.count c.args.sender in
    let n = c.loop-place.place in
    elim c.if-comes_too.branch [
      | then-comes_too+in_ok-push b ↦
          rw b.list-is (b.in_ok-push.ensures.items ∙ ap (λ l. l ++ (n + 1) ∷ []) c.loop-place.invariant ∙ sym (passing-taken test n (ap test (add-one n) ∙ sym c.comes_too.ensures ∙ b.if-comes_too.true)))
      | else-comes_too b ↦ rw b.list-is (c.loop-place.invariant ∙ sym (passing-left test n (ap test (add-one n) ∙ sym c.comes_too.ensures ∙ b.if-comes_too.false)))
    ]
