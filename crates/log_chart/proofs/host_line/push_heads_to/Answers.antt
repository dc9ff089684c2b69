use Rattle.std.proofs.Common.{◌≡◌, ◌++◌, ◌∷◌, [], ◌==◌, true, false, ap, sym, ◌∙◌}
use Rattle.log_chart.proofs.BegunLemmas.{head_more, head_same, head_end}
use Rattle.log_chart.proofs.host_line.push_heads_to.Goals as goal
use Rattle.log_chart.proofs.host_line.push_heads_to.Goals.{then-eq+in_ok-push, else-eq}

pub loop-begun-preserved : goal.loop-begun-preserved
loop-begun-preserved c =
    elim c.if-eq.branch [
      | then-eq+in_ok-push w ↦
          let its : (c.begun-item.result.receiver == c.args.receiver) ≡ true = sym c.eq.ensures ∙ w.if-eq.true in
          rw w.items-is (head_more c.loop-begun.items.items c.args.heads.now c.loop-begun.begun-index c.args.receiver c.begun-item.result c.loop-begun-test.true c.begun-item.is w.push.new.self.items its
          (w.in_ok-push.ensures.items ∙ ap (λ i. c.loop-begun.items.items ++ i ∷ []) w.invented.ensures) ∙ c.loop-begun.invariant)
      | else-eq w ↦
          let other : (c.begun-item.result.receiver == c.args.receiver) ≡ false = sym c.eq.ensures ∙ w.if-eq.false in
          rw w.items-is (head_same c.loop-begun.items.items c.args.heads.now c.loop-begun.begun-index c.args.receiver c.begun-item.result c.loop-begun-test.true c.begun-item.is other ∙ c.loop-begun.invariant)
    ]

pub returns : goal.returns
returns c = sym (head_end _ _ _ _ c.loop-begun-test.false) ∙ c.loop-begun.invariant
