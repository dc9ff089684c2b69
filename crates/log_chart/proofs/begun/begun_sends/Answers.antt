use Rattle.std.proofs.Common.{◌++◌, ◌∷◌, [], ap, sym, ◌∙◌}
use Rattle.log_chart.specs.LaneTables.{LaneSends}
use Rattle.log_chart.proofs.FateLemmas.{lanes_same}
use Rattle.log_chart.proofs.BegunLemmas.{lasts_at, lasts_more, begun_more, begun_same, begun_end}
use Rattle.log_chart.proofs.begun.begun_sends.Goals as goal
use Rattle.log_chart.proofs.begun.begun_sends.Goals.{then-is_begun+in_ok-push, else-is_begun}

pub loop-line-preserved : goal.loop-line-preserved
loop-line-preserved c =
    let lines = c.args.lines.now in
    let n = c.loop-line.line-index in
    let x = c.line-item.result in
    let lasts = lanes_same _ _ _ (λ q p. ap (λ (f : LaneSends). f q p) (lasts_more lines n x c.loop-line-test.true c.line-item.is)) (c.pass.ensures (lasts_at lines n) c.loop-line.invariant.lasts) in
    elim c.if-is_begun.branch [
      | then-is_begun+in_ok-push w ↦ record {
        lasts = lasts;
        so_far = rw w.given-is (begun_more lines c.loop-line.given.items n x c.loop-line-test.true c.line-item.is w.push.new.self.items (sym c.is_begun.ensures ∙ w.if-is_begun.true)
            (w.in_ok-push.ensures.items ∙ ap (λ b. c.loop-line.given.items ++ b ∷ []) (w.begun_of.ensures (lasts_at lines n) c.loop-line.invariant.lasts)) ∙ c.loop-line.invariant.so_far);
      }
      | else-is_begun w ↦ record {
        lasts = lasts;
        so_far = rw w.given-is (begun_same lines c.loop-line.given.items n x c.loop-line-test.true c.line-item.is (sym c.is_begun.ensures ∙ w.if-is_begun.false) ∙ c.loop-line.invariant.so_far);
      }
    ]

pub returns : goal.returns
returns c = sym (begun_end _ _ _ _ c.loop-line-test.false) ∙ c.loop-line.invariant.so_far
