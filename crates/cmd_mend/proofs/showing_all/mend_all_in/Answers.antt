use Rattle.std.proofs.Common.{List, subst}
use Rattle.chart.specs.Charts.{LineView}
use Rattle.cmd_mend.specs.Limits.{IsLimit}
use Rattle.cmd_mend.proofs.showing_all.mend_all_in.Goals as goal

pub returns-in-Ok-write : goal.returns-in-Ok-write
returns-in-Ok-write g c =
    let is = subst (λ (l : List LineView). IsLimit l c.args.asked c.in-Ok.limit) c.in_ok-closure.ensures.closure c.in-Ok.ensures in
    (c.in-Ok-mend_all.mended, (c.in_ok-closure.ensures.possible, (c.in-Ok.limit, is, c.in-Ok-mend_all.ensures)), c.in-Ok-write.ensures, c.in-Ok-additions_outcome.ensures)

pub returns : goal.returns
returns g c =
    let is = subst (λ (l : List LineView). IsLimit l c.args.asked c.in-Ok.limit) c.in_ok-closure.ensures.closure c.in-Ok.ensures in
    (c.in-Ok-mend_all.mended, (c.in_ok-closure.ensures.possible, (c.in-Ok.limit, is, c.in-Ok-mend_all.ensures)), c.in-Err-write.ensures)
