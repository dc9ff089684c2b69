use Rattle.chart.specs.Charts.{chart_lines}
use Rattle.closure.specs.Links.{IsPartner}
use Rattle.closure.proofs.RowLemmas.{AreRows-push}
use Rattle.closure.proofs.LinkLemmas.{Refuses-from_line}
use Rattle.closure.proofs.linking.partners_of.Goals as goal

pub returns-in-Err-clause-err : goal.returns-in-Err-clause-err
returns-in-Err-clause-err c = Refuses-from_line c.args.lines.now c.loop-line.line c.loop-line.partners.items c.in-Err.error c.loop-line.invariant c.in-Err.ensures.err

pub loop-line-preserved : goal.loop-line-preserved
loop-line-preserved c = rw c.in_ok-push-in-Ok.ensures.items (AreRows-push (IsPartner c.args.lines.now) (chart_lines c.args.lines.now) c.loop-line.line c.loop-line.partners.items c.in-Ok.row c.loop-line.invariant c.in-Ok.ensures.ok)
