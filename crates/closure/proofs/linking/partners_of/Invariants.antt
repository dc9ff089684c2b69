use Rattle.chart.specs.Charts.{chart_lines}
use Rattle.closure.specs.Rows.{AreRows}
use Rattle.closure.specs.Links.{IsPartner}
use Rattle.closure.proofs.linking.partners_of.Given as goal

abbrev pub invariant-loop-line : goal.invariant-loop-line
invariant-loop-line l = AreRows (IsPartner l.lines) (chart_lines l.lines) l.line l.partners.items
