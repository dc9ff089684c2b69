use Rattle.std.proofs.Common.{length}
use Rattle.chart.specs.Charts.{chart_lines}
use Rattle.closure.specs.Links.{IsPartner}
use Rattle.closure.proofs.RowLemmas.{AreRows-at}
use Rattle.closure.proofs.linked.Linked.partner_of.Goals as goal

pub returns-clause-partner : goal.returns-clause-partner
returns-clause-partner c =
    let lines = c.self.inside.lines.now in
    let within = rw (← c.self.view_is) at c.requires.line in
    rw (← c.self.view_is) (AreRows-at (IsPartner lines) (chart_lines lines) (length lines) c.self.inside.partners.now c.args.line c.args.place c.value_at.result c.self.invariant.rows within c.value_at.ensures)
