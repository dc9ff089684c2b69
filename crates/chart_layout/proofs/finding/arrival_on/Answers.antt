use Rattle.std.proofs.Common.{sym}
use Rattle.chart.specs.Charts.{chart_lines}
use Rattle.closure.specs.Faults.{place_of}
use Rattle.chart_layout.proofs.FindLemmas.{not_arrival, not_there}
use Rattle.chart_layout.proofs.finding.arrival_on.Goals as goal

pub returns-in_default-send_of : goal.returns-in_default-send_of
returns-in_default-send_of c =
    not_arrival (chart_lines c.args.closure.now) c.args.layout.now (place_of c.in-Some.receive) c.args.line c.in-Some.ensures.0 c.in-Some.ensures.1 c.in_default-send_of.ensures

pub returns-in-None : goal.returns-in-None
returns-in-None c =
    not_there (chart_lines c.args.closure.now) c.args.layout.now (place_of c.in-Some.receive) c.args.line c.in-Some.ensures.0 c.in-Some.ensures.1 (place_of c.in-Some-send_of.send) c.in-Some-send_of.ensures (sym c.in-None.ensures)
