use Rattle.std.proofs.Common.{◌∙◌, sym}
use Rattle.chart.specs.Charts.{chart_lines}
use Rattle.chart_layout.proofs.TurnLemmas.{level_row, no_receive_row, other_row}
use Rattle.chart_layout.proofs.turns.send_row.Goals as goal

pub returns-in_default-send_of : goal.returns-in_default-send_of
returns-in_default-send_of c =
    no_receive_row (chart_lines c.args.closure.now) c.args.layout.now c.args.behind.now c.args.send.now c.in-Some.receive c.in-Some.ensures c.in_default-send_of.ensures

pub returns-then-not-is_same : goal.returns-then-not-is_same
returns-then-not-is_same c =
    other_row (chart_lines c.args.closure.now) c.args.layout.now c.args.behind.now c.args.send.now c.in-Some.receive c.in-Some.ensures c.in-Some-send_of.sender c.in-Some-send_of.ensures (sym c.is_same.ensures ∙ c.if-not-is_same.true)

pub returns : goal.returns
returns c =
    level_row (chart_lines c.args.closure.now) c.args.layout.now c.args.behind.now c.args.send.now c.in-Some.receive c.requires.next c.in-Some.ensures c.in-Some-send_of.sender c.in-Some-send_of.ensures (sym c.is_same.ensures ∙ c.if-not-is_same.false)
