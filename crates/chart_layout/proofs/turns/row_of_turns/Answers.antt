use Rattle.std.proofs.Common.{List, ℕ, sym, subst}
use Rattle.chart.specs.Charts.{chart_lines}
use Rattle.closure.specs.Faults.{place_of}
use Rattle.chart_layout.specs.Searching.{IsSendRow}
use Rattle.chart_layout.proofs.TurnLemmas.{receive_row, no_receive, send_turn}
use Rattle.chart_layout.proofs.turns.row_of_turns.Goals as goal

pub returns-in-None : goal.returns-in-None
returns-in-None c =
    send_turn (chart_lines c.args.closure.now) c.args.layout.now c.args.turns.now c.in-Some.event c.in-Some.ensures.0 c.in-Some.ensures.1 c.in-None.ensures c.send_row.result
    (subst (λ (behind : List ℕ). IsSendRow (chart_lines c.args.closure.now) c.args.layout.now behind c.in-Some.event c.send_row.result) c.behind.ensures c.send_row.ensures)

pub returns-in-None-row_of : goal.returns-in-None-row_of
returns-in-None-row_of c =
    no_receive (chart_lines c.args.closure.now) c.args.layout.now c.args.turns.now c.in-Some.event c.in-Some.ensures.0 c.in-Some.ensures.1 (place_of c.in-Some-send_of.send) c.in-Some-send_of.ensures (sym c.in-None-row_of.ensures)

pub returns-in-Some-row_of : goal.returns-in-Some-row_of
returns-in-Some-row_of c =
    receive_row (chart_lines c.args.closure.now) c.args.layout.now c.args.turns.now c.in-Some.event c.in-Some.ensures.0 c.in-Some.ensures.1 (place_of c.in-Some-send_of.send) c.in-Some-send_of.ensures c.in-Some-row_of.field-0 (sym c.in-Some-row_of.ensures)
