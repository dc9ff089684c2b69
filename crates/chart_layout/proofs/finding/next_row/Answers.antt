use Rattle.chart_layout.proofs.PickLemmas.{picked_arrival, picked_message, last_way}
use Rattle.chart_layout.proofs.finding.next_row.Goals as goal

pub returns-in-Some : goal.returns-in-Some
returns-in-Some c =
    picked_arrival c.args.closure.now c.args.layout.now c.in-Some.arrival c.in-Some.ensures

pub returns-in-Some-row_by : goal.returns-in-Some-row_by
returns-in-Some-row_by c =
    picked_message c.args.closure.now c.args.layout.now c.args.hint c.in-Some-row_by.row c.requires.hint.1 c.in_default.ensures c.in-Some-row_by.ensures

pub returns : goal.returns
returns c =
    last_way c.args.closure.now c.args.layout.now c.args.hint c.requires.possible c.requires.order c.requires.hint.1 c.in_default.ensures c.in_default-row_by.ensures c.row_by-2.result c.row_by-2.ensures
