use Rattle.std.proofs.Common.{◌+◌, ◌∙◌, arith}
use Rattle.chart.specs.declared.instance.EventNo.{EventNo}
use Rattle.chart.specs.Charts.{chart_lines}
use Rattle.closure.specs.Faults.{place_of}
use Rattle.chart_layout.proofs.EndLemmas.{IsPart-none, IsPart-message, has_slot, send_event, set-many, set-shape}
use Rattle.chart_layout.proofs.ends.add_event.Goals as goal

pub put-requires-in-Some : goal.put-requires-in-Some
put-requires-in-Some c =
    let event : EventNo = record { instance = c.at_place.result; index = c.args.index + 1 } in
    has_slot c.args.closure.now c.put.new.lines (set-many event c.in-Some.send c.args.lines.now c.put.new.lines c.put.ensures ∙ c.requires.part.many)
    (λ q. set-shape event c.in-Some.send c.args.lines.now c.put.new.lines c.put.ensures q ∙ c.requires.part.shape q) c.in-Some.send
    (send_event (chart_lines c.args.closure.now) (place_of c.in-Some.send) (place_of event) c.in-Some.ensures)

pub returns-in-Some : goal.returns-in-Some
returns-in-Some c =
    let event : EventNo = record { instance = c.at_place.result; index = c.args.index + 1 } in
    IsPart-message c.args.closure.now c.args.lines.now c.args.line c.args.index c.requires.part event (omega (arith, c.at_place.ensures)) (omega arith)
    c.in-Some.send c.in-Some.ensures c.put.new.lines c.put-in-Some.new.lines c.put.ensures c.put-in-Some.ensures

pub returns-in_default : goal.returns-in_default
returns-in_default c =
    let event : EventNo = record { instance = c.at_place.result; index = c.args.index + 1 } in
    IsPart-none c.args.closure.now c.args.lines.now c.args.line c.args.index c.requires.part event (omega (arith, c.at_place.ensures)) (omega arith) c.in_default.ensures
