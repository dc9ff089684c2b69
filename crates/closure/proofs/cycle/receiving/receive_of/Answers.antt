use Rattle.std.proofs.Common.{◌≡◌, ◌<◌, List, length, count_by, Some, ap, sym, ◌∙◌, arith}
use Rattle.chart.specs.declared.event.Event.{Event}
use Rattle.chart.specs.Events.{is_receive_from}
use Rattle.chart.specs.Charts.{chart_lines}
use Rattle.chart.proofs.Belongs.{IsEvent-from_passes}
use Rattle.chart.proofs.Tally.{ith_within}
use Rattle.closure.specs.Faults.{place_of}
use Rattle.closure.proofs.ReadLemmas.{instance_within, line_short}
use Rattle.closure.proofs.CycleLemmas.PassLemmas.{receiver_is, turn_is, turn_begun, turn_received}
use Rattle.closure.proofs.cycle.receiving.receive_of.Goals as goal
use Rattle.closure.proofs.cycle.receiving.receive_of.Goals.{After-place}

-- the receiver is that of the send
goes : (c : After-place) → c.in-Send.to ≡ c.requires.received.0.instance
goes c = receiver_is (chart_lines c.args.lines.now) c.args.send.now c.requires.received.0 c.place-line.result c.in-Send.to c.in-Send.name c.requires.received.1 c.place-line.ensures.value (c.event_at.ensures ∙ ap (λ x. Some x) c.in-Send.is)

pub events_at-requires-2 : goal.events_at-requires-2
events_at-requires-2 c =
    let r = c.requires.received.0 in
    let w = instance_within c.args.lines.now r (IsEvent-from_passes (chart_lines c.args.lines.now) (is_receive_from c.args.send.now.instance) r c.requires.received.1.received) in
    omega (arith, goes c, w.1, w.2, c.place.ensures.value)

pub receive_in_turn-requires : goal.receive_in_turn-requires
receive_in_turn-requires c =
    let d = chart_lines c.args.lines.now in
    let r = c.requires.received.0 in
    let belongs = c.requires.received.1 in
    let to_r = receiver_is d c.args.send.now r c.place-line.result c.in-Send.to c.in-Send.name belongs c.place-line.ensures.value (c.event_at.ensures ∙ ap (λ x. Some x) c.in-Send.is) in
    let turn = turn_is d (place_of c.args.send.now) r c.in-Send.to c.sends_among-turn.result c.events_at.result.now belongs to_r (c.events_at.ensures ∙ ap d (sym c.place-line.ensures.value)) c.sends_among-turn.ensures.value in
    omega (arith, turn, turn_begun d (place_of c.args.send.now) r belongs)

pub unreachable-requires-in-None : goal.unreachable-requires-in-None
unreachable-requires-in-None c =
    let d = chart_lines c.args.lines.now in
    let r = c.requires.received.0 in
    let belongs = c.requires.received.1 in
    let to_r = receiver_is d c.args.send.now r c.place-line.result c.in-Send.to c.in-Send.name belongs c.place-line.ensures.value (c.event_at.ensures ∙ ap (λ x. Some x) c.in-Send.is) in
    let turn = turn_is d (place_of c.args.send.now) r c.in-Send.to c.sends_among-turn.result c.events_at.result.now belongs to_r (c.events_at.ensures ∙ ap d (sym c.place-line.ensures.value)) c.sends_among-turn.ensures.value in
    let all = ap (λ (xs : List Event). count_by (is_receive_from c.args.send.now.instance) xs) (c.events_at-2.ensures ∙ ap d (sym c.place.ensures.value ∙ to_r)) in
    let none : count_by (is_receive_from c.args.send.now.instance) c.events_at-2.result.now < c.sends_among-turn.result = c.in-None.ensures in
    omega (arith, turn, all, none, turn_received d (place_of c.args.send.now) r belongs)

pub overflow_cast-result : goal.overflow_cast-result
overflow_cast-result c =
    let r = c.requires.received.0 in
    let w = instance_within c.args.lines.now r (IsEvent-from_passes (chart_lines c.args.lines.now) (is_receive_from c.args.send.now.instance) r c.requires.received.1.received) in
    let to_r = receiver_is (chart_lines c.args.lines.now) c.args.send.now r c.place-line.result c.in-Send.to c.in-Send.name c.requires.received.1 c.place-line.ensures.value (c.event_at.ensures ∙ ap (λ x. Some x) c.in-Send.is) in
    let short = line_short c.args.lines.now c.place.result c.requires.chart (omega (arith, to_r, w.1, w.2, c.place.ensures.value)) in
    let found = ith_within c.events_at-2.result.now c.in-Some.index c.in-Some.ensures.received.0 c.in-Some.ensures.received.1 in
    let long = ap (λ (xs : List Event). length xs) c.events_at-2.ensures in
    omega (arith, short, found.1, long)
