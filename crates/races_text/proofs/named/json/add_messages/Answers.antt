use Rattle.std.proofs.Common.{◌<◌, length, ap, subst, arith}
use Rattle.std.proofs.lemmas.List.{take_all}
use Rattle.std.specs.List.{flat_map}
use Rattle.chart.specs.Ranges.{events_of}
use Rattle.chart.proofs.RangeLists.{events_from-length, event_read}
use Rattle.texts.specs.Writing.{Buffers}
use Rattle.texts.proofs.Writes.{buffers_more_read, adds_in_read}
use Rattle.races_text.specs.Named.JsonText.{message_text}
use Rattle.races_text.proofs.named.json.add_messages.Goals as goal

pub loop-number-preserved : goal.loop-number-preserved
loop-number-preserved g c =
    let range = c.args.range.now in
    let number = c.loop-number.number in
    let within : number < length (events_of range) = omega (arith, c.loop-number-test.true, events_from-length range.first.instance range.first.index range.count) in
    buffers_more_read (message_text c.args.events.now range.first.index) (events_of range) number c.event.result within (event_read range number c.event.result c.loop-number-test.true c.event.ensures) c.loop-number.invariant c.in_ok-add_message.ensures

pub returns-in_err-add_message : goal.returns-in_err-add_message
returns-in_err-add_message g c =
    let range = c.args.range.now in
    let number = c.loop-number.number in
    let within : number < length (events_of range) = omega (arith, c.loop-number-test.true, events_from-length range.first.instance range.first.index range.count) in
    adds_in_read (message_text c.args.events.now range.first.index) c.from_residual.result (events_of range) number c.event.result c.from_residual.ensures.0 within (event_read range number c.event.result c.loop-number-test.true c.event.ensures) c.loop-number.invariant c.in_err-add_message.ensures

pub returns : goal.returns
returns g c =
    let range = c.args.range.now in
    let whole = take_all c.loop-number.number (events_of range) (omega (arith, c.loop-number-test.false, events_from-length range.first.instance range.first.index range.count)) in
    subst (Buffers g.W.Out.sink c.args.text.now c.loop-number.text) (ap (flat_map (message_text c.args.events.now range.first.index)) whole) c.loop-number.invariant
