use Rattle.std.proofs.Common.{◌<◌, length, ap, subst, arith}
use Rattle.std.proofs.lemmas.List.{take_all}
use Rattle.std.specs.List.{flat_map}
use Rattle.chart.specs.Ranges.{events_of}
use Rattle.chart.proofs.RangeLists.{events_from-length, event_read}
use Rattle.msc_text.specs.RaceText.{race_line}
use Rattle.texts.specs.Writing.{Buffers}
use Rattle.texts.proofs.Writes.{buffers_more_read, adds_in_read}
use Rattle.msc_text.proofs.race_text.LineEnds.add_range.Goals as goal

pub loop-number-preserved : goal.loop-number-preserved
loop-number-preserved g c =
    let range = c.args.earlier.now in
    let number = c.loop-number.number in
    let within : number < length (events_of range) = omega (arith, c.loop-number-test.true, events_from-length range.first.instance range.first.index range.count) in
    (buffers_more_read (race_line c.args.self.now.front c.args.self.now.end) (events_of range) number c.event.result within (event_read range number c.event.result c.loop-number-test.true c.event.ensures) c.loop-number.invariant.0 c.in_ok-add.ensures.text, c.add.ensures.made)

pub returns-in_err-add-clause-text : goal.returns-in_err-add-clause-text
returns-in_err-add-clause-text g c =
    let range = c.args.earlier.now in
    let number = c.loop-number.number in
    let within : number < length (events_of range) = omega (arith, c.loop-number-test.true, events_from-length range.first.instance range.first.index range.count) in
    adds_in_read (race_line c.args.self.now.front c.args.self.now.end) c.from_residual.result (events_of range) number c.event.result c.from_residual.ensures.0 within (event_read range number c.event.result c.loop-number-test.true c.event.ensures) c.loop-number.invariant.0 c.in_err-add.ensures.text

pub returns-clause-text : goal.returns-clause-text
returns-clause-text g c =
    let range = c.args.earlier.now in
    let whole = take_all c.loop-number.number (events_of range) (omega (arith, c.loop-number-test.false, events_from-length range.first.instance range.first.index range.count)) in
    subst (Buffers g.W.Out.sink c.args.text.now c.loop-number.text) (ap (flat_map (race_line c.args.self.now.front c.args.self.now.end)) whole) c.loop-number.invariant.0
