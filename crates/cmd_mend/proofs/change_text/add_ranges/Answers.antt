use Rattle.texts.proofs.Writes.{buffers_more_read, adds_in_read}
use Rattle.cmd_mend.specs.ChangeText.{race_line}
use Rattle.cmd_mend.proofs.change_text.add_ranges.Goals as goal

pub loop-range-preserved : goal.loop-range-preserved
loop-range-preserved g c = buffers_more_read (race_line c.args.word c.args.names.now c.args.events.now c.args.receive.now) c.args.ranges.now c.loop-range.range-index _ c.loop-range-test.true c.range-item.is c.loop-range.invariant c.in_ok-add_race.ensures

pub returns-in_err-add_race : goal.returns-in_err-add_race
returns-in_err-add_race g c = adds_in_read (race_line c.args.word c.args.names.now c.args.events.now c.args.receive.now) c.from_residual.result c.args.ranges.now c.loop-range.range-index _ c.from_residual.ensures.0 c.loop-range-test.true c.range-item.is c.loop-range.invariant c.in_err-add_race.ensures
