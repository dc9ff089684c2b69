use Rattle.texts.proofs.Writes.{buffers_more_read, adds_in_read}
use Rattle.texts.specs.Pieces.RaceWords.{next_range}
use Rattle.texts.proofs.pieces.race_words.add_next_ranges.Goals as goal

pub loop-range-preserved : goal.loop-range-preserved
loop-range-preserved g c = buffers_more_read (next_range) c.args.ranges.now c.loop-range.range-index _ c.loop-range-test.true c.range-item.is c.loop-range.invariant c.in_ok-add_next_range.ensures

pub returns-in_err-add_next_range : goal.returns-in_err-add_next_range
returns-in_err-add_next_range g c = adds_in_read (next_range) c.from_residual.result c.args.ranges.now c.loop-range.range-index _ c.from_residual.ensures.0 c.loop-range-test.true c.range-item.is c.loop-range.invariant c.in_err-add_next_range.ensures
