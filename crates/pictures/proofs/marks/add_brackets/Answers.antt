use Rattle.texts.proofs.Writes.{buffers_more_read, adds_in_read}
use Rattle.pictures.specs.MarkText.{bracket_text}
use Rattle.pictures.proofs.marks.add_brackets.Goals as goal

pub loop-range-preserved : goal.loop-range-preserved
loop-range-preserved g c = buffers_more_read (bracket_text c.args.picture.now c.args.receive.now) c.args.ranges.now c.loop-range.range-index _ c.loop-range-test.true c.range-item.is c.loop-range.invariant c.in_ok-add_bracket.ensures

pub returns-in_err-add_bracket : goal.returns-in_err-add_bracket
returns-in_err-add_bracket g c = adds_in_read (bracket_text c.args.picture.now c.args.receive.now) c.from_residual.result c.args.ranges.now c.loop-range.range-index _ c.from_residual.ensures.0 c.loop-range-test.true c.range-item.is c.loop-range.invariant c.in_err-add_bracket.ensures
