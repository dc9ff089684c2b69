use Rattle.texts.proofs.Writes.{buffers_more_read, adds_in_read}
use Rattle.cmd_compare.specs.Words.{part_text}
use Rattle.cmd_compare.proofs.part.add_parts.Goals as goal

pub loop-part-preserved : goal.loop-part-preserved
loop-part-preserved g c = buffers_more_read part_text c.args.parts.now c.loop-part.part-index _ c.loop-part-test.true c.part-item.is c.loop-part.invariant c.in_ok-add_part.ensures

pub returns-in_err-add_part : goal.returns-in_err-add_part
returns-in_err-add_part g c = adds_in_read part_text c.from_residual.result c.args.parts.now c.loop-part.part-index _ c.from_residual.ensures.0 c.loop-part-test.true c.part-item.is c.loop-part.invariant c.in_err-add_part.ensures
