use Rattle.texts.proofs.Writes.{buffers_more_read, adds_in_read}
use Rattle.cmd_compare.specs.Comparisons.{difference_text}
use Rattle.cmd_compare.proofs.comparison_text.add_differences.Goals as goal

pub loop-difference-preserved : goal.loop-difference-preserved
loop-difference-preserved g c = buffers_more_read (difference_text c.args.form c.args.line.now.names.now c.args.line.now.events.now) c.args.differences.now c.loop-difference.difference-index _ c.loop-difference-test.true c.difference-item.is c.loop-difference.invariant c.in_ok-add_difference.ensures

pub returns-in_err-add_difference : goal.returns-in_err-add_difference
returns-in_err-add_difference g c = adds_in_read (difference_text c.args.form c.args.line.now.names.now c.args.line.now.events.now) c.from_residual.result c.args.differences.now c.loop-difference.difference-index _ c.from_residual.ensures.0 c.loop-difference-test.true c.difference-item.is c.loop-difference.invariant c.in_err-add_difference.ensures
