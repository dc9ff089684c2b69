use Rattle.texts.proofs.Writes.{buffers_more, adds_in}
use Rattle.cmd_compare.specs.Comparisons.{only_text}
use Rattle.cmd_compare.proofs.comparison_text.add_onlys.Goals as goal

pub loop-number-preserved : goal.loop-number-preserved
loop-number-preserved g c = buffers_more (only_text c.args.form c.args.owner c.args.line.now.names.now c.args.line.now.events.now c.args.line.now.instance) c.args.numbers.now c.loop-number.number-index 0 c.loop-number-test.true c.loop-number.invariant c.in_ok-add_only.ensures

pub returns-in_err-add_only : goal.returns-in_err-add_only
returns-in_err-add_only g c = adds_in (only_text c.args.form c.args.owner c.args.line.now.names.now c.args.line.now.events.now c.args.line.now.instance) c.from_residual.result c.args.numbers.now c.loop-number.number-index 0 c.from_residual.ensures.0 c.loop-number-test.true c.loop-number.invariant c.in_err-add_only.ensures
