use Rattle.texts.proofs.Writes.{buffers_more_read, adds_in_read}
use Rattle.cmd_mend.specs.ChangeText.{addition_text}
use Rattle.cmd_mend.proofs.change_text.add_additions.Goals as goal

pub loop-addition-preserved : goal.loop-addition-preserved
loop-addition-preserved g c = buffers_more_read (addition_text c.args.names.now) c.args.additions.now c.loop-addition.addition-index _ c.loop-addition-test.true c.addition-item.is c.loop-addition.invariant c.in_ok-add_addition.ensures

pub returns-in_err-add_addition : goal.returns-in_err-add_addition
returns-in_err-add_addition g c = adds_in_read (addition_text c.args.names.now) c.from_residual.result c.args.additions.now c.loop-addition.addition-index _ c.from_residual.ensures.0 c.loop-addition-test.true c.addition-item.is c.loop-addition.invariant c.in_err-add_addition.ensures
