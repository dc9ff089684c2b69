use Rattle.texts.proofs.Writes.{buffers_more_read, adds_in_read}
use Rattle.cmd_base.specs.Pairs.SayingText.{step_text}
use Rattle.cmd_base.proofs.pairs.saying.add_steps.Goals as goal

pub loop-link-preserved : goal.loop-link-preserved
loop-link-preserved g c = buffers_more_read (step_text c.args.names.now) c.args.links.now c.loop-link.link-index _ c.loop-link-test.true c.link-item.is c.loop-link.invariant c.in_ok-add_step.ensures

pub returns-in_err-add_step : goal.returns-in_err-add_step
returns-in_err-add_step g c = adds_in_read (step_text c.args.names.now) c.from_residual.result c.args.links.now c.loop-link.link-index _ c.from_residual.ensures.0 c.loop-link-test.true c.link-item.is c.loop-link.invariant c.in_err-add_step.ensures
