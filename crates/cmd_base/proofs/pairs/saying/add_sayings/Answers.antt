use Rattle.texts.proofs.Writes.{buffers_more_read, adds_in_read}
use Rattle.cmd_base.specs.Pairs.SayingText.{saying_text}
use Rattle.cmd_base.proofs.pairs.saying.add_sayings.Goals as goal

pub loop-saying-preserved : goal.loop-saying-preserved
loop-saying-preserved g c = buffers_more_read (saying_text c.args.names.now c.args.events.now) c.args.sayings.now c.loop-saying.saying-index _ c.loop-saying-test.true c.saying-item.is c.loop-saying.invariant c.in_ok-add_saying.ensures

pub returns-in_err-add_saying : goal.returns-in_err-add_saying
returns-in_err-add_saying g c = adds_in_read (saying_text c.args.names.now c.args.events.now) c.from_residual.result c.args.sayings.now c.loop-saying.saying-index _ c.from_residual.ensures.0 c.loop-saying-test.true c.saying-item.is c.loop-saying.invariant c.in_err-add_saying.ensures
