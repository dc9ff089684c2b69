use Rattle.texts.proofs.Writes.{buffers_more_read, adds_in_read}
use Rattle.cmd_mend.specs.Brief.{shown_text}
use Rattle.cmd_mend.proofs.brief_text.add_all_shown.Goals as goal

pub loop-one-preserved : goal.loop-one-preserved
loop-one-preserved g c = buffers_more_read (shown_text c.args.names.now c.args.old.now c.args.new.now) c.args.shown.now c.loop-one.one-index _ c.loop-one-test.true c.one-item.is c.loop-one.invariant c.in_ok-add_shown.ensures

pub returns-in_err-add_shown : goal.returns-in_err-add_shown
returns-in_err-add_shown g c = adds_in_read (shown_text c.args.names.now c.args.old.now c.args.new.now) c.from_residual.result c.args.shown.now c.loop-one.one-index _ c.from_residual.ensures.0 c.loop-one-test.true c.one-item.is c.loop-one.invariant c.in_err-add_shown.ensures
