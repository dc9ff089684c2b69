use Rattle.texts.proofs.Writes.{buffers_more, adds_in}
use Rattle.schedule_threads.specs.RunText.{spent_text}
use Rattle.schedule_threads.proofs.text.add_spent.Goals as goal

pub loop-name-preserved : goal.loop-name-preserved
loop-name-preserved g c =
    buffers_more spent_text c.args.names.now c.loop-name.name-index c.name-item.result c.loop-name-test.true
    c.loop-name.invariant (rw (← c.name-item.is) c.in_ok-add_name.ensures)

pub returns-in_err-add_name : goal.returns-in_err-add_name
returns-in_err-add_name g c =
    adds_in spent_text c.from_residual.result c.args.names.now c.loop-name.name-index c.name-item.result
    c.from_residual.ensures.0 c.loop-name-test.true c.loop-name.invariant (rw (← c.name-item.is) c.in_err-add_name.ensures)
