use Rattle.std.proofs.Common.{◌∙◌, subst}
use Rattle.texts.proofs.Writes.{buffers_more, adds_in}
use Rattle.texts.specs.Writing.{Buffers, Stops}
use Rattle.cmd_import_log.specs.Answers.EventsRead.{lined_text}
use Rattle.cmd_import_log.proofs.answers.events_read.add_all_lined.Goals as goal

pub loop-name-preserved : goal.loop-name-preserved
loop-name-preserved g c = buffers_more lined_text c.args.names.now c.loop-name.name-index c.name-item.result c.loop-name-test.true c.loop-name.invariant
    (subst (λ n. Buffers g.V.Out.sink c.loop-name.text c.add_lined.new.text (lined_text n)) (c.as_bytes.ensures.value ∙ c.name-item.is) c.in_ok-add_lined.ensures)

pub returns-in_err-add_lined : goal.returns-in_err-add_lined
returns-in_err-add_lined g c = adds_in lined_text c.from_residual.result c.args.names.now c.loop-name.name-index c.name-item.result c.from_residual.ensures.0 c.loop-name-test.true c.loop-name.invariant
    (subst (λ n. Stops g.V.Out.sink c.loop-name.text c.add_lined.new.text (lined_text n)) (c.as_bytes.ensures.value ∙ c.name-item.is) c.in_err-add_lined.ensures)
