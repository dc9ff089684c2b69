use Rattle.texts.proofs.Writes.{buffers_more_read, adds_in_read}
use Rattle.diagram_export.specs.ExportText.{participant}
use Rattle.diagram_export.proofs.writing.add_participants.Goals as goal

pub loop-line-preserved : goal.loop-line-preserved
loop-line-preserved g c = buffers_more_read (participant c.args.export.now) c.args.lines.now c.loop-line.line-index _ c.loop-line-test.true c.line-item.is c.loop-line.invariant c.in_ok-add_participant.ensures

pub returns-in_err-add_participant : goal.returns-in_err-add_participant
returns-in_err-add_participant g c = adds_in_read (participant c.args.export.now) c.from_residual.result c.args.lines.now c.loop-line.line-index _ c.from_residual.ensures.0 c.loop-line-test.true c.line-item.is c.loop-line.invariant c.in_err-add_participant.ensures
