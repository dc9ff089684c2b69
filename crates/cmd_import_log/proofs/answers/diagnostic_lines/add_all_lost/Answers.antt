use Rattle.std.proofs.Common.{map}
use Rattle.texts.proofs.Writes.{buffers_more, adds_in}
use Rattle.cmd_import_log.specs.Answers.DiagnosticLines.{lost_text}
use Rattle.cmd_import_log.proofs.answers.diagnostic_lines.add_all_lost.Goals as goal

pub loop-place-preserved : goal.loop-place-preserved
loop-place-preserved g c = buffers_more (lost_text (map (λ file. file.now) c.args.files.now)) c.args.lost.now c.loop-place.place-index _ c.loop-place-test.true c.loop-place.invariant c.in_ok-add_lost_at.ensures

pub returns-in_err-add_lost_at : goal.returns-in_err-add_lost_at
returns-in_err-add_lost_at g c = adds_in (lost_text (map (λ file. file.now) c.args.files.now)) c.from_residual.result c.args.lost.now c.loop-place.place-index _ c.from_residual.ensures.0 c.loop-place-test.true c.loop-place.invariant c.in_err-add_lost_at.ensures
