use Rattle.std.proofs.Common.{map}
use Rattle.texts.proofs.Writes.{buffers_more, adds_in}
use Rattle.cmd_import_log.specs.Answers.DiagnosticLines.{freed_text}
use Rattle.cmd_import_log.proofs.answers.diagnostic_lines.add_all_freed.Goals as goal

pub loop-place-preserved : goal.loop-place-preserved
loop-place-preserved g c = buffers_more (freed_text (map (λ file. file.now) c.args.files.now)) c.args.freed.now c.loop-place.place-index _ c.loop-place-test.true c.loop-place.invariant c.in_ok-add_freed_at.ensures

pub returns-in_err-add_freed_at : goal.returns-in_err-add_freed_at
returns-in_err-add_freed_at g c = adds_in (freed_text (map (λ file. file.now) c.args.files.now)) c.from_residual.result c.args.freed.now c.loop-place.place-index _ c.from_residual.ensures.0 c.loop-place-test.true c.loop-place.invariant c.in_err-add_freed_at.ensures
