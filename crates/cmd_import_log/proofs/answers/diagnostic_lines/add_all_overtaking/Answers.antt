use Rattle.std.proofs.Common.{map}
use Rattle.texts.proofs.Writes.{buffers_more, adds_in}
use Rattle.cmd_import_log.specs.Answers.DiagnosticLines.{overtaking_text}
use Rattle.cmd_import_log.proofs.answers.diagnostic_lines.add_all_overtaking.Goals as goal

pub loop-message-preserved : goal.loop-message-preserved
loop-message-preserved g c = buffers_more (overtaking_text (map (λ file. file.now) c.args.files.now)) c.args.overtaking.now c.loop-message.message-index _ c.loop-message-test.true c.loop-message.invariant c.in_ok-add_message.ensures

pub returns-in_err-add_message : goal.returns-in_err-add_message
returns-in_err-add_message g c = adds_in (overtaking_text (map (λ file. file.now) c.args.files.now)) c.from_residual.result c.args.overtaking.now c.loop-message.message-index _ c.from_residual.ensures.0 c.loop-message-test.true c.loop-message.invariant c.in_err-add_message.ensures
