use Rattle.std.proofs.Common.{refl}
use Rattle.cmd_mend.specs.Luck.MendsLog.{refused, one_end, unknown, mended}
use Rattle.cmd_mend.proofs.logs.mend_luck_of_log.Goals as goal

pub returns-in-Err : goal.returns-in-Err
returns-in-Err g c = refused c.in-Err.error c.in-Err.ensures.records (c.refused_log.ensures.status, c.refused_log.ensures.line, refl)

pub returns-then-recording : goal.returns-then-recording
returns-then-recording g c =
    one_end c.in-Ok.recording c.in-Ok.ensures.records c.if-recording.true (c.refused_one_end.ensures.status, c.refused_one_end.ensures.line, refl)

pub returns-then-not-recording : goal.returns-then-not-recording
returns-then-not-recording g c =
    unknown c.in-Ok.recording c.in-Ok.ensures.records c.if-recording.false c.if-not-recording.true (c.refused.ensures.status, c.refused.ensures.line, refl)

pub returns-in-Ok-luck_of : goal.returns-in-Ok-luck_of
returns-in-Ok-luck_of g c = mended c.in-Ok.recording c.in-Ok.ensures.records c.if-recording.false c.if-not-recording.false c.mend_recording.ensures
