use Rattle.std.proofs.Common.{inl, inr, refl}
use Rattle.mscrun.proofs.running.run.Goals as goal

pub returns-in-Ok : goal.returns-in-Ok
returns-in-Ok g c = inl (c.in-Ok.asked, c.in-Ok.file.now, c.in-Ok.ensures, c.run_asked.ensures)

pub returns-in-Err : goal.returns-in-Err
returns-in-Err g c = inr (c.in-Err.error, c.in-Err.ensures, (c.refused.ensures.status, refl, c.refused.ensures.line))
