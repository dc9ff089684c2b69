use Rattle.std.proofs.Common.{Ok, Err, refl, subst, sym}
use Rattle.mscrun.proofs.running.run_asked.Goals as goal

pub returns-in-Ok : goal.returns-in-Ok
returns-in-Ok g c = (
  Ok c.as_slice.result.now,
  subst (λ bytes. g.G.Giver.gives c.args.giver.now c.args.file.now (Ok bytes)) (sym c.as_slice.ensures.value) c.in-Ok.ensures,
  c.perform_asked.ensures,
)

pub returns-in-Err : goal.returns-in-Err
returns-in-Err g c = (Err c.in-Err.error, c.in-Err.ensures, (c.refused.ensures.status, refl, c.refused.ensures.line))
