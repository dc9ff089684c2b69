use Rattle.std.proofs.Common.{subst, sym}
use Rattle.mscrun.specs.Asking.{RefusesWords}
use Rattle.mscrun.proofs.AskingLemmas.{asked_so, refused_so}
use Rattle.mscrun.proofs.asking.asked_in.Goals as goal

pub returns-in-Ok : goal.returns-in-Ok
returns-in-Ok g c = asked_so _ _ _ c.in-Ok.ensures c.asked_by.ensures

pub returns-in-Err : goal.returns-in-Err
returns-in-Err g c = subst (RefusesWords _) (sym c.refusal.ensures) (refused_so _ _ c.in-Err.ensures)
