use Rattle.std.proofs.Common.{inl, refl}
use Rattle.std.proofs.lemmas.Result.{err_from_is_err_and}
use Rattle.mscview_requests.proofs.mends.view_mend.Goals as goal

pub returns-in_err-wanted-in-All : goal.returns-in_err-wanted-in-All
returns-in_err-wanted-in-All g c =
    let p = err_from_is_err_and c.from_residual-in_err-wanted-in-All.result c.from_residual-in_err-wanted-in-All.ensures.1 in
    rw (c.in-All.is, p.1, p.2) ((refl, refl), inl c.in_err-wanted-in-All.ensures)
