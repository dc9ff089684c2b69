use Rattle.std.proofs.lemmas.Result.{err_from_is_err_and}
use Rattle.mscview_requests.proofs.beside.beside_by.Goals as goal

pub returns-in_err-asked : goal.returns-in_err-asked
returns-in_err-asked c =
    let p = err_from_is_err_and c.from_residual.result c.from_residual.ensures.1 in
    rw (p.1, p.2) (c.in_err-asked.ensures.0, λ both its. c.in_err-asked.ensures.1 both.0 its.asked)
