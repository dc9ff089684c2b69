use Rattle.std.proofs.Common.{refl, inl, inr}
use Rattle.mscview_requests.proofs.requests.view.Goals as goal

pub returns-in-Ok : goal.returns-in-Ok
returns-in-Ok g c = inl (_, c.view_request.ensures)

pub returns-in-Err : goal.returns-in-Err
returns-in-Err g c = inr (c.refusal.result, c.refusal.ensures.words, refl, (c.refused.ensures.status, c.refused.ensures.line))
