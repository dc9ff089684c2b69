use Rattle.std.proofs.Common.{◌≢◌, ◌≤◌, sym, ap, ◌∙◌}
use Rattle.board.specs.Views.{PostView}
use Rattle.board.proofs.SendAnswers.{outgoing_at, closed_made}
use Rattle.board.proofs.parked.Parked.has_closed.Goals as goal

pub returns : goal.returns
returns c =
    let post = c.self.invariant in
    let ne : c.args.to ≢ c.self.inside.number = λ same. c.requires.not_itself (same ∙ ap (λ (p : PostView). p.number) c.self.view_is) in
    let most : c.args.to ≤ c.self.inside.shape.instances = rw (← c.self.view_is) at c.requires.among in
    let end = outgoing_at _ _ _ _ _ _ _ _ post c.args.to c.place.result c.index.result.now c.place.ensures.value ne most c.index.ensures in
    rw (← c.self.view_is) (sym (closed_made _ _ _ _ _ _ _ _ post c.args.to c.index.result.now end))
