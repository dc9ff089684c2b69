use Rattle.std.proofs.Common.{sym, ap, ◌∙◌, ◌∷◌}
use Rattle.std.proofs.lemmas.Bool.{eqb-false}
use Rattle.schedule.specs.ActionLines.{action_by}
use Rattle.schedule.proofs.KnownLines.{receive_known}
use Rattle.schedule.proofs.known_line.receive_by.Goals as goal

pub returns : goal.returns
returns c =
    let other = eqb-false _ _ (sym c.if-eq.ensures) in
    ap (λ l. action_by c.args.names.now (c.args.actor.now ∷ l)) c.in_ok-from.ensures ∙ receive_known c.args.names.now c.args.actor.now c.in_ok-from.from.now _ _ c.in_ok-actor.ensures c.in_ok-from-2.ensures other
