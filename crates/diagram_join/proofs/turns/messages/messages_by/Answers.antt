use Rattle.std.proofs.Common.{◌≡◌, List, sym, subst}
use Rattle.std.specs.Prelude.{IfOk}
use Rattle.diagrams.specs.Diagrams.{participant_view}
use Rattle.diagrams.specs.declared.message.Message.{Message}
use Rattle.diagram_join.specs.Joins.{join_view}
use Rattle.diagram_join.proofs.TurnsLemmas.MessageLemmas.{without_joins, with_joins}
use Rattle.diagram_join.proofs.turns.messages.messages_by.Goals as goal

pub returns-in-empty : goal.returns-in-empty
returns-in-empty c = subst (λ (ms : List Message). IfOk c.stay_alone.result (λ stay. stay.items ≡ ms)) (sym (without_joins join_view _ _ _ _ c.args.joins.now c.in-empty.len_below)) c.stay_alone.ensures

pub returns-in_default : goal.returns-in_default
returns-in_default c = subst (λ (ms : List Message). IfOk c.stay_joined.result (λ stay. stay.items ≡ ms)) (sym (with_joins join_view _ _ _ _ c.args.joins.now c.in_default.len_at_least)) c.stay_joined.ensures
