use Rattle.std.proofs.Common.{map, ap, ◌∙◌}
use Rattle.std.proofs.lemmas.List.{length-map}
use Rattle.diagram_mscgen.specs.Grammar.Charts.{entity_view}
use Rattle.diagram_mscgen.specs.Grammar.Tokens.{seen}
use Rattle.diagram_mscgen.proofs.GrammarLemmas.ItemLoops.{first_entity, entity_refused, entity_last, entity_more, seen_more}
use Rattle.diagram_mscgen.proofs.grammar.whole.entities_in.Goals as goal

pub entities-init : goal.entities-init
entities-init c = first_entity (map seen c.args.tokens.now) _ (ap (map entity_view) c.new-entities.ensures.items)

pub returns-in-Err : goal.returns-in-Err
returns-in-Err c = entity_refused _ _ (map seen c.args.tokens.now) _ c.entities.invariant c.in-Err.ensures.entity

pub returns-then-is_last : goal.returns-then-is_last
returns-then-is_last c =
    let entity = rw c.if-is_last.true at c.in-Ok.ensures.entity in
    entity_last _ _ _ _ (map seen c.args.tokens.now) _ c.entities.invariant entity
    (ap (map entity_view) c.in_ok-push.ensures.items ∙ seen_more entity_view c.entities.entities.items c.in-Ok.next.0)

pub entities-preserved : goal.entities-preserved
entities-preserved c =
    let entity = rw c.if-is_last.false at c.in-Ok.ensures.entity in
    entity_more _ _ _ _ (map seen c.args.tokens.now) _ c.entities.invariant entity
    (ap (map entity_view) c.in_ok-push.ensures.items ∙ seen_more entity_view c.entities.entities.items c.in-Ok.next.0)
    (simp length-map c.in-Ok.ensures.shorter)
