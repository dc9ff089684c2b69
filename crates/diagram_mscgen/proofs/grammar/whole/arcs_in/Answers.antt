use Rattle.std.proofs.Common.{map, ap, sym, ◌∙◌}
use Rattle.std.proofs.lemmas.List.{length-map}
use Rattle.diagram_mscgen.specs.Grammar.Arcs.{arc_view}
use Rattle.diagram_mscgen.specs.Grammar.Tokens.{seen}
use Rattle.diagram_mscgen.proofs.GrammarLemmas.ItemLoops.{first_arc, arc_last, arc_more, seen_more}
use Rattle.diagram_mscgen.proofs.grammar.whole.arcs_in.Goals as goal

pub arcs-init : goal.arcs-init
arcs-init c = first_arc (map seen c.args.tokens.now) _ (ap (map arc_view) c.new-arcs.ensures.items)

pub returns-then-ends : goal.returns-then-ends
returns-then-ends c =
    arc_last _ _ _ _ (map seen c.args.tokens.now) _ c.arcs.invariant c.in-Ok.ensures.arc (sym c.is_last-ends.ensures ∙ c.if-ends.true)
    (ap (map arc_view) c.in_ok-push.ensures.items ∙ seen_more arc_view c.arcs.arcs.items c.in-Ok.next.0)

pub arcs-preserved : goal.arcs-preserved
arcs-preserved c =
    arc_more _ _ _ _ (map seen c.args.tokens.now) _ c.arcs.invariant c.in-Ok.ensures.arc (sym c.is_last-ends.ensures ∙ c.if-ends.false)
    (ap (map arc_view) c.in_ok-push.ensures.items ∙ seen_more arc_view c.arcs.arcs.items c.in-Ok.next.0)
    (simp length-map c.in-Ok.ensures.shorter)
