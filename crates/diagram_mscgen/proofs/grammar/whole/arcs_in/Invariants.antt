use Rattle.std.proofs.Common.{length, map}
use Rattle.diagram_mscgen.specs.Grammar.Arcs.{arc_view}
use Rattle.diagram_mscgen.specs.Grammar.Tokens.{seen}
use Rattle.diagram_mscgen.proofs.GrammarLemmas.ItemLoops.{ArcsLeft}
use Rattle.diagram_mscgen.proofs.grammar.whole.arcs_in.Given as goal

abbrev pub invariant-arcs : goal.invariant-arcs
invariant-arcs l = ArcsLeft (map arc_view l.arcs.items) (map seen l.left.tokens.now) (map seen l.fn.tokens)

abbrev pub decreases-arcs : goal.decreases-arcs
decreases-arcs l = length l.left.tokens.now
