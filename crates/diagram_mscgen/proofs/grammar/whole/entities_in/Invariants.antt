use Rattle.std.proofs.Common.{length, map}
use Rattle.diagram_mscgen.specs.Grammar.Charts.{entity_view}
use Rattle.diagram_mscgen.specs.Grammar.Tokens.{seen}
use Rattle.diagram_mscgen.proofs.GrammarLemmas.ItemLoops.{EntitiesLeft}
use Rattle.diagram_mscgen.proofs.grammar.whole.entities_in.Given as goal

abbrev pub invariant-entities : goal.invariant-entities
invariant-entities l = EntitiesLeft (map entity_view l.entities.items) (map seen l.left.tokens.now) (map seen l.fn.tokens)

abbrev pub decreases-entities : goal.decreases-entities
decreases-entities l = length l.left.tokens.now
