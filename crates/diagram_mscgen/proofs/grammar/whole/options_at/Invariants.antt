use Rattle.std.proofs.Common.{length, map}
use Rattle.diagram_mscgen.specs.Grammar.Tokens.{seen}
use Rattle.diagram_mscgen.proofs.GrammarLemmas.ItemLoops.{OptionsLeft}
use Rattle.diagram_mscgen.proofs.grammar.whole.options_at.Given as goal

abbrev pub invariant-options : goal.invariant-options
invariant-options l = OptionsLeft (map seen l.left.tokens.now) (map seen l.fn.tokens)

abbrev pub decreases-options : goal.decreases-options
decreases-options l = length l.left.tokens.now
