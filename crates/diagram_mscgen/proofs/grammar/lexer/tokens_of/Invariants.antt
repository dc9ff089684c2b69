use Rattle.std.proofs.Common.{length, map}
use Rattle.diagram_mscgen.specs.Grammar.Tokens.{seen}
use Rattle.diagram_mscgen.proofs.GrammarLemmas.TokenLoops.{AreTokens}
use Rattle.diagram_mscgen.proofs.grammar.lexer.tokens_of.Given as goal

abbrev pub invariant-pieces : goal.invariant-pieces
invariant-pieces l = AreTokens l.text (map seen l.tokens.items) l.place l.rest

abbrev pub decreases-pieces : goal.decreases-pieces
decreases-pieces l = length l.rest
