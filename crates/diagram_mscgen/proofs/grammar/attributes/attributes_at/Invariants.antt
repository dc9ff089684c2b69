use Rattle.std.proofs.Common.{◌≤◌, length, map}
use Rattle.diagram_mscgen.specs.Grammar.Attributes.{attributes_view}
use Rattle.diagram_mscgen.specs.Grammar.Tokens.{seen}
use Rattle.diagram_mscgen.proofs.GrammarLemmas.ItemLoops.{AttributesLeft}
use Rattle.diagram_mscgen.proofs.grammar.attributes.attributes_at.Given as goal

abbrev pub invariant-attributes : goal.invariant-attributes
invariant-attributes l = record {
  same : AttributesLeft (attributes_view l.so_far) (map seen l.left.tokens.now) (map seen l.fn.tokens);
  within : length l.left.tokens.now ≤ length l.fn.tokens;
}

abbrev pub decreases-attributes : goal.decreases-attributes
decreases-attributes l = length l.left.tokens.now
