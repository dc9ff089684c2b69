use Rattle.std.proofs.Common.{map, arith}
use Rattle.diagram_mscgen.specs.Grammar.Tokens.{seen}
use Rattle.diagram_mscgen.proofs.GrammarLemmas.ItemLoops.{first_attribute}
use Rattle.diagram_mscgen.proofs.grammar.attributes.attributes_at.Goals as goal

pub attributes-init : goal.attributes-init
attributes-init c = record { same = first_attribute (map seen c.args.tokens.now); within = omega arith }
