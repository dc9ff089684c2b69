use Rattle.std.proofs.Common.{map}
use Rattle.diagram_mscgen.specs.Grammar.Tokens.{seen}
use Rattle.diagram_mscgen.proofs.GrammarLemmas.ItemLoops.{first_option}
use Rattle.diagram_mscgen.proofs.grammar.whole.options_at.Goals as goal

pub options-init : goal.options-init
options-init c = first_option (map seen c.args.tokens.now)
