use Rattle.std.proofs.Common.{◌∙◌}
use Rattle.diagram_mscgen.specs.Grammar.Words.{is_one_of}
use Rattle.texts.specs.Bytes.Words.{is_spelled}
use Rattle.diagram_mscgen.proofs.GrammarLemmas.WordLists.{any_listed}
use Rattle.diagram_mscgen.proofs.grammar.words.is_one_of.Goals as goal

pub returns : goal.returns
unfolding is_one_of
returns c = c.has_word.ensures ∙ any_listed (λ known. is_spelled known c.args.word.now) c.args.words.now
