use Rattle.texts.proofs.Parts.{words_cut, words_whole}
use Rattle.texts.proofs.word.next_word.Goals as goal

pub returns-in-None-clause-words : goal.returns-in-None-clause-words
returns-in-None-clause-words c = words_whole c.args.line.now c.in-None.ensures.whole

pub returns-in-Some-clause-words : goal.returns-in-Some-clause-words
returns-in-Some-clause-words c = words_cut _ _ _ c.in-Some.ensures.cut
