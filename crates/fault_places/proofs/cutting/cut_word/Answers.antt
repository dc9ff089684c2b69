use Rattle.std.proofs.Common.{sym}
use Rattle.std.proofs.lemmas.List.{take_rest}
use Rattle.fault_places.proofs.cutting.cut_word.Goals as goal
use Rattle.texts.proofs.Parts.{parts_at, parts_whole}
use Rattle.texts.specs.Lines.{words_of}

pub returns-in-None-clause-words : goal.returns-in-None-clause-words
unfolding words_of
returns-in-None-clause-words c = parts_whole 32 c.args.line.now (sym c.in-None.ensures.value)

pub returns-in-Some-clause-words : goal.returns-in-Some-clause-words
unfolding words_of
returns-in-Some-clause-words c = rw take_rest (parts_at 32 c.args.line.now c.in-Some.place (sym c.in-Some.ensures.value))
