use Rattle.std.proofs.Common.{ap, ◌∙◌}
use Rattle.texts.specs.Lines.{words_of}
use Rattle.schedule.proofs.KnownLines.{behind_receive}
use Rattle.schedule.proofs.known_line.receive_word.Goals as goal

pub returns : goal.returns
returns c = ap words_of c.in_ok-from.ensures ∙ behind_receive c.in_ok-from.from.now
