use Rattle.reordering.proofs.CompletionLemmas.OrderLemmas.{part}
use Rattle.reordering.proofs.completion.laws.part_law.Goals as goal

pub returns : goal.returns
returns c = λ chart e f before. part before
