use Rattle.reordering.proofs.CompletionLemmas.LeftRaces.{others}
use Rattle.reordering.proofs.completion.laws.others_law.Goals as goal

pub returns : goal.returns
returns c = others
