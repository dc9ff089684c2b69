use Rattle.reordering.proofs.OtherRunsLemmas.Witnesses.{witness}
use Rattle.reordering.proofs.other_runs.laws.witness_law.Goals as goal

pub returns : goal.returns
returns c = witness
