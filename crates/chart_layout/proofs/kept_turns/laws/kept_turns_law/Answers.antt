use Rattle.chart_layout.proofs.KeptTurnsLemmas.KeptLemmas.{kept_turns}
use Rattle.chart_layout.proofs.kept_turns.laws.kept_turns_law.Goals as goal

pub returns : goal.returns
returns c = kept_turns
