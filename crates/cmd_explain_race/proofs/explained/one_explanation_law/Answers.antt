use Rattle.cmd_explain_race.proofs.RaceLemmas.{one_explanation}
use Rattle.cmd_explain_race.proofs.explained.one_explanation_law.Goals as goal

pub returns : goal.returns
returns c = one_explanation
