use Rattle.race_verdicts.proofs.LuckLemmas.JudgeLemmas.{one_verdict}
use Rattle.race_verdicts.proofs.luck.judge.one_verdict_law.Goals as goal

pub returns : goal.returns
returns c = one_verdict
