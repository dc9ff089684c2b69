use Rattle.chart.proofs.Knowledge.{known_own, known_other}
use Rattle.chart.proofs.laws.knowledge_law.Goals as goal

pub returns-clause-own : goal.returns-clause-own
returns-clause-own c = known_own

pub returns-clause-other_lines : goal.returns-clause-other_lines
returns-clause-other_lines c = known_other
