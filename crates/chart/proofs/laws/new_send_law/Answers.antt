use Rattle.chart.proofs.Lanes.{newest_is_send}
use Rattle.chart.proofs.Steps.{new_send_knows_own, new_send_knows_other, new_send_hears}
use Rattle.chart.proofs.laws.new_send_law.Goals as goal

pub returns-clause-send : goal.returns-clause-send
returns-clause-send c = newest_is_send

pub returns-clause-own : goal.returns-clause-own
returns-clause-own c = new_send_knows_own

pub returns-clause-other_lines : goal.returns-clause-other_lines
returns-clause-other_lines c = new_send_knows_other

pub returns-clause-hearing : goal.returns-clause-hearing
returns-clause-hearing c = new_send_hears
