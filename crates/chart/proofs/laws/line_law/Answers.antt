use Rattle.chart.proofs.Steps.{line_of_other, line_after_close}
use Rattle.chart.proofs.Sends.{line_after_send, line_after_receive}
use Rattle.chart.proofs.laws.line_law.Goals as goal

pub returns-clause-other_lines : goal.returns-clause-other_lines
returns-clause-other_lines c = line_of_other

pub returns-clause-close : goal.returns-clause-close
returns-clause-close c = line_after_close

pub returns-clause-send : goal.returns-clause-send
returns-clause-send c = line_after_send

pub returns-clause-receive : goal.returns-clause-receive
returns-clause-receive c = line_after_receive
