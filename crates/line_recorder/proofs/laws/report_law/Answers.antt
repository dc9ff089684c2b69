use Rattle.line_recorder.proofs.Charted.{report_of_receive}
use Rattle.line_recorder.proofs.laws.report_law.Goals as goal

pub returns : goal.returns
returns c = report_of_receive
