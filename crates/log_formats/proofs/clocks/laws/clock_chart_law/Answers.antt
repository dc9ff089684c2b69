use Rattle.log_formats.proofs.ClocksLemmas.ChartLemmas.{clock_chart_law}
use Rattle.log_formats.proofs.clocks.laws.clock_chart_law.Goals as goal

pub returns : goal.returns
returns c = clock_chart_law
