use Rattle.chart.specs.Charts.{chart_lines}
use Rattle.cmd_compare.specs.Comparing.{AreCompared}
use Rattle.cmd_compare.proofs.comparison.compared.Given as goal

abbrev pub invariant-loop-place : goal.invariant-loop-place
invariant-loop-place l = AreCompared l.recordings.others.now l.recordings.back.now (chart_lines l.recordings.here.now) (chart_lines l.recordings.there.now) l.place l.lines.items
