use Rattle.std.proofs.Common.{suc, ◌-◌, ◌<◌, ◌≤◌, length}
use Rattle.chart.specs.Charts.{chart_lines}
use Rattle.race_verdicts.specs.Luck.Invention.{IsKnownBy}
use Rattle.race_verdicts.proofs.luck.invented.first_known.Given as goal

abbrev pub invariant-events : goal.invariant-events
invariant-events l = record {
  order : l.low < l.high;
  within : l.high ≤ length (chart_lines l.closure (suc l.place));
  none : IsKnownBy (chart_lines l.closure) l.invented (suc l.place) l.low → ⊥;
  known : IsKnownBy (chart_lines l.closure) l.invented (suc l.place) l.high;
}

abbrev pub decreases-events : goal.decreases-events
decreases-events l = l.high - l.low
