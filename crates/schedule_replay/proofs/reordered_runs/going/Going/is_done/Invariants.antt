use Rattle.std.proofs.Common.{ℕ, suc, ◌<◌, ◌≤◌, length, slice_index}
use Rattle.chart.specs.Charts.{chart_lines}
use Rattle.schedule_replay.proofs.reordered_runs.going.Going.is_done.Given as goal

abbrev pub invariant-loop-line : goal.invariant-loop-line
invariant-loop-line l = (p : ℕ) → p < l.line → length (chart_lines l.lines (suc p)) ≤ slice_index l.self.made p
