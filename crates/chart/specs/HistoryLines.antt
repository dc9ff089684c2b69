-- The lines of a history's instances (this project's profile).
use Rattle.std.specs.Prelude.{ℕ, List, map}
use Rattle.std.specs.List.{range_with_len}
use Rattle.chart.specs.declared.history.Occurrence.{Occurrence}
use Rattle.chart.specs.Histories.{chart_of}
use Rattle.chart.specs.Charts.{LineView}

-- p's line in the chart of a history
abbrev pub history_line : List Occurrence → ℕ → LineView
history_line h p = record { instance = p; events = chart_of h p }

-- the lines of n instances in the chart of a history
abbrev pub history_lines : ℕ → List Occurrence → List LineView
history_lines n h = map (λ p. history_line h p) (range_with_len 1 n)
