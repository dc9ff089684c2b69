-- The lines of a chart.
use Rattle.std.specs.Prelude.{ℕ, zero, suc, List, [], ◌∷◌}
use Rattle.chart.specs.Charts.{LineView}
use Rattle.diagrams.specs.Messages.Regions.{line_of}
use Rattle.diagrams.specs.declared.messages.end.End.{End}

-- the lines of n instances, the first of which is p
unfoldable pub lines_from : List End → ℕ → ℕ → List LineView
lines_from ends p zero = []
lines_from ends p (suc n) = line_of p ends ∷ lines_from ends (suc p) n
