use Rattle.std.proofs.Common.{◌≡◌, suc, ◌<◌, length, drop}
use Rattle.chart.specs.Charts.{chart_lines}
use Rattle.chart_layout.specs.Picking.{Comes, actors, last_line}
use Rattle.chart_layout.proofs.BegunLemmas.{IsBegun, left}
use Rattle.chart_layout.proofs.PickLemmas.{OfEach}
use Rattle.chart_layout.proofs.drawing.layout.Given as goal

abbrev pub invariant-loop-row : goal.invariant-loop-row
invariant-loop-row l =
    IsBegun l.closure l.layout × OfEach (λ rows row. Comes (chart_lines l.closure) (length l.closure) rows (drop (length (actors rows)) l.turns) row) l.layout
    × (l.line < length l.closure) × (last_line l.layout ≡ suc l.line) × (l.left ≡ drop (length (actors l.layout)) l.turns)

abbrev pub decreases-loop-row : goal.decreases-loop-row
decreases-loop-row l = left (chart_lines l.closure) (length l.closure) l.layout
