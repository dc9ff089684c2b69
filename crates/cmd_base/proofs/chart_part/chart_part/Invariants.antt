use Rattle.std.proofs.Common.{ℕ, ◌≤◌, List, length}
use Rattle.cmd_base.proofs.PartLemmas.{HasPassed}
use Rattle.cmd_base.proofs.chart_part.chart_part.Given as goal

-- the lines that were passed end no chart
abbrev pub invariant-loop-line : goal.invariant-loop-line
invariant-loop-line l = (length l.rest ≤ length l.bytes) × ((lines : List (List ℕ)) × HasPassed l.bytes l.rest lines)

abbrev pub decreases-loop-line : goal.decreases-loop-line
decreases-loop-line l = length l.rest
