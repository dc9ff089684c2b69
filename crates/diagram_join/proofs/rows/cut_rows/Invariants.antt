use Rattle.std.proofs.Common.{◌≡◌, ◌++◌, drop}
use Rattle.diagram_join.specs.Coregions.{cut_from}
use Rattle.diagram_join.proofs.rows.cut_rows.Given as goal

abbrev pub invariant-loop-place : goal.invariant-loop-place
invariant-loop-place l = l.rows.items ++ cut_from l.messages l.place (drop l.place l.messages) ≡ cut_from l.messages 0 l.messages
