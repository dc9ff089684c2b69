use Rattle.std.proofs.Common.{◌≡◌, ◌++◌, drop}
use Rattle.diagram_export.specs.Preparing.{starts_from}
use Rattle.diagram_export.proofs.preparing.starts_of.Given as goal

-- the numbers so far and those of the rows to come are all of them
abbrev pub invariant-loop-note : goal.invariant-loop-note
invariant-loop-note l = l.starts.items ++ starts_from l.above (drop l.note-index l.notes) ≡ starts_from 0 l.notes
