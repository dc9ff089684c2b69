use Rattle.std.proofs.Common.{◌≡◌, drop}
use Rattle.diagram_export.specs.Preparing.{notes_from, notes_of}
use Rattle.diagram_export.proofs.preparing.notes_of.Given as goal

-- the notes so far and those of the reports to come are all of them
abbrev pub invariant-loop-place : goal.invariant-loop-place
invariant-loop-place l = notes_from l.layout l.place l.notes.items (drop l.place l.reports) ≡ notes_of l.layout l.reports
