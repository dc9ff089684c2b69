use Rattle.std.proofs.Common.{◌≡◌, ◌-◌}
use Rattle.diagram_import.specs.Shown.{without_lines}
use Rattle.diagram_import.proofs.places.without_lines.Given as goal

abbrev pub invariant-loop-line : goal.invariant-loop-line
invariant-loop-line l = without_lines (l.count - l.line) l.rest ≡ without_lines l.count l.text
