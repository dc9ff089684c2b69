use Rattle.std.proofs.Common.{◌≡◌, map}
use Rattle.std.specs.List.{join_with_byte}
use Rattle.diagram_labels.proofs.Joins.{filled}
use Rattle.diagram_labels.proofs.spelling.joined.Given as goal

abbrev pub invariant-loop-word : goal.invariant-loop-word
invariant-loop-word l = l.joined.items ≡ join_with_byte 95 (filled (map (λ w. w.now) l.yielded))
