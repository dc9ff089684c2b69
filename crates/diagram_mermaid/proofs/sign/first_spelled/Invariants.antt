use Rattle.std.proofs.Common.{◌≡◌, map, drop}
use Rattle.diagram_mermaid.specs.Signs.{first_spelled}
use Rattle.diagram_mermaid.proofs.sign.first_spelled.Given as goal

abbrev pub invariant-loop-spelled : goal.invariant-loop-spelled
invariant-loop-spelled l =
    first_spelled (map (λ s. (s.0.now, s.1)) (drop l.spelled-index l.spellings)) l.bytes ≡ first_spelled (map (λ s. (s.0.now, s.1)) l.spellings) l.bytes
