-- Labels that are searched byte by byte.
use Rattle.std.proofs.Common.{◌≡◌, ℕ, ◌+◌, List, Option, None, Some, option_map, refl, ap, arith}
use Rattle.diagram_mermaid.specs.Participants.{LabelView, moved}

-- a label that is one byte further on
pub moved_on : (n : ℕ) (label : Option LabelView) → option_map (moved n) (option_map (moved 1) label) ≡ option_map (moved (n + 1)) label
moved_on n None = refl
moved_on n (Some l) =
    let e : n + (1 + l.0) ≡ n + 1 + l.0 = omega arith in
    ap (λ (k : ℕ). let t : LabelView = (k, l.1) in Some t) e
