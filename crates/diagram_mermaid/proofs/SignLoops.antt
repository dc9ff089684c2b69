-- Signs that are searched byte by byte.
use Rattle.std.proofs.Common.{◌≡◌, ℕ, ◌+◌, Option, None, Some, option_map, refl, ap, arith}
use Rattle.diagram_mermaid.specs.Signs.{moved}
use Rattle.diagram_mermaid.specs.declared.sign.Sign.{Sign}

-- a sign that is one byte further on
pub moved_on : (n : ℕ) (sign : Option Sign) → option_map (moved n) (option_map (moved 1) sign) ≡ option_map (moved (n + 1)) sign
moved_on n None = refl
moved_on n (Some s) =
    let e : n + (1 + s.before) ≡ n + 1 + s.before = omega arith in
    ap (λ (k : ℕ). let t : Sign = record { before = k; length = s.length; direction = s.direction } in Some t) e
