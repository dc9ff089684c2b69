-- The name with given bytes.
use Rattle.std.proofs.Common.{◌≡◌, ℕ, List, Ok, subst, arith}
use Rattle.chart.specs.Names.{IsName, name_of}

-- bytes that make a name are this name
pub named_same : (w v : List ℕ) → name_of w ≡ Ok v → v ≡ w
unfolding name_of
named_same w v e = grind arith

pub is_name : (w v : List ℕ) → name_of w ≡ Ok v → IsName w
is_name w v e = subst (λ (x : List ℕ). name_of w ≡ Ok x) (named_same w v e) e
