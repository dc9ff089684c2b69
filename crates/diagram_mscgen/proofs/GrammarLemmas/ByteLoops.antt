-- Places of bytes, counted from an earlier byte.
use Rattle.std.proofs.Common.{◌≡◌, ℕ, suc, ◌+◌, arith, Option, None, Some, option_map, refl, ap}

-- a place counted from one byte further on
pub moved_on : (n : ℕ) (place : Option ℕ) → option_map (λ k. n + k) (option_map suc place) ≡ option_map (λ k. n + 1 + k) place
moved_on n None = refl
moved_on n (Some k) = ap Some (omega arith)
