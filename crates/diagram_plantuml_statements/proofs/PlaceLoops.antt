-- Places that are counted.
use Rattle.std.proofs.Common.{◌≡◌, ℕ, suc, ◌+◌, Bool, true, false, Option, None, Some, option_map, refl, ap, arith, if◌then◌else◌}
use Rattle.texts.specs.Words.{or_else}

-- a later place, which is this number of bytes further on, or otherwise the last one so far
abbrev pub last_of : ℕ → Option ℕ → Option ℕ → Option ℕ
last_of n last later = or_else (option_map (λ k. n + k) later) last

pub later : (n : ℕ) (last : Option ℕ) (t : Bool) (later : Option ℕ) → last_of n last (or_else (option_map suc later) (if t then Some 0 else None)) ≡ last_of (n + 1) (if t then Some n else last) later
later n last true None = ap Some (omega arith)
later n last false None = refl
later n last true (Some k) = ap Some (omega arith)
later n last false (Some k) = ap Some (omega arith)
