-- What a send knows of each line: the entries of its vector time (Fidge 1988, Mattern 1989).
use Rattle.std.specs.Prelude.{◌≡◌, ℕ, suc, ◌≤◌, ◌⊎◌, length}
use Rattle.chart.specs.Charts.{Chart, Place, at, BelongsTo}
use Rattle.chart.specs.Order.{Before}

-- e is the send s, or before it
abbrev pub IsUpTo : Chart → Place → Place → Type 0
IsUpTo c s e = (e ≡ s) ⊎ Before c e s

-- the fact holds of k of the numbers from 1 to n
pub data IsCount (P : ℕ → Type 0) : ℕ → ℕ → Type 0 where
  none : IsCount P 0 0
  counted : {n k : ℕ} → P (suc n) → IsCount P n k → IsCount P (suc n) (suc k)
  passed : {n k : ℕ} → (P (suc n) → ⊥) → IsCount P n k → IsCount P (suc n) k

-- k events of p's line are the send s or before it
abbrev pub IsKnown : Chart → Place → ℕ → ℕ → Type 0
IsKnown c s p k = IsCount (λ j. IsUpTo c s (at p j)) (length (c p)) k

-- k is the greatest number of events of q's line that a send knows whose receive is among the first n events of p's
-- line; it is 0 if there are no such receives
pub record IsGreatestHeard (c : Chart) (p n q k : ℕ) : Type 0 where
  pub each : (l : ℕ) (s : Place) → l ≤ n → BelongsTo c s (at p l) → (m : ℕ) × IsKnown c s q m × (m ≤ k)
  pub attained : (k ≡ 0) ⊎ ((l : ℕ) × (s : Place) × (l ≤ n) × BelongsTo c s (at p l) × IsKnown c s q k)
