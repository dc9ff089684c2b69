-- The law of the scan order.
use Rattle.std.specs.Prelude.{◌≡◌, ◌≢◌, ℕ, ◌+◌, ◌≤◌, ◌↔◌, Contains, length}
use Rattle.chart.specs.Scans.{scan}

-- a scan by p has each of the other instances of n, no others, and each of them once
abbrev pub ScanLaw : Type 0
ScanLaw = (n p l : ℕ) → 1 ≤ p → p ≤ n → l ≤ n → (length (scan n p l) + 1 ≡ n)
    × ((q : ℕ) → Contains (scan n p l) q ↔ ((1 ≤ q) × (q ≤ n) × (q ≢ p)))
