-- The events that a page marks, which must come before a receive.
use Rattle.std.specs.Prelude.{◌≡◌, ℕ, ◌-◌, ◌⊎◌, List, []}
use Rattle.chart.specs.declared.instance.EventNo.{EventNo}
use Rattle.chart.specs.Charts.{Chart, IsReceiveFrom}
use Rattle.closure.specs.Chain.Pasts.{IsPast}
use Rattle.closure.specs.Faults.{place_of}
use Rattle.closure.specs.Rows.{entry}
use Rattle.cmd_base.specs.Pairs.Sayings.{passing, comes_too}

-- For each of n lines the number of first events that must come before a receive, and the other receives of its line
-- that must. The latter are from its sender. If the event is no receive, there are none.
abbrev pub AreMarks : ℕ → Chart → EventNo → List ℕ → List ℕ → Type 0
AreMarks n c r before also =
    ((q : ℕ) × IsReceiveFrom c q (place_of r) × IsPast n c (place_of r) before
    × (also ≡ passing (comes_too (c r.instance) (entry before r.instance) q) (r.index - 1)))
    ⊎ (((q : ℕ) → IsReceiveFrom c q (place_of r) → ⊥) × (before ≡ []) × (also ≡ []))
