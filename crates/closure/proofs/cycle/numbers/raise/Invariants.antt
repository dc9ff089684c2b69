use Rattle.std.proofs.Common.{◌≡◌, ℕ, ◌<◌, ◌≤◌, max, length}
use Rattle.std.specs.Prelude.{slice_index}
use Rattle.closure.proofs.cycle.numbers.raise.Given as goal

-- the first numbers are raised, and the others as they were
abbrev pub invariant-loop-place : goal.invariant-loop-place
invariant-loop-place l = (length l.numbers ≡ length l.initial.numbers)
    × ((k : ℕ) → k < l.place → slice_index l.numbers k ≡ max (slice_index l.initial.numbers k) (slice_index l.by k))
    × ((k : ℕ) → l.place ≤ k → slice_index l.numbers k ≡ slice_index l.initial.numbers k)
