use Rattle.std.proofs.Common.{◌≡◌, ℕ, ◌<◌, length, Some}
use Rattle.std.specs.Prelude.{slice_get}
use Rattle.closure.specs.Faults.{place_of, IsSooner}
use Rattle.closure.specs.declared.chain.link.Link.{Link}
use Rattle.closure.proofs.cycle.shortest.least_at.Given as goal

-- none of the first ones is sooner
abbrev pub invariant-loop-place : goal.invariant-loop-place
invariant-loop-place l = (l.least < length l.links)
    × ((k : ℕ) (first link : Link) → k < l.place → slice_get l.links l.least ≡ Some first → slice_get l.links k ≡ Some link → IsSooner (place_of link.earlier) (place_of first.earlier) → ⊥)
