use Rattle.std.proofs.Common.{◌≡◌, ℕ, ◌+◌, ◌*◌, ◌<◌, length}
use Rattle.std.specs.Prelude.{slice_get, Some}
use Rattle.chart.specs.Charts.{Chart, Place}
use Rattle.closure.specs.Faults.{place_of}
use Rattle.closure.specs.declared.chain.reaching.Reached.{Reached}
use Rattle.closure.specs.Chain.Chains.{Lead}
use Rattle.closure.specs.Chain.Reaching.{IsTrail, AreSteps}
use Rattle.closure.proofs.chain.chaining.links_by.Given as goal

-- the links so far lead to the send of this number, and the steps of its way are left
abbrev pub invariant-loop-at : goal.invariant-loop-at
invariant-loop-at l = (l.at < length l.found) × ((c : Chart) (r : Place) (x y : Reached) (k : ℕ) → IsTrail c r l.found → slice_get l.found l.number ≡ Some x → AreSteps x (place_of l.event) k → slice_get l.found l.at ≡ Some y
    → Lead c (place_of l.event) (place_of y.send) l.links.items × (length l.links.items + 2 * y.depth + 1 ≡ k))

abbrev pub decreases-loop-at : goal.decreases-loop-at
decreases-loop-at l = l.at
