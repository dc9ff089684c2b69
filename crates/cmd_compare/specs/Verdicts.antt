-- The verdict on two events of a line in a recording, an earlier and a later one (over the order of Alur, Holzmann and
-- Peled 1996, in this project's profile).
use Rattle.std.specs.Prelude.{◌≡◌, ℕ, ◌≤◌, ◌↔◌, ◌⊎◌, Bool, true, false, nat_le, List, Option, Some}
use Rattle.chart.specs.declared.event.Event.{Event}
use Rattle.chart.specs.declared.event.Event.TheVariants.{Send, Receive}
use Rattle.chart.specs.Events.{is_receive_from, is_in, ith}
use Rattle.chart.specs.Charts.{Chart, Place, at, chart_event, IsReceiveFrom}
use Rattle.chart.specs.Order.{IsEarlier, Before, region_of_event}
use Rattle.cmd_compare.specs.declared.verdict.Verdict.{Verdict}
use Rattle.cmd_compare.specs.declared.verdict.Verdict.TheVariants.{Enforced, Race, Unclaimed}

-- whether the events at e and at f are in one coregion
abbrev pub AreInOneRegion : Chart → Place → Place → Bool → Type 0
AreInOneRegion c e f are = (m : Event) × (chart_event c e ≡ Some m)
    × (is_in (region_of_event (chart_event c f)) m ≡ are)

-- the verdict on the events at e and at f, of which e is the earlier
abbrev pub IsVerdict : Chart → Place → Place → Verdict → Type 0
IsVerdict c e f Enforced = Before c e f
IsVerdict c e f Race = (Before c e f → ⊥) × AreInOneRegion c e f false
IsVerdict c e f Unclaimed = (Before c e f → ⊥) × AreInOneRegion c e f true

-- both are receives from one instance
abbrev pub AreFromOne : Chart → Place → Place → Type 0
AreFromOne c e f = (q : ℕ) × IsReceiveFrom c q e × IsReceiveFrom c q f

-- e is outside of the coregion of f
abbrev pub IsOutside : Chart → Place → Place → Type 0
IsOutside c e f = AreInOneRegion c e f false

-- k is the front of f: of the earlier events of its line outside its coregion, exactly these come before f: the first
-- k, and those that are receives from the sender of the receive at f
abbrev pub IsFront : Chart → Place → ℕ → Type 0
IsFront c f k = (e : Place) → IsEarlier e f → IsOutside c e f → Before c e f ↔ ((e.index ≤ k) ⊎ AreFromOne c e f)

-- the same for the receives of p's line
abbrev pub AreFronts : Chart → ℕ → List ℕ → Type 0
AreFronts c p fronts = (q i : ℕ) → IsReceiveFrom c q (at p i)
    → (k : ℕ) × (ith fronts i ≡ Some k) × IsFront c (at p i) k

-- the verdict on an event and a later receive: whether both are from one instance, whether one coregion has both, and
-- whether the event is within the receive's front
abbrev pub verdict_by : Bool → Bool → Bool → Verdict
verdict_by true hidden first = Enforced
verdict_by false true first = Unclaimed
verdict_by false false true = Enforced
verdict_by false false false = Race

-- the verdict on two events, of which the earlier is the i-th; k is the front of the later one if that is a receive
abbrev pub verdict_of : Option Event → Option Event → Option ℕ → ℕ → Verdict
verdict_of (Some e) (Some (Send to name)) k i = Enforced
verdict_of (Some e) (Some (Receive from name region)) (Some k) i =
    verdict_by (is_receive_from from e) (is_in region e) (nat_le i k)
verdict_of e f k i = Race

-- the same for the i-th and the j-th event of a line
abbrev pub verdict_at : List Event → List ℕ → ℕ → ℕ → Verdict
verdict_at events fronts i j = verdict_of (ith events i) (ith events j) (ith fronts j) i
