-- What one message more does to a chart: statements that the functions of `laws` prove (this project's profile).
use Rattle.std.specs.Prelude.{ℕ, ◌+◌, ◌<◌, ◌≤◌, ◌↔◌, true, false, List, length}
use Rattle.chart.specs.Charts.{Chart, Place, LineView, BelongsTo, IsPossible}
use Rattle.chart.specs.Order.{Before, IsCyclic}
use Rattle.closure.specs.Faults.{IsFaulty}
use Rattle.repair.specs.Messages.{NewMessage, IsWith, new_send, new_receive, moved, IsRace, EndsBehind, CanInform, informing, NoMessage}
use Rattle.repair.specs.Counted.{CountedView}
use Rattle.repair.specs.declared.best.Addition.{Addition}
use Rattle.repair.specs.declared.pairs.RacePair.{RacePair}
use Rattle.repair.specs.Repairs.{ArePairs, AreAdded, AreTried}

-- Where the new message's receive is of its send:

-- each old receive keeps its send
abbrev pub KeptLaw : Type 0
KeptLaw = (m : NewMessage) (c d : Chart) → IsWith m c d → BelongsTo d (new_send m) (new_receive m) → (s r : Place)
    → BelongsTo c s r ↔ BelongsTo d (moved m c s) (moved m c r)

-- what was enforced still is
abbrev pub OrderLaw : Type 0
OrderLaw = (m : NewMessage) (c d : Chart) → IsWith m c d → BelongsTo d (new_send m) (new_receive m) → (e f : Place)
    → Before c e f → Before d (moved m c e) (moved m c f)

-- and no two old events become a race
abbrev pub NoNewRaceLaw : Type 0
NoNewRaceLaw = (m : NewMessage) (c d : Chart) → IsWith m c d → BelongsTo d (new_send m) (new_receive m) → (e r : Place)
    → IsRace d (moved m c e) (moved m c r) → IsRace c e r

-- Of a race of a possible chart, whose receive r has the send s, and whose earlier event's coregion ends behind k events:

-- the message that informs of them leaves no receive without its send, makes no cycle, and makes the pair enforced
abbrev pub InformingLaw : Type 0
InformingLaw = (n : ℕ) (c d : Chart) (e r s : Place) (k : ℕ) (name : List ℕ) → IsPossible n c → IsRace c e r
    → BelongsTo c s r → EndsBehind (c e.instance) e.index k → CanInform c e.instance k s
    → IsWith (informing e.instance k s name) c d
    → ((x : Place) → IsFaulty d x → ⊥) × (IsCyclic d → ⊥)
    × BelongsTo d (new_send (informing e.instance k s name)) (new_receive (informing e.instance k s name))
    × Before d (moved (informing e.instance k s name) c e) (moved (informing e.instance k s name) c r)

-- where it can't be informed of them no message from e's line to s's makes the pair enforced
abbrev pub NoMessageLaw : Type 0
NoMessageLaw = (n : ℕ) (c : Chart) (e r s : Place) (k : ℕ) → IsPossible n c → IsRace c e r → BelongsTo c s r
    → EndsBehind (c e.instance) e.index k → (CanInform c e.instance k s → ⊥) → NoMessage n c e.instance s.instance e r

-- Of messages that are added one after another, where at most so many pairs are tried:

-- if it didn't stop they are those that are added with no limit
abbrev pub NotStoppedLaw : Type 0
NotStoppedLaw = (counted at_end : CountedView) (limit tried : ℕ) (lines end : List LineView) (additions : List Addition)
    → AreTried counted limit lines additions at_end end tried false → AreAdded counted lines additions at_end end

-- those that are added with no limit need so many tries, and with any limit of at least so many it doesn't stop
abbrev pub FarLimitLaw : Type 0
FarLimitLaw = (counted at_end : CountedView) (lines end : List LineView) (additions : List Addition)
    → AreAdded counted lines additions at_end end
    → (tried : ℕ) × ((limit : ℕ) → tried ≤ limit → AreTried counted limit lines additions at_end end tried false)

-- no more are tried than so many, and if it stopped the chart has more race pairs than are left of them
abbrev pub StoppedLaw : Type 0
StoppedLaw = (counted at_end : CountedView) (limit tried : ℕ) (lines end : List LineView) (additions : List Addition)
    → AreTried counted limit lines additions at_end end tried true
    → (tried ≤ limit) × ((pairs : List RacePair) × ArePairs at_end end pairs × (limit < tried + length pairs))
