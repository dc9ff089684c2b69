-- What holds of other runs with a chart's events and causes: statements that `laws` proves (this project's profile,
-- over the definitions that they cite).
use Rattle.std.specs.Prelude.{◌≢◌, ℕ, ◌↔◌, List, All}
use Rattle.chart.specs.Words.{Indices}
use Rattle.chart.specs.declared.history.Occurrence.{Occurrence}
use Rattle.chart.specs.Histories.{Begins}
use Rattle.chart.specs.Charts.{Chart, Place, at, IsReceiveFrom, IsPossible}
use Rattle.chart.specs.Places.{IsEvent}
use Rattle.chart.specs.Order.{Before, IsReport}
use Rattle.reordering.specs.OtherRuns.OtherRuns.{HasCome, IsRunOf, IsOvertaken, ComesFirst, CanBeOvertaken, AreOvertaken, BeforeWithin, IsRunWithin, ComesFirstWithin, IsPossibleWithin, CanBeOvertakenWithin}

-- in each run the events that are enforced before r have come when r has
abbrev pub OrderLaw : Type 0
OrderLaw = (n : ℕ) (c : Chart) (g : List Occurrence) → IsRunOf n c g → (e r : Place) → Before c e r
    → (h : List Occurrence) → Begins h g → HasCome c h r → HasCome c h e

-- in some run the receive r comes first
abbrev pub WitnessLaw : Type 0
WitnessLaw = (n : ℕ) (c : Chart) → IsPossible n c → (q : ℕ) (r : Place) → IsReceiveFrom c q r
    → (g : List Occurrence) × IsRunOf n c g × ComesFirst c g r

-- an event isn't before the receive r exactly if r can overtake it
abbrev pub TurningLaw : Type 0
TurningLaw = (n : ℕ) (c : Chart) → IsPossible n c → (q : ℕ) (r : Place) → IsReceiveFrom c q r
    → (e : Place) → IsEvent c e → e ≢ r → (Before c e r → ⊥) ↔ CanBeOvertaken n c e r

-- a report lists the earlier events of the line, outside of the coregion, that r can overtake
abbrev pub ReportLaw : Type 0
ReportLaw = (n : ℕ) (c : Chart) → IsPossible n c → (q : ℕ) (r : Place) → IsReceiveFrom c q r
    → (report : Indices) → IsReport c r report ↔ AreOvertaken n c r report

-- one run has r before all events that its report lists
abbrev pub OneRunLaw : Type 0
OneRunLaw = (n : ℕ) (c : Chart) → IsPossible n c → (q : ℕ) (r : Place) → IsReceiveFrom c q r
    → (report : Indices) → IsReport c r report
    → (g : List Occurrence) × IsRunOf n c g × All (λ j. IsOvertaken c g (at r.instance j) r) report

-- Lanes with k slots.

-- in each run the events that are enforced before r have come when r has
abbrev pub SlotsOrderLaw : Type 0
SlotsOrderLaw = (n k : ℕ) (c : Chart) (g : List Occurrence) → IsRunWithin n k c g → (e r : Place) → BeforeWithin k c e r
    → (h : List Occurrence) → Begins h g → HasCome c h r → HasCome c h e

-- in some run the receive r comes first
abbrev pub SlotsWitnessLaw : Type 0
SlotsWitnessLaw = (n k : ℕ) (c : Chart) → IsPossibleWithin n k c → (q : ℕ) (r : Place) → IsReceiveFrom c q r
    → (g : List Occurrence) × IsRunWithin n k c g × ComesFirstWithin k c g r

-- an event isn't before r exactly if r can overtake it
abbrev pub SlotsTurningLaw : Type 0
SlotsTurningLaw = (n k : ℕ) (c : Chart) → IsPossibleWithin n k c → (q : ℕ) (r : Place) → IsReceiveFrom c q r
    → (e : Place) → IsEvent c e → e ≢ r → (BeforeWithin k c e r → ⊥) ↔ CanBeOvertakenWithin n k c e r
