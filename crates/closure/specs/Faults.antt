-- Why a chart is not possible (after Alur, Holzmann and Peled 1996; the order of the faults is this project's profile).
use Rattle.std.specs.Prelude.{◌≡◌, ◌<◌, ◌⊎◌}
use Rattle.chart.specs.declared.instance.EventNo.{EventNo}
use Rattle.chart.specs.Charts.{Chart, Place, at, HasNoSend, HasOtherName}
use Rattle.chart.specs.Order.{IsCyclic}
use Rattle.closure.specs.declared.error.ChartError.{ChartError}
use Rattle.closure.specs.declared.error.ChartError.TheVariants.{ReceiveWithoutSend, NameMismatch, Cyclic, Memory}

-- the place that an event's number names
abbrev pub place_of : EventNo → Place
place_of e = at e.instance e.index

-- d comes sooner than r by instance and index
abbrev pub IsSooner : Place → Place → Type 0
IsSooner d r = (d.instance < r.instance) ⊎ ((d.instance ≡ r.instance) × (d.index < r.index))

-- the receive has no send, or its send has another name
abbrev pub IsFaulty : Chart → Place → Type 0
IsFaulty c r = HasNoSend c r ⊎ HasOtherName c r

-- no sooner receive is faulty
abbrev pub IsFirst : Chart → Place → Type 0
IsFirst c r = (d : Place) → IsSooner d r → IsFaulty c d → ⊥

-- what a refusal states of the chart: it names the first of the faulty receives, and only a chart without any is
-- refused as cyclic
abbrev pub Refuses : Chart → ChartError → Type 0
Refuses c (ReceiveWithoutSend r) = HasNoSend c (place_of r) × IsFirst c (place_of r)
Refuses c (NameMismatch r) = HasOtherName c (place_of r) × IsFirst c (place_of r)
Refuses c Cyclic = IsCyclic c × ((r : Place) → IsFaulty c r → ⊥)
Refuses c Memory = Unit {0}
