-- Ranges whose events are passed over from the first one on (this project's own).
use Rattle.std.specs.Prelude.{◌≡◌, ℕ, ◌+◌, ◌^◌, ◌<◌, ◌≤◌, List, ◌++◌, All}
use Rattle.chart.specs.declared.instance.EventNo.{EventNo}
use Rattle.chart.specs.declared.ranges.EventRange.{EventRange}
use Rattle.chart.specs.Ranges.{IsRange, events_of, events_in}
use Rattle.races_text.specs.declared.named.stretches.Left.{Left}

-- the numbers of the range's events have at most 32 bits, if it has some
abbrev pub IsShort : EventRange → Type 0
IsShort r = r.first.index + r.count ≤ 2 ^ 32

-- the range's event with this number, from 0
abbrev pub event_in : EventRange → ℕ → EventNo
event_in r k = record { instance = r.first.instance; index = r.first.index + k }

-- the rest of a range after this number of its first events
pub record IsBehind (r : EventRange) (n : ℕ) (rest : EventRange) : Type 0 where
  pub whole : n + rest.count ≡ r.count
  pub begins : 0 < rest.count → rest.first ≡ event_in r n
  pub short : IsShort rest

-- the events of the range that has begun, and those of the ranges after it
abbrev pub events_left : Left → List EventNo
events_left left = events_of left.rest ++ events_in left.ranges.now

abbrev pub AreShort : Left → Type 0
AreShort left = IsShort left.rest × All IsRange left.ranges.now
