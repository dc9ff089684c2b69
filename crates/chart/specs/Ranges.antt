-- Lists of events that are kept as ranges of neighbours (this project's own).
use Rattle.std.specs.Prelude.{◌≡◌, ℕ, zero, suc, ◌+◌, ◌^◌, ◌<◌, ◌≤◌, Bool, true, false, ◌&&◌, ◌==◌, List, [], ◌∷◌, All}
use Rattle.std.specs.List.{flat_map}
use Rattle.chart.specs.declared.instance.EventNo.{EventNo}
use Rattle.chart.specs.declared.ranges.EventRange.{EventRange}

-- n neighbouring events of p's line, from the one at i on
abbrev pub events_from : ℕ → ℕ → ℕ → List EventNo
events_from p i zero = []
events_from p i (suc n) = record { instance = p; index = i } ∷ events_from p (i + 1) n

-- the events of a range
abbrev pub events_of : EventRange → List EventNo
events_of r = events_from r.first.instance r.first.index r.count

-- the events of some ranges, one range after another
abbrev pub events_in : List EventRange → List EventNo
events_in ranges = flat_map events_of ranges

-- a range has an event, and the numbers of its events are within 32 bits
pub record IsRange (r : EventRange) : Type 0 where
  pub some : 0 < r.count
  pub within : r.first.index + r.count ≤ 2 ^ 32

-- this number is less than that of the first range's events, or 0 if there is no range
abbrev pub IsWithinFirst : ℕ → List EventRange → Type 0
IsWithinFirst passed [] = passed ≡ 0
IsWithinFirst passed (r ∷ ranges) = passed < r.count

-- s begins where r ends
abbrev pub is_followed_by : EventRange → EventRange → Bool
is_followed_by r s = (r.first.instance == s.first.instance) && (r.first.index + r.count == s.first.index)

-- two ranges before others: as one range, or one after the other
abbrev pub both_before : Bool → EventRange → EventRange → List EventRange → List EventRange
both_before true r s ranges = record { first = r.first; count = r.count + s.count } ∷ ranges
both_before false r s ranges = r ∷ s ∷ ranges

-- a range before others, joined with the first of them if that one begins where the range ends
abbrev pub range_before : EventRange → List EventRange → List EventRange
range_before r [] = r ∷ []
range_before r (s ∷ ranges) = both_before (is_followed_by r s) r s ranges

-- the fewest ranges that have these events
abbrev pub ranges_of : List EventNo → List EventRange
ranges_of [] = []
ranges_of (e ∷ events) = range_before (record { first = e; count = 1 }) (ranges_of events)

-- what holds of a list of ranges: they are the fewest that have their events
pub record AreRanges (ranges : List EventRange) : Type 0 where
  pub each : All IsRange ranges
  pub fewest : ranges_of (events_in ranges) ≡ ranges
