-- The other end of each event's message, in a table by instance and number (this project's own).
use Rattle.std.specs.Prelude.{◌≡◌, ◌⊎◌, ℕ, zero, suc, ◌<◌, ◌≤◌, List, [], length, slice_set, slice_index_or, Option, None, Some}
use Rattle.chart.specs.declared.instance.EventNo.{EventNo}
use Rattle.chart.specs.Charts.{Chart, Place, LineView, BelongsTo, chart_lines}
use Rattle.closure.specs.Faults.{place_of}

-- the table's ends for an instance's events
abbrev pub ends_on : List (List (Option EventNo)) → ℕ → List (Option EventNo)
ends_on ends zero = []
ends_on ends (suc p) = slice_index_or ends p []

-- a list's end for the event of this number
abbrev pub end_in : List (Option EventNo) → ℕ → Option EventNo
end_in ends zero = None
end_in ends (suc i) = slice_index_or ends i None

-- the table's end for an event
abbrev pub end_of : List (List (Option EventNo)) → EventNo → Option EventNo
end_of ends e = end_in (ends_on ends e.instance) e.index

-- the other end of the message of the event at e: its send, or its receive. It has none if it is a send whose message
-- waits, or no event of the chart
abbrev pub IsEnd : Chart → Place → Option EventNo → Type 0
IsEnd c e None = ((x : Place) → BelongsTo c x e → ⊥) × ((x : Place) → BelongsTo c e x → ⊥)
IsEnd c e (Some x) = BelongsTo c (place_of x) e ⊎ BelongsTo c e (place_of x)

-- the table has the other end of each event's message
abbrev pub AreEnds : Chart → List (List (Option EventNo)) → Type 0
AreEnds c ends = (e : EventNo) → IsEnd c (place_of e) (end_of ends e)

-- the receive was passed: it is on one of the first p lines, or among the first k events of the next one
abbrev pub IsPassed : ℕ → ℕ → Place → Type 0
IsPassed p k r = (r.instance ≤ p) ⊎ ((r.instance ≡ suc p) × (r.index ≤ k))

-- the table has the ends of the messages whose receives were passed, and no wrong ends
pub record IsPart (lines : List LineView) (ends : List (List (Option EventNo))) (p k : ℕ) : Type 0 where
  pub many : length ends ≡ length lines
  pub shape : (q : ℕ) → length (ends_on ends q) ≡ length (chart_lines lines q)
  pub sound : (e x : EventNo) → end_of ends e ≡ Some x → IsEnd (chart_lines lines) (place_of e) (Some x)
  pub whole : (s r : EventNo) → BelongsTo (chart_lines lines) (place_of s) (place_of r) → IsPassed p k (place_of r)
      → (end_of ends s ≡ Some r) × (end_of ends r ≡ Some s)

-- the table has a slot for the event
pub record HasSlot (ends : List (List (Option EventNo))) (e : EventNo) : Type 0 where
  pub place : ℕ
  pub number : ℕ
  pub instance : e.instance ≡ suc place
  pub index : e.index ≡ suc number
  pub within : place < length ends
  pub inside : number < length (slice_index_or ends place [])

-- the event's slot has this end now
pub record IsSet (e x : EventNo) (old new : List (List (Option EventNo))) : Type 0 where
  pub slot : HasSlot old e
  pub set : new ≡ slice_set old slot.place (slice_set (slice_index_or old slot.place []) slot.number (Some x))
