-- Charts, and which send a receive belongs to (ITU-T Z.120: a message is its output and its input event; lanes are
-- first in, first out, as Alur, Holzmann and Peled 1996 have them).
use Rattle.std.specs.Prelude.{◌≡◌, ◌≢◌, ℕ, zero, suc, ◌<◌, ◌≤◌, true, List, [], length, slice_index_or, slice_get, Option, Some, count_by, All}
use Rattle.chart.specs.Words.{Instance, Index}
use Rattle.chart.specs.declared.history.Occurrence.{Occurrence}
use Rattle.chart.specs.declared.event.Event.{Event}
use Rattle.chart.specs.declared.line.TheConstants.{MAX_EVENTS}
use Rattle.chart.specs.declared.instance.TheConstants.{MAX_INSTANCES}
use Rattle.chart.specs.Events.{is_send_to, is_receive_from, name_of, partner_of, ith, tally, HasRegionsInOrder}
use Rattle.chart.specs.Histories.{IsLegal, chart_of}

-- each instance's line
abbrev pub Chart : Type 0
Chart = Instance → List Event

-- the place of an event: an instance, and the event's number on its line, from 1
pub record Place : Type 0 where
  pub instance : Instance
  pub index : Index

abbrev pub at : Instance → Index → Place
at p i = record { instance = p; index = i }

-- the event at a place
abbrev pub chart_event : Chart → Place → Option Event
chart_event c e = ith (c e.instance) e.index

-- the event at e is a send to q
abbrev pub IsSendTo : Chart → Instance → Place → Type 0
IsSendTo c q e = (m : Event) × (chart_event c e ≡ Some m) × (is_send_to q m ≡ true)

-- the event at e is a receive from q
abbrev pub IsReceiveFrom : Chart → Instance → Place → Type 0
IsReceiveFrom c q e = (m : Event) × (chart_event c e ≡ Some m) × (is_receive_from q m ≡ true)

-- the receive r belongs to the send s: the n-th receive on a lane belongs to the n-th send
pub record BelongsTo (c : Chart) (s r : Place) : Type 0 where
  pub sent : IsSendTo c r.instance s
  pub received : IsReceiveFrom c s.instance r
  pub turn : tally (is_send_to r.instance) (c s.instance) s.index
      ≡ tally (is_receive_from s.instance) (c r.instance) r.index

-- r is a receive, and its lane has fewer sends than receives up to r
abbrev pub HasNoSend : Chart → Place → Type 0
HasNoSend c r = (q : ℕ) × IsReceiveFrom c q r
    × (count_by (is_send_to r.instance) (c q) < tally (is_receive_from q) (c r.instance) r.index)

-- r is a receive, and its send has another name
abbrev pub HasOtherName : Chart → Place → Type 0
HasOtherName c r = (s : Place) × (m : Event) × (n : Event) × BelongsTo c s r × (chart_event c s ≡ Some m)
    × (chart_event c r ≡ Some n) × (name_of m ≢ name_of n)

-- the chart of a history that is legal for some number of slots
abbrev pub IsPossible : ℕ → Chart → Type 0
IsPossible n c = (h : List Occurrence) × (k : ℕ) × IsLegal n k h × ((p : ℕ) → chart_of h p ≡ c p)

-- Lines and charts as the code holds them.

-- an instance, and the events of its line
pub record LineView : Type 0 where
  pub instance : ℕ
  pub events : List Event

-- a growing line, and the number of events for which it has room without memory
pub record GrowingView : Type 0 where
  pub line : LineView
  pub room : ℕ

-- what holds of each line: the limit, the rule of coregions, and that no event names the line's own instance
pub record IsLine (l : LineView) : Type 0 where
  pub short : length l.events ≤ MAX_EVENTS
  pub partners : (i : ℕ) (m : Event) → slice_get l.events i ≡ Some m → partner_of m ≢ l.instance
  pub regions : HasRegionsInOrder l.events

-- the lines are those of instance 1, instance 2, and so on
abbrev pub IsNumbered : List LineView → Type 0
IsNumbered lines = (i : ℕ) (l : LineView) → slice_get lines i ≡ Some l → l.instance ≡ suc i

-- each event's partner is one of n instances
abbrev pub HasPartners : ℕ → List LineView → Type 0
HasPartners n lines = All (λ l. All (λ m. partner_of m ≤ n) l.events) lines

-- what holds of each chart
pub record IsChart (lines : List LineView) : Type 0 where
  pub several : 2 ≤ length lines
  pub limit : length lines ≤ MAX_INSTANCES
  pub numbered : IsNumbered lines
  pub partners : HasPartners (length lines) lines
  pub each : All IsLine lines

-- the line of each instance; any other number has an empty line
abbrev pub chart_lines : List LineView → Chart
chart_lines lines zero = []
chart_lines lines (suc p) = (slice_index_or lines p (record { instance = suc p; events = [] })).events
