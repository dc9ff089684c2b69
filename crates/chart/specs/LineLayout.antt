-- What a growing line keeps: for each event an entry, which also has the starts of its runs (this project's profile).
use Rattle.std.specs.Prelude.{◌≡◌, ℕ, suc, ◌+◌, ◌<◌, ◌≤◌, List, [], ◌∷◌, ◌++◌, length, map, slice_get, slice_index_or, Some, All, if◌then◌else◌}
use Rattle.chart.specs.Words.{Instance, Name}
use Rattle.chart.specs.declared.event.Event.{Event}
use Rattle.chart.specs.declared.growing_line.Entry.{Entry}
use Rattle.chart.specs.declared.growing_line.Starts.{Starts}
use Rattle.chart.specs.Events.{send_event, receive_event, is_receive_from, is_in, greatest_region}
use Rattle.chart.specs.Charts.{IsLine}
use Rattle.chart.specs.Runs.{IsStartOfRun}

-- what is kept for the event of this index, from 1, is right
pub record AreStartsAt (line : List Event) (index : ℕ) (s : Starts) : Type 0 where
  pub run : IsStartOfRun is_receive_from line index s.run
  pub region : IsStartOfRun is_in line index s.region

-- what is kept is right for each event
abbrev pub AreStarts : List Event → List Starts → Type 0
AreStarts line kept = (i : ℕ) (s : Starts) → slice_get kept i ≡ Some s → AreStartsAt line (suc i) s

-- what is kept is right for an event that is added to the line
abbrev pub IsNext : List Event → Event → Starts → Type 0
IsNext line m s = AreStartsAt (line ++ m ∷ []) (length line + 1) s

-- what holds of a line's fields
pub record IsLaidOut (p : Instance) (events : List Event) (kept : List Starts) (greatest : ℕ) : Type 0 where
  pub line : IsLine (record { instance = p; events = events })
  pub same : length kept ≡ length events
  pub right : AreStarts events kept
  pub greatest_is : greatest ≡ greatest_region events
  pub few_regions : greatest ≤ length events

-- the event of an entry, if these are the names of its line's messages
abbrev pub event_of : List Name → Entry → Event
event_of names e =
    if e.receives
    then receive_event e.partner (slice_index_or names e.name []) e.region
    else send_event e.partner (slice_index_or names e.name [])

abbrev pub events_of : List Name → List Entry → List Event
events_of names entries = map (event_of names) entries

abbrev pub starts_of : List Entry → List Starts
starts_of entries = map (λ e. e.starts) entries

-- each entry has one of these names, and the entries' events are those of a line
pub record AreEntries (p : Instance) (names : List Name) (entries : List Entry) (greatest : ℕ) : Type 0 where
  pub named : All (λ e. e.name < length names) entries
  pub few : length names ≤ length entries
  pub laid_out : IsLaidOut p (events_of names entries) (starts_of entries) greatest
