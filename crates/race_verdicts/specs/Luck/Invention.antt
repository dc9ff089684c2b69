-- Sends that come after invented ones, by the enforced order (after Alur, Holzmann and Peled 1996), for the crate's own
-- functions.
use Rattle.std.specs.Prelude.{◌≡◌, ℕ, suc, ◌+◌, ◌<◌, ◌≤◌, ◌↔◌, true, List, [], length, Option, None, Some, slice_index, slice_index_or}
use Rattle.chart.specs.declared.event.Event.{Event}
use Rattle.chart.specs.Charts.{Chart, at, LineView, chart_lines}
use Rattle.chart.specs.Events.{ith, is_send_to}
use Rattle.chart.specs.Knowing.{IsUpTo}
use Rattle.closure.specs.Searches.{IsSend}
use Rattle.log_chart.specs.declared.item.Item.{Item}
use Rattle.race_verdicts.specs.Luck.Recorded.{IsRecording}
use Rattle.race_verdicts.specs.Luck.Tables.{IsFirst}
use Rattle.race_verdicts.specs.Recordings.{RecordingView}

-- the event with this number, from 1, has no line of the log: it is invented
pub record IsUnlogged (items : List Item) (i : ℕ) : Type 0 where
  pub item : Item
  pub is : ith items i ≡ Some item
  pub unlogged : item.line ≡ None

-- the table has the first invented event of each host's line
pub record AreInvented (hosts : List (List Item)) (invented : List (Option ℕ)) : Type 0 where
  pub whole : length invented ≡ length hosts
  pub each : (p : ℕ) → p < length hosts
      → IsFirst (IsUnlogged (slice_index_or hosts p [])) (length (slice_index_or hosts p []) + 1) (slice_index_or invented p None)

-- the event with this number, from 1, is a send
abbrev pub IsSendAt : List Event → ℕ → Type 0
IsSendAt events j = (q : ℕ) × ((m : Event) × (ith events j ≡ Some m) × (is_send_to q m ≡ true))

-- there is a first number, and it is at most n
abbrev pub IsUpToFirst : Option ℕ → ℕ → Type 0
IsUpToFirst None n = ⊥
IsUpToFirst (Some m) n = m ≤ n

-- the first events of some line, as many as `fronts` has, include the table's event of this line
abbrev pub HasInvented : List (Option ℕ) → List ℕ → Type 0
HasInvented invented fronts = (p : ℕ) × (p < length fronts) × IsUpToFirst (slice_index_or invented p None) (slice_index fronts p)

-- the entries of the table are at least 1
abbrev pub AreNumbered : List (Option ℕ) → Type 0
AreNumbered invented = (p i : ℕ) → slice_index_or invented p None ≡ Some i → 1 ≤ i

-- the event j of q's line is a send, and an event of the table is this send or comes before it
pub record IsKnownSend (c : Chart) (invented : List (Option ℕ)) (q j : ℕ) : Type 0 where
  pub send : IsSend c (at q j)
  pub line : ℕ
  pub index : ℕ
  pub is : slice_index_or invented line None ≡ Some index
  pub up : IsUpTo c (at q j) (at (suc line) index)

-- one of the first n events of q's line is such a send
abbrev pub IsKnownBy : Chart → List (Option ℕ) → ℕ → ℕ → Type 0
IsKnownBy c invented q n = (j : ℕ) × (j ≤ n) × IsKnownSend c invented q j

-- exactly the sends of q's line from `first` on are such sends
abbrev pub IsKnownFrom : Chart → List (Option ℕ) → ℕ → Option ℕ → Type 0
IsKnownFrom c invented q first = (j : ℕ) → IsSend c (at q j) → IsKnownSend c invented q j ↔ IsUpToFirst first j

-- the table has this first number for each line
pub record AreKnown (c : Chart) (n : ℕ) (invented known : List (Option ℕ)) : Type 0 where
  pub whole : length known ≡ n
  pub each : (p : ℕ) → p < n → IsKnownFrom c invented (suc p) (slice_index_or known p None)

-- the table has an entry for one of the first n numbers
abbrev pub HasEntry : List (Option ℕ) → ℕ → Type 0
HasEntry table n = (p : ℕ) × (i : ℕ) × (p < n) × (slice_index_or table p None ≡ Some i)

-- the table belongs to this recording and its chart
pub record AreBeginnings (lines : List LineView) (rec : RecordingView) (known : List (Option ℕ)) : Type 0 where
  pub recording : IsRecording lines rec
  pub invented : List (Option ℕ)
  pub are : AreInvented rec.hosts invented
  pub sends : AreKnown (chart_lines lines) (length lines) invented known
