-- What is kept for each line to find the last send that is finished before a receive (this project's own).
use Rattle.std.specs.Prelude.{◌≡◌, ℕ, suc, ◌<◌, ◌≤◌, ◌⊎◌, true, List, [], ◌∷◌, length, slice_get, slice_index, Some}
use Rattle.chart.specs.Words.{Counts}
use Rattle.chart.specs.declared.event.Event.{Event}
use Rattle.chart.specs.declared.instance.EventNo.{EventNo}
use Rattle.chart.specs.Charts.{LineView, chart_lines}
use Rattle.chart.specs.Events.{ith, is_receive_from, is_in}
use Rattle.chart.specs.Order.{region_of_event}
use Rattle.reordering.specs.Completion.Handling.{IsSendAt, IsHandled}
use Rattle.reordering.specs.declared.completion.last_sends.LastSends.{LastSends}

-- all events after the first ones of the line, up to `end`, are sends, and no send follows directly
pub record IsRunEnd (line : List Event) (first end : ℕ) : Type 0 where
  pub least : first ≤ end
  pub sends : (j : ℕ) → first < j → j ≤ end → IsSendAt line j
  pub whole : IsSendAt line (suc end) → ⊥

-- the event at d of the line is a receive from q
abbrev pub IsFrom : List Event → ℕ → ℕ → Type 0
IsFrom line q d = (m : Event) × (ith line d ≡ Some m) × (is_receive_from q m ≡ true)

-- all earlier receives of its coregion are from its sender
abbrev pub HasOneSender : List Event → ℕ → Type 0
HasOneSender line i = (q : ℕ) → IsFrom line q i → (d : ℕ) (m : Event) → d < i → ith line d ≡ Some m
    → is_in (region_of_event (ith line i)) m ≡ true → is_receive_from q m ≡ true

-- the send at s handles a receive, and the fact holds of each receive that it handles
pub record IsSettled (P : ℕ → Type 0) (line : List Event) (s : ℕ) : Type 0 where
  pub some : (d : ℕ) × IsHandled line d s
  pub each : (d : ℕ) → IsHandled line d s → P d

-- k is the last such send of the line, or 0 if there is none
pub record IsLastSettled (P : ℕ → Type 0) (line : List Event) (k : ℕ) : Type 0 where
  pub attained : (k ≡ 0) ⊎ IsSettled P line k
  pub last : (s : ℕ) → IsSettled P line s → s ≤ k

-- it is one of the first n events
abbrev pub IsAmong : ℕ → ℕ → Type 0
IsAmong n d = d ≤ n

-- it is one of the first n events, a receive from q
abbrev pub IsAmongFrom : List Event → ℕ → ℕ → ℕ → Type 0
IsAmongFrom line q n d = (d ≤ n) × IsFrom line q d

-- the last send that handles only receives among the first n events; for each sender, the last that handles only
-- receives from it among these
pub record HasPassed (line : List Event) (n within : ℕ) (by_sender : Counts) : Type 0 where
  pub all : IsLastSettled (IsAmong n) line within
  pub each : (q : ℕ) → q < length by_sender → IsLastSettled (IsAmongFrom line (suc q) n) line (slice_index by_sender q)

-- what is kept for the event of this index is right: the last send that handles only receives up to it and, for a
-- receive, the last that handles only earlier receives from its sender
pub record AreLastSends (line : List Event) (k : ℕ) (x : LastSends) : Type 0 where
  pub within : IsLastSettled (IsAmong (suc k)) line x.within
  pub same_sender : (q : ℕ) → IsFrom line q (suc k) → IsLastSettled (IsAmongFrom line q k) line x.same_sender

-- what is kept is right for each event of the line
pub record IsRowOf (line : List Event) (row : List LastSends) : Type 0 where
  pub whole : length row ≡ length line
  pub right : (k : ℕ) (x : LastSends) → slice_get row k ≡ Some x → AreLastSends line k x

-- what is kept is right for each event of each line
pub record HaveLastSends (lines : List LineView) (rows : List (List LastSends)) : Type 0 where
  pub whole : length rows ≡ length lines
  pub each : (p : ℕ) (row : List LastSends) → slice_get rows p ≡ Some row → IsRowOf (chart_lines lines (suc p)) row

-- the index of the first of these events, or `other` if there is none
abbrev pub first_index : ℕ → List EventNo → ℕ
first_index other [] = other
first_index other (e ∷ events) = e.index
