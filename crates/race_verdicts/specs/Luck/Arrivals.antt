-- The message of each recorded arrival, and which of two messages came first (this project's profile of logs). An
-- arrival is that of the first message of its stream that waits. A message waits if no line above receives it, and no
-- arrival above is its own.
use Rattle.std.specs.Prelude.{◌≡◌, ℕ, zero, suc, ◌==◌, ◌<◌, ◌&&◌, ◌||◌, Bool, not, nat_lt, List, ◌++◌, filter, drop, Option, None, Some, slice_get, if◌then◌else◌}
use Rattle.std.specs.List.{list_any}
use Rattle.log_chart.specs.Entries.{is_send}
use Rattle.log_chart.specs.Fates.{is_sent_at}
use Rattle.log_chart.specs.Items.{message_of}
use Rattle.log_chart.specs.declared.item.MessageNo.{MessageNo}
use Rattle.log_chart.specs.declared.matching.LogLine.{LogLine}
use Rattle.race_verdicts.specs.Recordings.{RecordingView}
use Rattle.race_verdicts.specs.declared.recording.Arrival.{Arrival}

abbrev pub receives : LogLine → Bool
receives x = not (is_send x.entry.kind)

-- the line sends a message that none of these lines receives
abbrev pub is_left : List LogLine → LogLine → Bool
is_left lines x = is_send x.entry.kind && not (list_any (λ y. is_sent_at x.number y.send) lines)

-- the lines of a stream that pass the test
abbrev pub of_stream : (LogLine → Bool) → List LogLine → ℕ → List LogLine
of_stream test lines stream = filter (λ x. test x && x.entry.stream == stream) lines

-- the messages of a stream, each by a line: first the received ones, by their receives, and then those that nobody
-- receives, by their sends
abbrev pub messages_of : List LogLine → ℕ → List LogLine
messages_of lines stream = of_stream receives lines stream ++ of_stream (is_left lines) lines stream

-- none of the first n lines receives the message of this line
abbrev pub is_open : ℕ → LogLine → Bool
is_open n x = is_send x.entry.kind || not (nat_lt x.number n)

-- the messages of a stream that wait after this arrival, of those that wait before it; if the arrival is of this
-- stream, its own message and those that a line above receives don't wait any more
abbrev pub behind : ℕ → List LogLine → Option Arrival → List LogLine
behind stream messages None = messages
behind stream messages (Some a) = if a.stream == stream then drop 1 (filter (is_open a.«at») messages) else messages

-- the messages of a stream that wait after this number of arrivals
unfoldable pub waiting : List LogLine → List Arrival → ℕ → ℕ → List LogLine
waiting lines arrivals zero stream = messages_of lines stream
waiting lines arrivals (suc i) stream = behind stream (waiting lines arrivals i stream) (slice_get arrivals i)

-- the arrival with number i is that of this message: the first of its stream that waits, and that no line above
-- receives
pub record IsArrivalOf (lines : List LogLine) (arrivals : List Arrival) (m : MessageNo) (i : ℕ) : Type 0 where
  pub arrival : Arrival
  pub is : slice_get arrivals i ≡ Some arrival
  pub line : LogLine
  pub first : slice_get (filter (is_open arrival.«at») (waiting lines arrivals i arrival.stream)) 0 ≡ Some line
  pub message : m ≡ message_of line

-- the arrival with this number is the message's first
pub record IsFirstArrival (rec : RecordingView) (m : MessageNo) (i : ℕ) : Type 0 where
  pub its : IsArrivalOf rec.lines rec.arrivals m i
  pub first : (j : ℕ) → j < i → IsArrivalOf rec.lines rec.arrivals m j → ⊥

-- the message arrived before the other one, of which an arrival is recorded too
pub record CameFirst (rec : RecordingView) (m other : MessageNo) : Type 0 where
  pub place : ℕ
  pub other_place : ℕ
  pub arrived : IsFirstArrival rec m place
  pub other_arrived : IsFirstArrival rec other other_place
  pub sooner : place < other_place
