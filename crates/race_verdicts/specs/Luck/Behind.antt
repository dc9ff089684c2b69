-- Messages that are behind others (this project's profile of logs). Lanes are first in, first out (Alur, Holzmann and
-- Peled 1996). So a receive first takes an earlier message of the same sender to the same host, if it would take that
-- one.
use Rattle.std.specs.Prelude.{◌≡◌, ℕ, ◌<◌, ◌≤◌, true, Some, slice_get, Contains}
use Rattle.log_chart.specs.Entries.{is_send}
use Rattle.log_chart.specs.declared.item.MessageNo.{MessageNo}
use Rattle.log_chart.specs.declared.item.MessageNo.TheVariants as messages
use Rattle.log_chart.specs.declared.matching.LogLine.{LogLine}
use Rattle.race_verdicts.specs.Luck.Arrivals.{CameFirst}
use Rattle.race_verdicts.specs.Luck.Taking.{WouldTake}
use Rattle.race_verdicts.specs.Recordings.{RecordingView}

-- line o sends on the lane of line s, before it
pub record IsSentBefore (rec : RecordingView) (o s : ℕ) : Type 0 where
  pub line : LogLine
  pub is : slice_get rec.lines o ≡ Some line
  pub later : LogLine
  pub later_is : slice_get rec.lines s ≡ Some later
  pub sends : is_send line.entry.kind ≡ true
  pub sender : line.entry.host ≡ later.entry.host
  pub receiver : line.entry.peer ≡ later.entry.peer
  pub before : o < s

-- the message that line o sends waits at line k: some line takes it, and no line before k does. A message that no line
-- takes never waits: it is lost if a later one of its lane is taken
pub record IsThere (rec : RecordingView) (k o : ℕ) : Type 0 where
  pub taker : LogLine
  pub among : Contains rec.lines taker
  pub takes : taker.send ≡ Some o
  pub late : (x : LogLine) → Contains rec.lines x → x.send ≡ Some o → k ≤ x.number

-- the message of line o waits at line k, and the receive there, whose message is `own`, would have taken it and didn't
-- pass it over
pub record WouldHaveTaken (rec : RecordingView) (k : ℕ) (own : MessageNo) (o : ℕ) : Type 0 where
  pub there : IsThere rec k o
  pub takes : WouldTake rec k o
  pub kept : CameFirst rec (messages.Sent o) own → ⊥

-- the receive would have taken such a message of the lane before that of line s
pub record IsBehind (rec : RecordingView) (k : ℕ) (own : MessageNo) (s : ℕ) : Type 0 where
  pub other : ℕ
  pub sent : IsSentBefore rec other s
  pub would : WouldHaveTaken rec k own other
