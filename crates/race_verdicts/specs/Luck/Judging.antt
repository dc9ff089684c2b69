-- The later reasons, for an event and a message that are both in the log; and the parts of a judge: for the crate's own
-- functions.
use Rattle.std.specs.Prelude.{◌≡◌, ℕ, ◌<◌, List}
use Rattle.log_chart.specs.declared.item.Item.{Item}
use Rattle.log_chart.specs.declared.item.MessageNo.{MessageNo}
use Rattle.log_chart.specs.declared.item.MessageNo.TheVariants as messages
use Rattle.log_chart.specs.declared.matching.LogLine.{LogLine}
use Rattle.race_verdicts.specs.Luck.Arrivals.{CameFirst}
use Rattle.race_verdicts.specs.Luck.Behind.{IsBehind}
use Rattle.race_verdicts.specs.Luck.Recorded.{IsRecording, JudgeView}
use Rattle.race_verdicts.specs.Luck.Taking.{WouldTake}
use Rattle.race_verdicts.specs.Luck.Verdicts.{turn_of}
use Rattle.race_verdicts.specs.Luck.WholeOrder.{IsAhead}
use Rattle.race_verdicts.specs.Recordings.{RecordingView}
use Rattle.race_verdicts.specs.declared.verdict.Verdict.{Verdict}
use Rattle.race_verdicts.specs.declared.verdict.Verdict.TheVariants.{Luck, EarlierIsSend, BegunInTheMiddle, OrderedByLeftOut, WouldNotTake, PassedOver, BehindAnother, Any}

-- the reason of each verdict, for the receive of line k, whose message is `own`, and the message that line s sends
abbrev pub IsLoggedReason : RecordingView → ℕ → MessageNo → ℕ → Verdict → Type 0
IsLoggedReason rec k own s EarlierIsSend = ⊥
IsLoggedReason rec k own s BegunInTheMiddle = ⊥
IsLoggedReason rec k own s OrderedByLeftOut = IsAhead rec.lines k s
IsLoggedReason rec k own s WouldNotTake = WouldTake rec k s → ⊥
IsLoggedReason rec k own s PassedOver = CameFirst rec (messages.Sent s) own
IsLoggedReason rec k own s BehindAnother = IsBehind rec k own s
IsLoggedReason rec k own s Luck = Unit {0}
IsLoggedReason rec k own s Any = ⊥

pub record IsLoggedVerdict (rec : RecordingView) (k : ℕ) (own : MessageNo) (s : ℕ) (verdict : Verdict) : Type 0 where
  pub reason : IsLoggedReason rec k own s verdict
  pub first : (other : Verdict) → turn_of other < turn_of verdict → IsLoggedReason rec k own s other → ⊥

-- all parts belong to one recording
pub record IsJudge (view : JudgeView) (rec taking arrivals lanes : RecordingView) (order : List LogLine) (runs : List (List Item)) : Type 0 where
  pub recording : IsRecording view.lines view.recording
  pub same : rec ≡ view.recording
  pub taking_is : taking ≡ view.recording
  pub arrivals_are : arrivals ≡ view.recording
  pub lanes_are : lanes ≡ view.recording
  pub order_is : order ≡ view.recording.lines
  pub runs_are : runs ≡ view.recording.hosts
