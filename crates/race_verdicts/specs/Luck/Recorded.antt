-- The contents of a log's recording, with the lines of its chart (this project's profile of logs).
use Rattle.std.specs.Prelude.{◌≡◌, ℕ, ◌<◌, ◌≤◌, true, List, length, All, AllPairs, Contains, None, Some, slice_get}
use Rattle.chart.specs.Charts.{Place, LineView, chart_lines, IsSendTo}
use Rattle.log_chart.specs.Entries.{is_send}
use Rattle.log_chart.specs.FateTables.{IsWithin}
use Rattle.log_chart.specs.declared.item.Item.{Item}
use Rattle.log_chart.specs.declared.item.MessageNo.{MessageNo}
use Rattle.log_chart.specs.declared.item.MessageNo.TheVariants.{Sent, Begun}
use Rattle.log_chart.specs.declared.matching.LogLine.{LogLine}
use Rattle.race_verdicts.specs.Luck.Places.{items_of, item_at}
use Rattle.race_verdicts.specs.Recordings.{RecordingView}

-- the line with this number is a send
pub record IsSendLine (lines : List LogLine) (n : ℕ) : Type 0 where
  pub line : LogLine
  pub is : slice_get lines n ≡ Some line
  pub sends : is_send line.entry.kind ≡ true

-- a message that a line sends is identified by this line
abbrev pub IsNamed : List LogLine → MessageNo → Type 0
IsNamed lines (Sent n) = IsSendLine lines n
IsNamed lines (Begun n) = n < length lines

-- the event's line and the line that identifies its message are lines of the log; an event without a line is a send
pub record IsOfLog (lines : List LogLine) (i : Item) : Type 0 where
  pub line : IsWithin (length lines) i.line
  pub message : IsNamed lines i.message
  pub unlogged : i.line ≡ None → i.sends ≡ true

-- each line has its number, from 0, and a stream less than the number of lines; a line that takes a message takes it
-- from a line that sends
pub record IsLog (lines : List LogLine) : Type 0 where
  pub numbered : (n : ℕ) (x : LogLine) → slice_get lines n ≡ Some x → x.number ≡ n
  pub streams : All (λ x. x.entry.stream < length lines) lines
  pub sends : (x : LogLine) (s : ℕ) → Contains lines x → x.send ≡ Some s → IsSendLine lines s

-- The recording has words for each line of the log, and its patterns are in the order of their lines. There is one host
-- for each of the chart's instances. A host has as many events as its instance, and where the host sends, the instance
-- does too.
pub record IsRecording (lines : List LineView) (rec : RecordingView) : Type 0 where
  pub log : IsLog rec.lines
  pub words : length rec.words ≡ length rec.lines
  pub taken : AllPairs (λ a b. a.line ≤ b.line) rec.taken
  pub items : All (All (IsOfLog rec.lines)) rec.hosts
  pub hosts : length rec.hosts ≡ length lines
  pub among : All (λ x. x.entry.host ≤ length rec.hosts) rec.lines
  pub events : (p : ℕ) → length (items_of rec p) ≡ length (chart_lines lines p)
  pub same : (e : Place) (i : Item) → item_at rec e ≡ Some i → i.sends ≡ true → (q : ℕ) × IsSendTo (chart_lines lines) q e

-- a chart's lines, and the recording of the chart
pub record JudgeView : Type 0 where
  pub lines : List LineView
  pub recording : RecordingView
