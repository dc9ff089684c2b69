-- The arrivals of messages in two tables, for the crate's own functions.
use Rattle.std.specs.Prelude.{◌≡◌, ◌≢◌, ℕ, ◌<◌, List, length, Option, None, Some, slice_index_or}
use Rattle.log_chart.specs.declared.item.MessageNo.{MessageNo}
use Rattle.log_chart.specs.declared.item.MessageNo.TheVariants.{Sent, Begun}
use Rattle.log_chart.specs.declared.matching.LogLine.{LogLine}
use Rattle.log_chart.specs.Items.{naming_line}
use Rattle.race_verdicts.specs.Luck.Arrivals.{IsArrivalOf}
use Rattle.race_verdicts.specs.Luck.Tables.{IsFirst}
use Rattle.race_verdicts.specs.declared.recording.Arrival.{Arrival}

-- the entry of the tables for a message
abbrev pub arrival_in : List (Option ℕ) → List (Option ℕ) → MessageNo → Option ℕ
arrival_in sent begun (Sent n) = slice_index_or sent n None
arrival_in sent begun (Begun n) = slice_index_or begun n None

-- the tables have for each message its first arrival, among the arrivals below a number
pub record AreArrived (lines : List LogLine) (arrivals : List Arrival) (until : ℕ) (sent begun : List (Option ℕ)) : Type 0 where
  pub sent_whole : length sent ≡ length lines
  pub begun_whole : length begun ≡ length lines
  pub each : (m : MessageNo) → naming_line m < length lines → IsFirst (IsArrivalOf lines arrivals m) until (arrival_in sent begun m)

-- the place was stored for a message, unless it had one
pub record IsPut (sent begun sent_after begun_after : List (Option ℕ)) (m : MessageNo) (place : ℕ) : Type 0 where
  pub sent_whole : length sent_after ≡ length sent
  pub begun_whole : length begun_after ≡ length begun
  pub kept : (n : ℕ) → arrival_in sent begun m ≡ Some n → arrival_in sent_after begun_after m ≡ Some n
  pub noted : arrival_in sent begun m ≡ None → arrival_in sent_after begun_after m ≡ Some place
  pub others : (o : MessageNo) → o ≢ m → arrival_in sent_after begun_after o ≡ arrival_in sent begun o
