-- The races of a recording that were luck (this project's profile of logs). The program didn't choose the order, and
-- the earlier receive would have had the later message next. Any other race has the first reason that applies.
use Rattle.std.specs.Prelude.{◌≡◌, ℕ, ◌<◌, ◌≤◌, true, List, None, Some, All}
use Rattle.chart.specs.declared.ranges.EventRange.{EventRange}
use Rattle.chart.specs.Charts.{Place, at, LineView, chart_lines}
use Rattle.chart.specs.Order.{Before}
use Rattle.chart.specs.Ranges.{events_of}
use Rattle.log_chart.specs.declared.item.Item.{Item}
use Rattle.log_chart.specs.declared.item.MessageNo.TheVariants as messages
use Rattle.race_verdicts.specs.Luck.Arrivals.{CameFirst}
use Rattle.race_verdicts.specs.Luck.Behind.{IsBehind}
use Rattle.race_verdicts.specs.Luck.Places.{items_of, item_at, IsInvented}
use Rattle.race_verdicts.specs.Luck.Runs.{AreAlike}
use Rattle.race_verdicts.specs.Luck.Taking.{WouldTake}
use Rattle.race_verdicts.specs.Luck.WholeOrder.{IsAhead}
use Rattle.race_verdicts.specs.Recordings.{RecordingView}
use Rattle.race_verdicts.specs.declared.verdict.Verdict.{Verdict}
use Rattle.race_verdicts.specs.declared.verdict.VerdictRun.{VerdictRun}
use Rattle.race_verdicts.specs.declared.verdict.Verdict.TheVariants.{Luck, EarlierIsSend, BegunInTheMiddle, OrderedByLeftOut, WouldNotTake, PassedOver, BehindAnother, Any}

-- the earlier event is invented, or the send of the receive r is, or an invented send is before r in the chart
pub data IsBegunBefore (lines : List LineView) (rec : RecordingView) (r : Place) (receive earlier : Item) : Type 0 where
  unlogged : earlier.line ≡ None → IsBegunBefore lines rec r receive earlier
  itself : (n : ℕ) → receive.message ≡ messages.Begun n → IsBegunBefore lines rec r receive earlier
  before : (e : Place) → IsInvented rec e → Before (chart_lines lines) e r → IsBegunBefore lines rec r receive earlier

-- the send of the receive r is invented, or an invented send is before r in the chart; then the above holds for each
-- earlier event
pub data IsBegun (lines : List LineView) (rec : RecordingView) (r : Place) : Type 0 where
  itself : (receive : Item) (n : ℕ) → item_at rec r ≡ Some receive → receive.message ≡ messages.Begun n → IsBegun lines rec r
  before : (e : Place) → IsInvented rec e → Before (chart_lines lines) e r → IsBegun lines rec r

-- the earlier event is that of line k, and line s sends the message of the receive
pub record AreLogged (earlier receive : Item) (k s : ℕ) : Type 0 where
  pub line : earlier.line ≡ Some k
  pub send : receive.message ≡ messages.Sent s

-- the reason of each verdict, for the receive r and an earlier event; for a log it is always decided
abbrev pub IsReason : List LineView → RecordingView → Place → Item → Item → Verdict → Type 0
IsReason lines rec r receive earlier BegunInTheMiddle = IsBegunBefore lines rec r receive earlier
IsReason lines rec r receive earlier EarlierIsSend = earlier.sends ≡ true
IsReason lines rec r receive earlier OrderedByLeftOut = (k s : ℕ) × AreLogged earlier receive k s × IsAhead rec.lines k s
IsReason lines rec r receive earlier WouldNotTake = (k s : ℕ) × AreLogged earlier receive k s × (WouldTake rec k s → ⊥)
IsReason lines rec r receive earlier PassedOver = CameFirst rec receive.message earlier.message
IsReason lines rec r receive earlier BehindAnother = (k s : ℕ) × AreLogged earlier receive k s × IsBehind rec k earlier.message s
IsReason lines rec r receive earlier Luck = Unit {0}
IsReason lines rec r receive earlier Any = ⊥

-- the order of the reasons
abbrev pub turn_of : Verdict → ℕ
turn_of BegunInTheMiddle = 0
turn_of EarlierIsSend = 1
turn_of OrderedByLeftOut = 2
turn_of WouldNotTake = 3
turn_of PassedOver = 4
turn_of BehindAnother = 5
turn_of Luck = 6
turn_of Any = 7

-- the verdict on the receive and an earlier event of its line, by their places: its reason holds, and no reason before
-- it does
pub record IsVerdict (lines : List LineView) (rec : RecordingView) (r e : Place) (verdict : Verdict) : Type 0 where
  pub receive : Item
  pub earlier : Item
  pub receive_is : item_at rec r ≡ Some receive
  pub earlier_is : item_at rec e ≡ Some earlier
  pub reason : IsReason lines rec r receive earlier verdict
  pub first : (other : Verdict) → turn_of other < turn_of verdict → IsReason lines rec r receive earlier other → ⊥

-- The verdict on the receive and the first of some neighbouring events of its line. It comes with the number of events
-- that have it, from the first on. If the receive is begun in the middle, all have it. Otherwise these are as many as
-- are of one kind.
pub record IsVerdictRun (lines : List LineView) (rec : RecordingView) (r : Place) (earlier : EventRange) (run : VerdictRun) : Type 0 where
  pub some : 0 < run.count
  pub within : run.count ≤ earlier.count
  pub verdicts : All (λ e. IsVerdict lines rec r (at e.instance e.index) run.verdict) (events_of (record { first = earlier.first; count = run.count }))
  pub begun : IsBegun lines rec r → run.count ≡ earlier.count
  pub alike : (IsBegun lines rec r → ⊥) → AreAlike (items_of rec earlier.first.instance) earlier.first.index earlier.count run.count

-- a pair has at most one verdict
abbrev pub OneVerdictLaw : Type 0
OneVerdictLaw = (lines : List LineView) (rec : RecordingView) (r e : Place) (a b : Verdict) → IsVerdict lines rec r e a
    → IsVerdict lines rec r e b → a ≡ b
