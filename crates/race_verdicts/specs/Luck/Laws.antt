-- The meaning of luck for a log (after the feasible executions of Netzer and Miller 1992, in this project's profile).
-- Another run of its chart's events has a moment at which the earlier receive could have had the later message.
use Rattle.std.specs.Prelude.{◌≡◌, ℕ, List, Some}
use Rattle.chart.specs.Charts.{Chart, Place, BelongsTo, IsPossible, chart_lines}
use Rattle.chart.specs.Histories.{Begins}
use Rattle.chart.specs.Order.{Before, IsEarlier}
use Rattle.chart.specs.declared.history.Occurrence.{Occurrence}
use Rattle.log_chart.specs.Charts.ChartLines.{chart_from}
use Rattle.log_chart.specs.HostLines.{host_lines}
use Rattle.log_chart.specs.Laws.{AreOfLanes}
use Rattle.log_chart.specs.Matching.{matched}
use Rattle.log_chart.specs.declared.entry.Entry.{Entry}
use Rattle.log_chart.specs.declared.item.Item.{Item}
use Rattle.log_chart.specs.declared.item.MessageNo.TheVariants as messages
use Rattle.race_verdicts.specs.Luck.Arrivals.{CameFirst}
use Rattle.race_verdicts.specs.Luck.Places.{item_at}
use Rattle.race_verdicts.specs.Luck.Recorded.{IsRecording}
use Rattle.race_verdicts.specs.Luck.Taking.{WouldTake}
use Rattle.race_verdicts.specs.Luck.Verdicts.{AreLogged, IsVerdict}
use Rattle.race_verdicts.specs.Recordings.{RecordingView}
use Rattle.race_verdicts.specs.declared.verdict.Verdict.TheVariants.{Luck}
use Rattle.reordering.specs.OtherRuns.OtherRuns.{HasCome, IsRunOf}

-- the recording has the lines of this log, and the events of its hosts
pub record IsOfEntries (hosts : ℕ) (log : List Entry) (rec : RecordingView) : Type 0 where
  pub lines : rec.lines ≡ matched log
  pub events : rec.hosts ≡ host_lines hosts log

-- all events above e on its line have come, e hasn't, and the message that is sent at s waits for the receive at r
pub record IsReady (c : Chart) (moment : List Occurrence) (e s r : Place) : Type 0 where
  pub earlier : (f : Place) → IsEarlier f e → HasCome c moment f
  pub not_yet : HasCome c moment e → ⊥
  pub sent : HasCome c moment s
  pub waits : HasCome c moment r → ⊥

-- a run of the chart's events, and a moment of it
pub record IsMoment (n : ℕ) (c : Chart) (run moment : List Occurrence) : Type 0 where
  pub is_run : IsRunOf n c run
  pub begins : Begins moment run

-- the receive at e would have taken the message that is sent at o, and didn't pass it over
pub record WouldHaveTakenAt (rec : RecordingView) (e o : Place) : Type 0 where
  pub earlier : Item
  pub sent : Item
  pub earlier_is : item_at rec e ≡ Some earlier
  pub sent_is : item_at rec o ≡ Some sent
  pub k : ℕ
  pub s : ℕ
  pub logged : AreLogged earlier sent k s
  pub takes : WouldTake rec k s
  pub kept : CameFirst rec (messages.Sent s) earlier.message → ⊥

-- some run has such a moment; the receive at e would have taken the message of s, and none of those that wait before it
-- on its lane
pub record CouldComeNext (n : ℕ) (c : Chart) (rec : RecordingView) (e s r : Place) : Type 0 where
  pub run : List Occurrence
  pub moment : List Occurrence
  pub is : IsMoment n c run moment
  pub ready : IsReady c moment e s r
  pub takes : (WouldHaveTakenAt rec e s → ⊥) → ⊥
  pub first : (o d : Place) → BelongsTo c o d → d.instance ≡ r.instance → IsEarlier o s → (HasCome c moment d → ⊥)
      → WouldHaveTakenAt rec e o → ⊥

-- if the verdict on a log's race is luck, there is such a moment
abbrev pub LuckLaw : Type 0
LuckLaw = (hosts : ℕ) (from to : ℕ → ℕ) (log : List Entry) → AreOfLanes from to log
    → IsPossible hosts (chart_lines (chart_from log 1 (host_lines hosts log)))
    → (rec : RecordingView) → IsOfEntries hosts log rec → IsRecording (chart_from log 1 (host_lines hosts log)) rec
    → (s r e : Place) → BelongsTo (chart_lines (chart_from log 1 (host_lines hosts log))) s r → IsEarlier e r
    → (Before (chart_lines (chart_from log 1 (host_lines hosts log))) e r → ⊥)
    → IsVerdict (chart_from log 1 (host_lines hosts log)) rec r e Luck
    → CouldComeNext hosts (chart_lines (chart_from log 1 (host_lines hosts log))) rec e s r
