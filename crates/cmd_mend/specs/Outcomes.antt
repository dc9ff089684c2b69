-- The report of a pair that was to be mended, and of messages that were added (this project's profile).
use Rattle.std.specs.Prelude.{◌≡◌, ℕ, ◌==◌, List, ◌++◌, Option, if◌then◌else◌}
use Rattle.std.specs.List.{flat_map}
use Rattle.chart.specs.declared.event.Event.{Event}
use Rattle.chart.specs.declared.instance.EventNo.{EventNo}
use Rattle.chart.specs.Charts.{LineView, chart_lines, chart_event, IsReceiveFrom}
use Rattle.chart.specs.Reports.{ReportView, AreReports}
use Rattle.closure.specs.Faults.{place_of}
use Rattle.cmd_base.specs.Contents.{Named}
use Rattle.repair.specs.declared.adding.MendedChart.{MendedChart}
use Rattle.repair.specs.Growing.{message_of}
use Rattle.repair.specs.declared.message.Message.{Message}
use Rattle.repair.specs.declared.mending.Mending.{Mending}
use Rattle.repair.specs.declared.mending.Mending.TheVariants.{Enforced, Hidden, Crossed, OnItsWay, Mended}
use Rattle.texts.specs.Instances.{name_at}
use Rattle.races_text.specs.Named.Words.{text_at}
use Rattle.cmd_base.specs.declared.pairs.pair.Pair.{Pair}
use Rattle.cmd_base.specs.Pairs.SayingText.{step_text, hidden_text}
use Rattle.cmd_mend.specs.declared.answering.Outcome.{Outcome}
use Rattle.cmd_mend.specs.declared.answering.Status.{Status}
use Rattle.cmd_mend.specs.declared.answering.Status.TheVariants.{Done, Undone}
use Rattle.cmd_mend.specs.declared.word.Word.{Word}
use Rattle.cmd_mend.specs.declared.word.Word.TheVariants as words
use Rattle.cmd_mend.specs.Changes.{Changed, changed_by}
use Rattle.cmd_mend.specs.Brief.{brief_text}
use Rattle.cmd_mend.specs.ChangeText.{change_text, mended_text}
use Rattle.cmd_mend.specs.declared.showing.Detail.{Detail}
use Rattle.cmd_mend.specs.declared.showing.Detail.TheVariants.{Brief, Full}
use Rattle.cmd_mend.specs.Words.{word_text}

-- that no message from p to q does, because of this event of p: it stands in the message's way as the last word says
unfoldable pub none_text : List (List ℕ) → ℕ → ℕ → ℕ → Option Event → Word → List ℕ
none_text names p q index event why =
    word_text words.NoMessage ++ (name_at names p ++ (word_text words.To ++ (name_at names q ++ (word_text words.Does
    ++ (text_at names index event ++ word_text why)))))

-- the same of the pair's line, and of the instance that its receive is from
abbrev pub IsNone : Named → Pair → EventNo → Word → Outcome → Type 0
IsNone named pair x why outcome = (outcome.status ≡ Undone)
    × ((q : ℕ) × IsReceiveFrom (chart_lines named.1) q (place_of pair.receive)
    × (outcome.diagnostics.items ≡ none_text named.0 pair.receive.instance q x.index (chart_event (chart_lines named.1) (place_of x)) why))

-- the report of a change: in brief, or with a line for each range of races
abbrev pub change_text_by : Detail → List (List ℕ) → List LineView → List LineView → Message → Changed → List ℕ
change_text_by Brief names old new m changed = brief_text names old new m changed
change_text_by Full names old new m changed = change_text names old new m changed

-- where the message is, and which races of the chart with these lines go, and which of the chart with it stay and come
abbrev pub IsChangeText : Detail → List (List ℕ) → List LineView → List LineView → Message → List ℕ → Type 0
IsChangeText detail names old new m text = (olds : List ReportView) × (news : List ReportView) × AreReports old olds
    × AreReports new news × (text ≡ change_text_by detail names old new m (changed_by (message_of m) olds news))

-- what came of the pair: the chain by which it is enforced, that a coregion hides it, why there is no message, or where
-- the message is and which races go, stay and come
abbrev pub IsOutcome : Named → Detail → Pair → Mending → Outcome → Type 0
IsOutcome named detail pair (Enforced links) outcome = (outcome.status ≡ Done)
    × (outcome.diagnostics.items ≡ flat_map (step_text named.0) links.items)
IsOutcome named detail pair Hidden outcome = (outcome.status ≡ Done) × (outcome.diagnostics.items ≡ hidden_text)
IsOutcome named detail pair (Crossed x) outcome = IsNone named pair x words.Crossed outcome
IsOutcome named detail pair (OnItsWay x) outcome = IsNone named pair x words.OnItsWay outcome
IsOutcome named detail pair (Mended m chart reports) outcome = (outcome.status ≡ Done)
    × IsChangeText detail named.0 named.1 chart m outcome.diagnostics.items

-- by how many race pairs are left
abbrev pub status_left : ℕ → Status
status_left left = if left == 0 then Done else Undone

-- the messages that were added, whether a race is left, and whether it stopped
abbrev pub IsOutcomeOfAll : List (List ℕ) → MendedChart → Outcome → Type 0
IsOutcomeOfAll names m outcome = (outcome.status ≡ status_left m.left)
    × (outcome.diagnostics.items ≡ mended_text names m)
