-- The report of a message that mends a race (this project's profile): where it is, and which races go, stay and come.
use Rattle.std.specs.Prelude.{ℕ, Bool, true, false, List, [], ◌++◌, decimal}
use Rattle.std.specs.List.{flat_map}
use Rattle.chart.specs.declared.event.Event.{Event}
use Rattle.chart.specs.declared.instance.EventNo.{EventNo}
use Rattle.chart.specs.declared.ranges.EventRange.{EventRange}
use Rattle.chart.specs.Charts.{LineView, chart_lines}
use Rattle.chart.specs.Ranges.{ranges_of}
use Rattle.chart.specs.Reports.{ReportView}
use Rattle.repair.specs.declared.adding.MendedChart.{MendedChart}
use Rattle.repair.specs.declared.best.Addition.{Addition}
use Rattle.repair.specs.declared.pairs.RacePair.{RacePair}
use Rattle.repair.specs.declared.message.Message.{Message}
use Rattle.texts.specs.Instances.{name_at}
use Rattle.races_text.specs.Named.PlainText.{line_text}
use Rattle.cmd_mend.specs.declared.word.Word.{Word}
use Rattle.cmd_mend.specs.declared.word.Word.TheVariants as words
use Rattle.cmd_mend.specs.Changes.{Changed}
use Rattle.cmd_mend.specs.Words.{word_text}

-- NAME from SENDER to RECEIVER
unfoldable pub ends_text : List (List ℕ) → Message → List ℕ
ends_text names m =
    m.name ++ (word_text words.From ++ (name_at names m.sender ++ (word_text words.To ++ name_at names m.receiver)))

-- a line: NAME from SENDER to RECEIVER: sent behind event COUNT, received behind event COUNT
unfoldable pub message_text : List (List ℕ) → Message → List ℕ
message_text names m =
    ends_text names m ++ (word_text words.Sent ++ (decimal m.sent ++ (word_text words.Received ++ (decimal m.received
    ++ word_text words.End))))

-- a range of a receive's races behind a word
unfoldable pub race_line : Word → List (List ℕ) → List Event → EventNo → EventRange → List ℕ
race_line word names events receive range = word_text word ++ line_text names events receive range

-- a receive's races
abbrev pub report_text : Word → List (List ℕ) → List LineView → ReportView → List ℕ
report_text word names lines report =
    flat_map (race_line word names (chart_lines lines report.receive.instance) report.receive) (ranges_of report.earlier)

-- those of several
abbrev pub reports_text : Word → List (List ℕ) → List LineView → List ReportView → List ℕ
reports_text word names lines reports = flat_map (report_text word names lines) reports

-- the message, and the races that go, in the old chart's numbers, and that stay and come, in the new chart's
unfoldable pub change_text : List (List ℕ) → List LineView → List LineView → Message → Changed → List ℕ
change_text names old new m changed =
    message_text names m ++ (reports_text words.Goes names old changed.gone
    ++ (reports_text words.Stays names new changed.staying ++ reports_text words.Comes names new changed.coming))

-- race INSTANCE EARLIER RECEIVE, and a colon
unfoldable pub pair_text : List (List ℕ) → RacePair → List ℕ
pair_text names pair =
    word_text words.Race ++ (name_at names pair.receive.instance ++ (word_text words.Space ++ (decimal pair.earlier.index
    ++ (word_text words.Space ++ (decimal pair.receive.index ++ word_text words.Colon)))))

-- a line for a message that was added: the race pair that it mends, and the message
unfoldable pub addition_text : List (List ℕ) → Addition → List ℕ
addition_text names added = pair_text names added.pair ++ message_text names added.message

abbrev pub additions_text : List (List ℕ) → List Addition → List ℕ
additions_text names additions = flat_map (addition_text names) additions

-- a line: after how many race pairs that were tried it stopped, and how many are left
unfoldable pub stopped_text : ℕ → ℕ → List ℕ
stopped_text tried left =
    word_text words.StoppedAfter ++ (decimal tried ++ (word_text words.Colon ++ (decimal left ++ word_text words.AreLeft)))

-- the line, where it stopped
abbrev pub text_if_stopped : Bool → ℕ → ℕ → List ℕ
text_if_stopped true tried left = stopped_text tried left
text_if_stopped false tried left = []

-- a line for each message, and that one
unfoldable pub mended_text : List (List ℕ) → MendedChart → List ℕ
mended_text names m = additions_text names m.additions.items ++ text_if_stopped m.is_stopped m.tried m.left
