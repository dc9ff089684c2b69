-- The brief report of a message that mends a race (this project's profile): where it is, the first ranges of races
-- that go or come, and how many race pairs go, stay and come.
use Rattle.std.specs.Prelude.{◌≡◌, ℕ, List, ◌++◌, length, map, take, All, decimal}
use Rattle.std.specs.List.{flat_map}
use Rattle.chart.specs.declared.instance.EventNo.{EventNo}
use Rattle.chart.specs.declared.ranges.EventRange.{EventRange}
use Rattle.chart.specs.Charts.{LineView, chart_lines}
use Rattle.chart.specs.Ranges.{IsRange, ranges_of}
use Rattle.chart.specs.Reports.{ReportView}
use Rattle.repair.specs.declared.message.Message.{Message}
use Rattle.repair.specs.Repairs.{pairs_of}
use Rattle.cmd_mend.specs.declared.brief.Brief as code
use Rattle.cmd_mend.specs.declared.brief.Counts.{Counts}
use Rattle.cmd_mend.specs.declared.brief.Fate.{Fate}
use Rattle.cmd_mend.specs.declared.brief.Fate.TheVariants.{Goes, Comes}
use Rattle.cmd_mend.specs.declared.brief.Shown.{Shown}
use Rattle.cmd_mend.specs.declared.word.Word.{Word}
use Rattle.cmd_mend.specs.declared.word.Word.TheVariants as words
use Rattle.cmd_mend.specs.Changes.{Changed}
use Rattle.cmd_mend.specs.ChangeText.{message_text, race_line}
use Rattle.cmd_mend.specs.Words.{word_text}

-- a range of a receive's races
abbrev pub shown_as : Fate → EventNo → EventRange → Shown
shown_as fate receive range = record { fate = fate; receive = receive; range = range }

-- the ranges of a receive's races, as few as there can be
abbrev pub shown_of : Fate → ReportView → List Shown
shown_of fate report = map (shown_as fate report.receive) (ranges_of report.earlier)

-- those of several
abbrev pub all_shown : Fate → List ReportView → List Shown
all_shown fate reports = flat_map (shown_of fate) reports

-- those of the races that go, and then those of the races that come
abbrev pub changes_shown : Changed → List Shown
changes_shown changed = all_shown Goes changed.gone ++ all_shown Comes changed.coming

-- how many race pairs go, stay and come
abbrev pub counts_of : Changed → Counts
counts_of changed = record {
  going = length (pairs_of changed.gone);
  staying = length (pairs_of changed.staying);
  coming = length (pairs_of changed.coming);
}

-- these are the first ten of all ranges, which are reported one by one
pub record HasFirst (all shown : List Shown) : Type 0 where
  pub first : shown ≡ take 10 all
  pub ranges : All (λ one. IsRange one.range) shown

-- where these were the first of some ranges, those are the first with more ranges behind them
abbrev pub Shows : List Shown → List Shown → List Shown → Type 0
Shows old new more = (all : List Shown) → HasFirst all old → HasFirst (all ++ more) new

-- the brief report of the change
pub record IsBrief (changed : Changed) (brief : code.Brief) : Type 0 where
  pub shown : HasFirst (changes_shown changed) brief.shown.items
  pub counts : brief.counts ≡ counts_of changed

-- the word of a range's line, and the lines whose numbers it has: the old chart's, or the new one's
abbrev pub word_of : Fate → Word
word_of Goes = words.Goes
word_of Comes = words.Comes

abbrev pub lines_of : List LineView → List LineView → Fate → List LineView
lines_of old new Goes = old
lines_of old new Comes = new

-- its line
unfoldable pub shown_text : List (List ℕ) → List LineView → List LineView → Shown → List ℕ
shown_text names old new one =
    race_line (word_of one.fate) names (chart_lines (lines_of old new one.fate) one.receive.instance) one.receive one.range

-- a line: race pairs: COUNT go, COUNT stay, COUNT come
unfoldable pub counts_text : Counts → List ℕ
counts_text counts =
    word_text words.Pairs ++ (decimal counts.going ++ (word_text words.Go ++ (decimal counts.staying
    ++ (word_text words.Stay ++ (decimal counts.coming ++ word_text words.Come)))))

-- the message, some ranges, and the counts
unfoldable pub lines_text : List (List ℕ) → List LineView → List LineView → Message → List Shown → Counts → List ℕ
lines_text names old new m shown counts =
    message_text names m ++ (flat_map (shown_text names old new) shown ++ counts_text counts)

-- the brief report: the message, the first ranges of races that go or come, and the counts
abbrev pub brief_text : List (List ℕ) → List LineView → List LineView → Message → Changed → List ℕ
brief_text names old new m changed =
    lines_text names old new m (take 10 (changes_shown changed)) (counts_of changed)
