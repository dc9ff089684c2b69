-- The races of a page.
use Rattle.std.specs.Prelude.{◌≡◌, ℕ, nat_lt, Bool, true, false, List, length, slice_get, Option, None, Some}
use Rattle.chart.specs.declared.event.Event.{Event}
use Rattle.chart.specs.declared.instance.EventNo.{EventNo}
use Rattle.chart.specs.declared.ranges.EventRange.{EventRange}
use Rattle.chart.specs.Charts.{chart_lines}
use Rattle.cmd_base.specs.Contents.{Named}
use Rattle.texts.specs.Instances.{name_at}
use Rattle.cmd_page.specs.declared.text.race.Answers.{Answers}
use Rattle.cmd_page.specs.declared.text.race.Race.{Race}
use Rattle.race_verdicts.specs.declared.verdict.Verdict.{Verdict}
use Rattle.races_text.specs.Named.PlainText.{last_of, race_text}
use Rattle.races_text.specs.Judged.PlainText.{race_text as judged_text}
use Rattle.cmd_page.specs.declared.answers.answers.Subject.{Subject}
use Rattle.cmd_page.specs.declared.marks.pairs.RaceRange.{RaceRange}
use Rattle.cmd_page.specs.Answers.Answering.{plus, AreAnswers}
use Rattle.cmd_page.specs.Marks.Marking.{AreMarks}

-- a race by the names of its messages, as `mscview races` lists it without the end of the line: INSTANCE: RECEIVE may
-- come before RANGE. If the verdict is known, ; WORD follows
abbrev pub listed_text : List (List ℕ) → List Event → EventNo → EventRange → Option Verdict → List ℕ
listed_text names events receive range None = race_text names events receive range
listed_text names events receive range (Some verdict) = judged_text names events receive (record { range = range; verdict = verdict })

abbrev pub title_text : List (List ℕ) → List Event → RaceRange → List ℕ
title_text names events race = listed_text names events race.receive race.earlier race.verdict

-- the question about a race: it is about the receive and the first of its earlier events, and the message that removes
-- the race is about the last. `above` counts the lines above the rows in the output of `why`
pub record IsSubject (bytes : List ℕ) (names : List (List ℕ)) (events : List Event) (race : RaceRange) (above : ℕ)
    (of : Subject) : Type 0 where
  pub file : of.bytes.now ≡ bytes
  pub called : of.names.now ≡ names
  pub instance : of.instance ≡ race.receive.instance
  pub line : of.events.now ≡ events
  pub name : of.asked.instance.now ≡ name_at names race.receive.instance
  pub first : of.asked.earlier ≡ race.earlier.first.index
  pub second : of.asked.receive ≡ race.receive.index
  pub earlier : of.earlier ≡ race.earlier.first.index
  pub last : of.last ≡ last_of race.earlier
  pub receive : of.receive ≡ race.receive.index
  pub rows : of.above ≡ above

-- the explanation is that of this race
abbrev pub IsAnswered : List ℕ → List (List ℕ) → List Event → RaceRange → ℕ → Answers → Type 0
IsAnswered bytes names events race above answers =
    (of : Subject) × IsSubject bytes names events race above of × AreAnswers of answers

-- the explanation is there, or it isn't
abbrev pub HasAnswers : Bool → List ℕ → List (List ℕ) → List Event → RaceRange → ℕ → Option Answers → Type 0
HasAnswers false bytes names events race above None = Unit {0}
HasAnswers false bytes names events race above (Some answers) = ⊥
HasAnswers true bytes names events race above None = ⊥
HasAnswers true bytes names events race above (Some answers) = IsAnswered bytes names events race above answers

-- a race of a chart's page
pub record IsPageRace (explained : Bool) (bytes : List ℕ) (named : Named) (of : RaceRange) (race : Race) : Type 0 where
  pub receive : race.receive ≡ of.receive
  pub first : race.first ≡ of.earlier.first.index
  pub last : race.last ≡ last_of of.earlier
  pub marks : AreMarks (length named.1) (chart_lines named.1) of.receive race.before.items race.also.items
  pub line : race.line.items ≡ title_text named.0 (chart_lines named.1 of.receive.instance) of
  pub answers : HasAnswers explained bytes named.0 (chart_lines named.1 of.receive.instance) of
      (plus (length race.before.items) (length race.also.items)) race.answers

-- the first n races of a page. The first `explained` are described in full
pub record AreFirst (bytes : List ℕ) (named : Named) (explained : ℕ) (of : List RaceRange) (n : ℕ) (races : List Race) : Type 0 where
  pub whole : length races ≡ n
  pub each : (place : ℕ) (race : Race) → slice_get races place ≡ Some race → (pair : RaceRange)
      → slice_get of place ≡ Some pair → IsPageRace (nat_lt place explained) bytes named pair race

-- all races of a page
abbrev pub AreRaces : List ℕ → Named → ℕ → List RaceRange → List Race → Type 0
AreRaces bytes named explained of races = AreFirst bytes named explained of (length of) races
