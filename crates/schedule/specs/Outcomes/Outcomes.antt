-- Outcomes of schedules.
use Rattle.std.specs.Prelude.{◌≡◌, ℕ, ◌≤◌, ◌==◌, List, length, filter, All, AllPairs}
use Rattle.chart.specs.Words.{Name}
use Rattle.chart.specs.Charts.{LineView, IsPossible, chart_lines}
use Rattle.chart.specs.HistoryLines.{history_lines}
use Rattle.chart.specs.Reports.{ReportView, AreReports}
use Rattle.schedule.specs.declared.command.Note.{Note}
use Rattle.schedule.specs.Plans.{Plan, IsPlan, IsNumbered}
use Rattle.schedule.specs.Meaning.{meaning}

-- the instances' names, the chart's lines, the reports of its receives, and the notes
pub record OutcomeView : Type 0 where
  pub names : List Name
  pub chart : List LineView
  pub reports : List ReportView
  pub notes : List Note

-- what holds of each outcome: its chart has a line for each name, and the reports are those of its receives
pub record FitTogether (names : List Name) (lines : List LineView) (reports : List ReportView) : Type 0 where
  pub as_many : length names ≡ length lines
  pub exact : AreReports lines reports

-- the notes sorted by line: those of each line stay in the order in which they came
pub record AreByLine (came listed : List Note) : Type 0 where
  pub rising : AllPairs (λ a b. a.line ≤ b.line) listed
  pub same : (line : ℕ) → filter (λ note. note.line == line) listed ≡ filter (λ note. note.line == line) came

-- the outcome of a plan: the chart of the history that its commands make, each of its receives with its report, and the
-- notes by line
pub record IsOutcome (plan : Plan) (o : OutcomeView) : Type 0 where
  pub names : o.names ≡ plan.names
  pub chart : o.chart ≡ history_lines (length plan.names) (meaning plan).run.history
  pub reports : AreReports o.chart o.reports
  pub notes : AreByLine (meaning plan).notes o.notes

-- a plan has only one outcome
abbrev pub OneOutcomeLaw : Type 0
OneOutcomeLaw = (plan : Plan) (a b : OutcomeView) → IsOutcome plan a → IsOutcome plan b → a ≡ b

-- the chart of a plan's outcome is one that some run has
abbrev pub PossibleOutcomeLaw : Type 0
PossibleOutcomeLaw = (plan : Plan) (o : OutcomeView) → IsPlan plan → All IsNumbered plan.commands → IsOutcome plan o
    → IsPossible (length o.names) (chart_lines o.chart)
