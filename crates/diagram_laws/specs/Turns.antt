-- Whose turn it is in the runs of charts: those of histories, of a diagram's rows, and of a schedule's commands.
use Rattle.std.specs.Prelude.{◌≡◌, ◌≢◌, ℕ, List, [], ◌∷◌, ◌++◌, Ok, All}
use Rattle.chart.specs.Charts.{chart_lines}
use Rattle.chart.specs.Histories.{IsLegal, chart_of}
use Rattle.chart.specs.declared.history.Occurrence.{Occurrence}
use Rattle.chart.specs.declared.history.Occurrence.TheVariants.{Send, Receive, Close}
use Rattle.chart_layout.specs.KeptTurns.Runs.{IsRun}
use Rattle.diagrams.specs.Diagrams.{DiagramView}
use Rattle.diagrams.specs.Messages.Each.{Pairs}
use Rattle.diagram_join.specs.Building.{JoinedChartView, built_joined}
use Rattle.diagram_join.specs.Joins.{JoinView}
use Rattle.diagram_join.specs.Turns.Diagrams.{turns_in}
use Rattle.schedule.specs.Outcomes.Outcomes.{OutcomeView, IsOutcome}
use Rattle.schedule.specs.Plans.{Plan, IsPlan, IsNumbered}
use Rattle.schedule.specs.Turns.Turns.{turns_of}

-- the instances of a history's events, from the first on; a close is no event
unfoldable pub history_turns : List Occurrence → List ℕ
history_turns [] = []
history_turns (Send p q m ∷ h) = history_turns h ++ p ∷ []
history_turns (Receive p q c ∷ h) = history_turns h ++ p ∷ []
history_turns (Close p q ∷ h) = history_turns h

-- the turns of a legal history are those of a run of its chart
abbrev pub HistoryTurnsLaw : Type 0
HistoryTurnsLaw = (n k : ℕ) (h : List Occurrence) → IsLegal n k h → IsRun (chart_of h) (history_turns h)

-- the turns of a diagram, whose lines may be joined, are those of a run of its chart
abbrev pub DiagramTurnsLaw : Type 0
DiagramTurnsLaw = (d : DiagramView) (joins : List JoinView) (v : JoinedChartView) → built_joined d joins ≡ Ok v
    → IsRun (chart_lines v.built.lines) (turns_in d joins)

-- the turns of a schedule whose commands are on different lines are those of a run of its outcome's chart
abbrev pub ReplayTurnsLaw : Type 0
ReplayTurnsLaw = (plan : Plan) (o : OutcomeView) → IsPlan plan → All IsNumbered plan.commands
    → Pairs (λ c d. c.line ≢ d.line) plan.commands → IsOutcome plan o
    → IsRun (chart_lines o.chart) (turns_of plan.commands o.notes)
