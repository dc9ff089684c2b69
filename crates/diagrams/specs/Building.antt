-- The chart of a diagram, and the names to report.
use Rattle.std.specs.Prelude.{◌≡◌, ℕ, Bool, ◌||◌, nat_lt, List, [], length, map, Option, None, Some, Result, Ok, Err, if◌then◌else◌}
use Rattle.chart.specs.Charts.{LineView}
use Rattle.chart.specs.declared.instance.TheConstants.{MAX_INSTANCES}
use Rattle.diagram_labels.specs.Labels.{Labelling, none}
use Rattle.diagram_labels.specs.Renaming.{renamed_view, renamed_from}
use Rattle.diagrams.specs.Collecting.{CollectedView, collected}
use Rattle.diagrams.specs.Crossing.{fault_from}
use Rattle.diagrams.specs.Diagrams.{ParticipantView, ItemView, DiagramView}
use Rattle.diagrams.specs.Full.{full_from}
use Rattle.diagrams.specs.Losing.{kept, with_lost}
use Rattle.diagrams.specs.Naming.{names_from, labels_from, named_from}
use Rattle.diagrams.specs.Messages.Lines.{lines_from}
use Rattle.diagrams.specs.Messages.Turns.{all_ends}
use Rattle.diagrams.specs.declared.built.BuildError.{BuildError}
use Rattle.diagrams.specs.declared.built.BuildError.TheVariants.{Memory, Instances, LineFull, NotPossible}
use Rattle.diagrams.specs.declared.built.DiagramChart.{DiagramChart}
use Rattle.diagrams.specs.declared.left_out.LeftOut.{LeftOut}
use Rattle.diagrams.specs.declared.message.Message.{Message}

infixl 10 ◌>>=◌
-- the next step, unless the diagram was refused
abbrev pub ◌>>=◌ : {A B E : Type 0} → Result A E → (A → Result B E) → Result B E
(Ok x) >>= f = f x
(Err e) >>= f = Err e

-- an error is the refusal, unless memory ran out
abbrev pub Fails : {Y : Type 0} → BuildError → Result Y BuildError → Type 0
Fails Memory read = Unit {0}
Fails Instances read = read ≡ Err Instances
Fails (LineFull line) read = read ≡ Err (LineFull line)
Fails (NotPossible line) read = read ≡ Err (NotPossible line)

-- the result, seen through view, is the defined one, unless memory ran out
abbrev pub Gives : {X Y : Type 0} → (X → Y) → Result X BuildError → Result Y BuildError → Type 0
Gives view (Ok x) read = read ≡ Ok (view x)
Gives view (Err e) read = Fails e read

-- the names to report: those of participants first, and then those of messages
abbrev pub renamed : List ParticipantView → List (List ℕ) → Labelling → List (List ℕ × List ℕ)
renamed participants names labels =
    renamed_from (renamed_from [] (map (λ p. p.label) participants) names) labels.labels labels.names

-- x, unless no chart is possible with some line
abbrev pub possible : {A : Type 0} → Option ℕ → A → Result A BuildError
possible None x = Ok x
possible (Some line) x = Err (NotPossible line)

-- x, unless an instance has too many events
abbrev pub within : {A : Type 0} → Option ℕ → A → Result A BuildError
within None x = Ok x
within (Some line) x = Err (LineFull line)

-- the collected messages that stay, and the skipped constructs
unfoldable pub staying : Option ℕ → List Message → List LeftOut → Result (List Message × List LeftOut) BuildError
staying fault messages left_out = do
  all ← possible (fault_from fault [] messages) messages
  within (full_from [] (kept messages)) (kept messages, with_lost left_out messages)

-- names and lines of a chart, the skipped constructs, and the names to report
pub record DiagramChartView : Type 0 where
  pub names : List (List ℕ)
  pub lines : List LineView
  pub left_out : List LeftOut
  pub renamed : List (List ℕ × List ℕ)

abbrev pub diagram_chart_view : DiagramChart → DiagramChartView
diagram_chart_view d = record { names = d.names; lines = d.chart; left_out = d.left_out.items; renamed = map renamed_view d.renamed.items }

-- the chart of the messages that stay
unfoldable pub chart_built : List ParticipantView → List ItemView → List (List ℕ) → List Message × List LeftOut → DiagramChartView
chart_built participants items names stay = record {
  names = names;
  lines = lines_from (all_ends (named_from none items stay.0)) 1 (length names);
  left_out = stay.1;
  renamed = renamed participants names (labels_from none items stay.0);
}

-- the chart of a diagram, from the names of its participants and its collected messages
unfoldable pub built_by : DiagramView → List (List ℕ) → CollectedView → Result DiagramChartView BuildError
built_by d names c = do
  stay ← staying c.fault c.messages c.left_out
  Ok (chart_built d.participants d.items names stay)

abbrev pub built_named : DiagramView → List (List ℕ) → Result DiagramChartView BuildError
built_named d names = built_by d names (collected names d.items d.left_out)

-- too few participants for a chart, or too many
abbrev pub has_no_chart : ℕ → Bool
has_no_chart n = nat_lt n 2 || nat_lt MAX_INSTANCES n

-- the chart of a diagram, or its refusal
unfoldable pub built : DiagramView → Result DiagramChartView BuildError
built d = if has_no_chart (length d.participants) then Err Instances else built_named d (names_from [] d.participants)
