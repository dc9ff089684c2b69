-- The chart of a diagram whose lines are joined, and the names to report.
use Rattle.std.specs.Prelude.{ℕ, nat_lt, List, [], ◌∷◌, length, Option, None, Some, Result, Ok, Err, if◌then◌else◌}
use Rattle.diagram_labels.specs.Labels.{none}
use Rattle.diagrams.specs.Messages.Lines.{lines_from}
use Rattle.diagrams.specs.Messages.Turns.{all_ends}
use Rattle.diagrams.specs.Collecting.{CollectedView, collected}
use Rattle.diagrams.specs.Crossing.{fault_from}
use Rattle.diagrams.specs.Diagrams.{ParticipantView, ItemView, DiagramView}
use Rattle.diagrams.specs.Building.{◌>>=◌, DiagramChartView, diagram_chart_view, renamed, has_no_chart, built}
use Rattle.diagrams.specs.Full.{full_from}
use Rattle.diagrams.specs.Naming.{names_from, labels_from, named_from}
use Rattle.diagrams.specs.declared.built.BuildError.{BuildError}
use Rattle.diagrams.specs.declared.built.BuildError.TheVariants as build
use Rattle.diagrams.specs.declared.message.Message.{Message}
use Rattle.diagram_join.specs.Coregions.{cut_from}
use Rattle.diagram_join.specs.Joined.{JoinedView, joined}
use Rattle.diagram_join.specs.Joins.{JoinView}
use Rattle.diagram_join.specs.declared.building.JoinedChart.{JoinedChart}
use Rattle.diagram_join.specs.declared.error.JoinError.{JoinError}
use Rattle.diagram_join.specs.declared.error.JoinError.TheVariants.{Memory, Instances, NotPossible, LineFull}
use Rattle.diagram_join.specs.declared.moves.Overtaking.{Overtaking}

-- the chart, and the messages that are skipped because they overtake another one
pub record JoinedChartView : Type 0 where
  pub built : DiagramChartView
  pub overtaking : List Overtaking

abbrev pub joined_chart_view : JoinedChart → JoinedChartView
joined_chart_view d = record { built = diagram_chart_view d.built; overtaking = d.overtaking.items }

-- the same refusal, for a diagram whose lines may be joined
abbrev pub join_error : BuildError → JoinError
join_error build.Memory = Memory
join_error build.Instances = Instances
join_error (build.LineFull line) = LineFull line
join_error (build.NotPossible line) = NotPossible line

-- without joins no message overtakes
abbrev pub alone : Result DiagramChartView BuildError → Result JoinedChartView JoinError
alone (Ok v) = Ok (record { built = v; overtaking = [] })
alone (Err e) = Err (join_error e)

-- x, unless a line of the text is refused
abbrev pub unless : {A : Type 0} → (ℕ → JoinError) → Option ℕ → A → Result A JoinError
unless refusal None x = Ok x
unless refusal (Some line) x = Err (refusal line)

-- No two messages of the diagram cross, even if joining skips one of them. No instance has too many events, and there
-- are at least two instances.
unfoldable pub checked : Option ℕ → List Message → JoinedView → Result JoinedView JoinError
checked fault messages j = do
  sound ← unless NotPossible (fault_from fault [] messages) j
  few ← unless LineFull (full_from [] j.messages) j
  if nat_lt (length j.names) 2 then Err Instances else Ok j

-- The chart of the messages that stay, between the instances. Each row is cut into as many as there are messages. The
-- names to report are those of the lines and of the messages.
unfoldable pub joined_chart_of : List ParticipantView → List ItemView → List (List ℕ) → JoinedView → JoinedChartView
joined_chart_of participants items lines j = record {
  built = record {
    names = j.names;
    lines = lines_from (all_ends (named_from none items (cut_from j.messages 0 j.messages))) 1 (length j.names);
    left_out = j.left_out;
    renamed = renamed participants lines (labels_from none items (cut_from j.messages 0 j.messages));
  };
  overtaking = j.overtaking;
}

-- the chart, from the names of the lines and the collected messages
unfoldable pub joined_by : DiagramView → List JoinView → List (List ℕ) → CollectedView → Result JoinedChartView JoinError
joined_by d joins lines c = do
  j ← joined d.participants lines joins c.messages c.left_out
  all ← checked c.fault c.messages j
  Ok (joined_chart_of d.participants d.items lines all)

abbrev pub joined_named : DiagramView → List JoinView → List (List ℕ) → Result JoinedChartView JoinError
joined_named d joins lines = joined_by d joins lines (collected lines d.items d.left_out)

-- the chart of a diagram with these lines joined, or its refusal
unfoldable pub lines_joined : DiagramView → List JoinView → Result JoinedChartView JoinError
lines_joined d joins = if has_no_chart (length d.participants) then Err Instances else joined_named d joins (names_from [] d.participants)

-- without joins, the diagram's own chart
unfoldable pub built_joined : DiagramView → List JoinView → Result JoinedChartView JoinError
built_joined d [] = alone (built d)
built_joined d (j ∷ joins) = lines_joined d (j ∷ joins)
