-- What the chart of a diagram has: the arrows that it keeps, on the lanes between their instances, and counts of what it
-- lacks.
use Rattle.std.specs.Prelude.{◌≡◌, ℕ, suc, ◌+◌, ◌^◌, ◌<◌, ◌≤◌, List, [], ◌∷◌, length, map, filter, Ok}
use Rattle.chart.specs.Charts.{chart_lines}
use Rattle.diagrams.specs.Building.{DiagramChartView}
use Rattle.diagrams.specs.Diagrams.{ArrowView, DiagramView}
use Rattle.diagrams.specs.Messages.Each.{Each}
use Rattle.diagrams.specs.Naming.{names_from}
use Rattle.diagrams.specs.declared.left_out.Kind.{Kind}
use Rattle.diagrams.specs.declared.left_out.Kind.TheVariants as kinds
use Rattle.diagram_join.specs.Building.{JoinedChartView, built_joined}
use Rattle.diagram_join.specs.Joins.{JoinView, process_of}
use Rattle.diagram_join.specs.Joins as instances
use Rattle.diagram_join.specs.Moves.{instance_at}
use Rattle.diagram_join.specs.declared.moves.Overtaking.{Overtaking}
use Rattle.diagram_laws.specs.Arrows.{arrows_of, goes, arrives, across, overtaking, kept_arrows, named}
use Rattle.diagram_laws.specs.Counts.{count_of, skipped}
use Rattle.diagram_laws.specs.Lanes.{names_sent, names_received}
use Rattle.diagram_laws.specs.Plain.{StatesNone}

-- the name of each participant's instance: that of its join, or its own
abbrev pub processes_in : DiagramView → List JoinView → List (List ℕ)
processes_in d joins = map (process_of joins) (names_from [] d.participants)

-- the instance of a participant, which are counted from 0; without joins each participant is an instance
abbrev pub instance_in : DiagramView → List JoinView → ℕ → ℕ
instance_in d [] place = suc place
instance_in d (j ∷ joins) place =
    instance_at (instances.names_from [] (processes_in d (j ∷ joins))) (processes_in d (j ∷ joins)) (suc place)

-- the arrows that the diagram's chart keeps
abbrev pub kept_in : DiagramView → List JoinView → List ArrowView
kept_in d joins = kept_arrows (instance_in d joins) (arrows_of d.items)

-- the sends of an instance to another one are those of the kept arrows between them, in the order of the text, with
-- their names; and so are its receives. Since this is said of any number p, no event is of anything else
pub record HasArrows (d : DiagramView) (joins : List JoinView) (v : DiagramChartView) : Type 0 where
  pub sent : (q p : ℕ) → 1 ≤ q → q ≤ length v.names → names_sent p (chart_lines v.lines q)
      ≡ map (named (kept_in d joins)) (filter (goes (instance_in d joins) q p) (kept_in d joins))
  pub received : (q p : ℕ) → 1 ≤ p → p ≤ length v.names → names_received q (chart_lines v.lines p)
      ≡ map (named (kept_in d joins)) (filter (arrives (instance_in d joins) q p) (kept_in d joins))

-- the chart counts each construct of the diagram that it lacks, unless a count would be too large; and each arrow is
-- kept, counted or reported
pub record CountsRest (d : DiagramView) (joins : List JoinView) (v : JoinedChartView) : Type 0 where
  pub counted : (kind : Kind) → count_of kind d.left_out + length d.items < 2 ^ 64
      → count_of kind v.built.left_out ≡ count_of kind d.left_out + skipped (instance_in d joins) d.items kind
  pub reported : map (λ (o : Overtaking). o.place) v.overtaking
      ≡ map (λ (a : ArrowView). a.place)
      (overtaking (instance_in d joins) [] (across (instance_in d joins) (arrows_of d.items)))
  pub all : length (arrows_of d.items) ≡ length (kept_in d joins)
      + skipped (instance_in d joins) d.items kinds.LostMessage
      + skipped (instance_in d joins) d.items kinds.MessageWithin + length v.overtaking

-- A chart of a diagram whose notes state no events has exactly the kept arrows, and counts the rest.
abbrev pub ImportLaw : Type 0
ImportLaw = (d : DiagramView) (joins : List JoinView) (v : JoinedChartView) → built_joined d joins ≡ Ok v
    → Each (StatesNone (names_from [] d.participants)) d.items → HasArrows d joins v.built × CountsRest d joins v
