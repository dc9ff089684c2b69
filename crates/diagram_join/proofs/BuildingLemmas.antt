-- The chart of a diagram whose lines are joined: its parts, and its steps.
use Rattle.std.proofs.Common.{◌≡◌, ℕ, ◌<◌, ◌≤◌, List, [], ◌∷◌, Result, Ok, false, length, map, refl, sym, ap, arith}
use Rattle.chart.specs.Charts.{LineView}
use Rattle.diagram_labels.specs.Labels.{none}
use Rattle.diagrams.specs.Messages.Lines.{lines_from}
use Rattle.diagrams.specs.Messages.Turns.{all_ends}
use Rattle.diagrams.proofs.MessagesLemmas.LinesLemmas.{length-lines}
use Rattle.diagrams.specs.Collecting.{CollectedView, collected}
use Rattle.diagrams.specs.Diagrams.{ParticipantView, ItemView, DiagramView, participant_view}
use Rattle.diagrams.specs.Building.{◌>>=◌, has_no_chart, built}
use Rattle.diagram_labels.specs.Renaming.{renamed_from}
use Rattle.diagrams.specs.Naming.{names_from, labels_from, named_from}
use Rattle.diagrams.specs.declared.diagram.Participant.{Participant}
use Rattle.diagrams.proofs.ChartBuildLemmas.{labels_seen}
use Rattle.diagram_join.specs.Coregions.{cut_from}
use Rattle.diagram_join.specs.Building.{JoinedChartView, alone, checked, joined_chart_of, joined_by, lines_joined, built_joined}
use Rattle.diagram_join.specs.Joined.{JoinedView, joined, Fails}
use Rattle.diagram_join.specs.Joins.{JoinView}
use Rattle.diagram_join.specs.declared.error.JoinError.{JoinError}
use Rattle.diagram_join.specs.declared.error.JoinError.TheVariants.{Memory, NoSuchLine, Taken, Instances, NotPossible, LineFull}

-- a chart and the names to report, from their parts
pub built_parts : (participants : List Participant) (items : List ItemView) (lines : List (List ℕ)) (j : JoinedView) (chart : List LineView) (overtakings : List (List ℕ × List ℕ))
    → chart ≡ lines_from (all_ends (named_from none items (cut_from j.messages 0 j.messages))) 1 (length j.names)
    → overtakings ≡ renamed_from (renamed_from [] (map (λ (p : Participant). p.label.items) participants) lines)
    (labels_from none items (cut_from j.messages 0 j.messages)).labels (labels_from none items (cut_from j.messages 0 j.messages)).names
    → record { built = record { names = j.names; lines = chart; left_out = j.left_out; renamed = overtakings }; overtaking = j.overtaking } ≡ joined_chart_of (map participant_view participants) items lines j
unfolding joined_chart_of
built_parts participants items lines j chart overtakings e f = rw (e, f, labels_seen participants) refl

-- each line has a name
pub as_many_names : (v : JoinedChartView) (participants : List ParticipantView) (items : List ItemView) (lines : List (List ℕ)) (j : JoinedView)
    → v ≡ joined_chart_of participants items lines j → length v.built.names ≡ length v.built.lines
unfolding joined_chart_of
as_many_names v participants items lines j is = rw is (sym (length-lines (all_ends (named_from none items (cut_from j.messages 0 j.messages))) 1 (length j.names)))

-- the first step that fails decides
fails_first : {A B : Type 0} (error : JoinError) (r : Result A JoinError) (f : A → Result B JoinError) → Fails error r → Fails error (r >>= f)
fails_first Memory r f h = tt
fails_first NoSuchLine r f h = ap (λ s. s >>= f) h
fails_first (Taken line) r f h = ap (λ s. s >>= f) h
fails_first Instances r f h = ap (λ s. s >>= f) h
fails_first (NotPossible line) r f h = ap (λ s. s >>= f) h
fails_first (LineFull line) r f h = ap (λ s. s >>= f) h

-- the chart, step by step
pub build_steps : (d : DiagramView) (joins : List JoinView) (lines : List (List ℕ)) (c : CollectedView) (j : JoinedView)
    → has_no_chart (length d.participants) ≡ false → lines ≡ names_from [] d.participants → c ≡ collected lines d.items d.left_out
    → joined d.participants lines joins c.messages c.left_out ≡ Ok j → checked c.fault c.messages j ≡ Ok j
    → lines_joined d joins ≡ Ok (joined_chart_of d.participants d.items lines j)
unfolding lines_joined joined_by
build_steps d joins lines c j several e f g h = rw (several, sym e, sym f, g, h) refl

pub join_refused : (error : JoinError) (d : DiagramView) (joins : List JoinView) (lines : List (List ℕ)) (c : CollectedView)
    → has_no_chart (length d.participants) ≡ false → lines ≡ names_from [] d.participants → c ≡ collected lines d.items d.left_out
    → Fails error (joined d.participants lines joins c.messages c.left_out) → Fails error (lines_joined d joins)
unfolding lines_joined joined_by
join_refused error d joins lines c several e f g = rw (several, sym e, sym f) (fails_first error (joined d.participants lines joins c.messages c.left_out) _ g)

pub check_refused : (error : JoinError) (d : DiagramView) (joins : List JoinView) (lines : List (List ℕ)) (c : CollectedView) (j : JoinedView)
    → has_no_chart (length d.participants) ≡ false → lines ≡ names_from [] d.participants → c ≡ collected lines d.items d.left_out
    → joined d.participants lines joins c.messages c.left_out ≡ Ok j → Fails error (checked c.fault c.messages j) → Fails error (lines_joined d joins)
unfolding lines_joined joined_by
check_refused error d joins lines c j several e f g h = rw (several, sym e, sym f, g) (fails_first error (checked c.fault c.messages j) _ h)

-- with or without joins
pub without_joins : {A : Type 0} (f : A → JoinView) (d : DiagramView) (joins : List A) → length joins < 1 → built_joined d (map f joins) ≡ alone (built d)
unfolding built_joined
without_joins f d [] few = refl
without_joins f d (j ∷ joins) few = absurd (omega (arith, few))

pub with_joins : {A : Type 0} (f : A → JoinView) (d : DiagramView) (joins : List A) → 1 ≤ length joins → built_joined d (map f joins) ≡ lines_joined d (map f joins)
unfolding built_joined
with_joins f d [] some = absurd (omega (arith, some))
with_joins f d (j ∷ joins) some = refl
