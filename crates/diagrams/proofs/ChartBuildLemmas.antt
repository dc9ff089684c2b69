-- A diagram's chart, made from its parts.
use Rattle.std.proofs.Common.{◌≡◌, ℕ, ◌+◌, ◌≤◌, List, [], ◌∷◌, ◌++◌, Result, Ok, Bool, true, false, ◌||◌, length, map, refl, sym, ap, ◌∙◌, arith}
use Rattle.std.specs.Prelude.{nat_lt}
use Rattle.std.proofs.lemmas.Bool.{ltb-false}
use Rattle.std.proofs.lemmas.List.{length-append}
use Rattle.chart.specs.Charts.{LineView}
use Rattle.chart.specs.declared.instance.TheConstants.{MAX_INSTANCES}
use Rattle.diagram_labels.specs.Giving.{called}
use Rattle.diagram_labels.specs.Labels.{none}
use Rattle.diagram_labels.specs.Spelling.{spelled}
use Rattle.diagrams.specs.Collecting.{CollectedView, collected}
use Rattle.diagrams.specs.Diagrams.{ParticipantView, ItemView, DiagramView, participant_view}
use Rattle.diagrams.specs.Building.{DiagramChartView, staying, chart_built, built_by, has_no_chart, built, Fails, ◌>>=◌}
use Rattle.diagram_labels.specs.Renaming.{renamed_from}
use Rattle.diagrams.specs.Naming.{names_from, named_from, labels_from}
use Rattle.diagrams.specs.Messages.Lines.{lines_from}
use Rattle.diagrams.specs.Messages.Turns.{all_ends}
use Rattle.diagrams.specs.declared.diagram.Participant.{Participant}
use Rattle.diagrams.specs.declared.built.BuildError.{BuildError}
use Rattle.diagrams.specs.declared.built.BuildError.TheVariants.{Memory, Instances, LineFull, NotPossible}
use Rattle.diagrams.specs.declared.left_out.LeftOut.{LeftOut}
use Rattle.diagrams.specs.declared.message.Message.{Message}
use Rattle.diagrams.proofs.MessagesLemmas.LinesLemmas.{length-lines}

-- the first step that fails decides
fails_first : {A B : Type 0} (error : BuildError) (r : Result A BuildError) (f : A → Result B BuildError) → Fails error r → Fails error (r >>= f)
fails_first Memory r f h = tt
fails_first Instances r f h = ap (λ s. s >>= f) h
fails_first (LineFull line) r f h = ap (λ s. s >>= f) h
fails_first (NotPossible line) r f h = ap (λ s. s >>= f) h

-- the participants' labels
pub labels_seen : (participants : List Participant) → map (λ (p : ParticipantView). p.label) (map participant_view participants) ≡ map (λ (p : Participant). p.label.items) participants
labels_seen [] = refl
labels_seen (p ∷ participants) = ap (λ labels. p.label.items ∷ labels) (labels_seen participants)

-- a chart and the names to report, from their parts
pub built_parts : (participants : List Participant) (items : List ItemView) (names : List (List ℕ)) (messages : List Message) (left_out : List LeftOut)
    (lines : List LineView) (renames : List (List ℕ × List ℕ))
    → lines ≡ lines_from (all_ends (named_from none items messages)) 1 (length names)
    → renames ≡ renamed_from (renamed_from [] (map (λ (p : Participant). p.label.items) participants) names) (labels_from none items messages).labels (labels_from none items messages).names
    → record { names = names; lines = lines; left_out = left_out; renamed = renames } ≡ chart_built (map participant_view participants) items names (messages, left_out)
unfolding chart_built
built_parts participants items names messages left_out lines renames e f = rw (e, f, labels_seen participants) refl

-- each line has a name
pub as_many_names : (v : DiagramChartView) (participants : List ParticipantView) (items : List ItemView) (names : List (List ℕ)) (stay : List Message × List LeftOut)
    → v ≡ chart_built participants items names stay → length v.names ≡ length v.lines
unfolding chart_built
as_many_names v participants items names stay is =
    ap (λ (w : DiagramChartView). length w.names) is ∙ sym (length-lines (all_ends (named_from none items stay.0)) 1 (length names)) ∙ sym (ap (λ (w : DiagramChartView). length w.lines) is)

-- the number of participants of a chart
pub has_chart : (n : ℕ) → has_no_chart n ≡ false → (2 ≤ n) × (n ≤ MAX_INSTANCES)
has_chart n has = go (nat_lt n 2) (nat_lt MAX_INSTANCES n) refl refl has
  where
    go : (few many : Bool) → nat_lt n 2 ≡ few → nat_lt MAX_INSTANCES n ≡ many → few || many ≡ false → (2 ≤ n) × (n ≤ MAX_INSTANCES)
    go true many e f h = absurd (cc h)
    go false true e f h = absurd (cc h)
    go false false e f h = (ltb-false n 2 e, ltb-false MAX_INSTANCES n f)

-- each participant has a name
pub length-names : (names : List (List ℕ)) (participants : List ParticipantView) → length (names_from names participants) ≡ length names + length participants
unfolding names_from
length-names names [] = omega arith
length-names names (p ∷ participants) =
    let name = called names (spelled p.label) in
    omega (arith, length-names (names ++ name ∷ []) participants, length-append names (name ∷ []))

-- a diagram's chart, step by step
pub build_steps : (d : DiagramView) (names : List (List ℕ)) (c : CollectedView) (stay : List Message × List LeftOut)
    → has_no_chart (length d.participants) ≡ false → names ≡ names_from [] d.participants → c ≡ collected names d.items d.left_out
    → staying c.fault c.messages c.left_out ≡ Ok stay → built d ≡ Ok (chart_built d.participants d.items names stay)
unfolding built built_by
build_steps d names c stay several e f g = rw (several, sym e, sym f, g) refl

pub build_refused : (error : BuildError) (d : DiagramView) (names : List (List ℕ)) (c : CollectedView)
    → has_no_chart (length d.participants) ≡ false → names ≡ names_from [] d.participants → c ≡ collected names d.items d.left_out
    → Fails error (staying c.fault c.messages c.left_out) → Fails error (built d)
unfolding built built_by
build_refused error d names c several e f g = rw (several, sym e, sym f) (fails_first error (staying c.fault c.messages c.left_out) _ g)
