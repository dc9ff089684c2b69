-- The participants of a chart: its entities, each by its first statement. An entity whose word an earlier one has is
-- skipped.
use Rattle.std.specs.Prelude.{◌≡◌, ℕ, List, [], ◌∷◌, ◌++◌, length, Option, None, Some, Result, Ok, Err, position, nat_lt, bytes_eq, unwrap_or, if◌then◌else◌}
use Rattle.chart.specs.declared.instance.TheConstants.{MAX_INSTANCES}
use Rattle.diagrams.specs.Diagrams.{ParticipantView}
use Rattle.diagrams.specs.LeftOuts.{with_one}
use Rattle.diagrams.specs.declared.left_out.Kind.TheVariants as kinds
use Rattle.diagrams.specs.declared.left_out.LeftOut.{LeftOut}
use Rattle.diagrams.specs.declared.place.Place.{Place}
use Rattle.diagram_mscgen.specs.Grammar.Charts.{EntityView}
use Rattle.texts.specs.declared.bytes.place.Place as tokens
use Rattle.diagram_mscgen.specs.declared.reading.error.Fault.TheVariants.{Instances}
use Rattle.diagram_mscgen.specs.declared.reading.error.ReadError.{ReadError}
use Rattle.diagram_mscgen.specs.declared.reading.error.ReadError.TheVariants as errors
use Rattle.diagram_mscgen.specs.Reading.Texts.{text_of}

-- the place of a token, as a place of a diagram
abbrev pub place_of : tokens.Place → Place
place_of p = record { line = p.line; column = p.column }

-- the participants so far with their words, and the skipped constructs
pub record KnownView : Type 0 where
  pub words : List (List ℕ)
  pub participants : List ParticipantView
  pub left_out : List LeftOut

-- the place of the participant with this word
abbrev pub known_at : List (List ℕ) → List ℕ → Option ℕ
known_at words word = position (λ known. bytes_eq known word) words

-- the participant of an entity: its label is the attribute, or otherwise its word
abbrev pub participant_of : EntityView → ParticipantView
participant_of e = record { label = text_of (unwrap_or e.label e.word); line = e.place.line }

abbrev pub with_new : EntityView → KnownView → KnownView
with_new e k = record {
  words = k.words ++ e.word ∷ [];
  participants = k.participants ++ participant_of e ∷ [];
  left_out = k.left_out;
}

abbrev pub with_again : EntityView → KnownView → KnownView
with_again e k = record k { left_out = with_one k.left_out kinds.Participant (place_of e.place) }

abbrev pub with_entity_by : EntityView → KnownView → Option ℕ → Option KnownView
with_entity_by e k (Some p) = Some (with_again e k)
with_entity_by e k None = if nat_lt (length k.words) MAX_INSTANCES then Some (with_new e k) else None

-- one more entity, unless there are more participants than instances in a chart
unfoldable pub with_entity : EntityView → KnownView → Option KnownView
with_entity e k = with_entity_by e k (known_at k.words e.word)

abbrev pub with_others : (KnownView → Option KnownView) → Option KnownView → Option KnownView
with_others others None = None
with_others others (Some k) = others k

abbrev pub with_entities : List EntityView → KnownView → Option KnownView
with_entities [] k = Some k
with_entities (e ∷ es) k = with_others (with_entities es) (with_entity e k)

abbrev pub none_known : KnownView
none_known = record { words = []; participants = []; left_out = [] }

-- the participants of a chart
unfoldable pub known_of : List EntityView → Option KnownView
known_of entities = with_entities entities none_known

-- the result, seen through view, is the defined one, unless there are too many participants, or memory ran out
abbrev pub Knows : {X : Type 0} → (X → KnownView) → Result X ReadError → Option KnownView → Type 0
Knows view (Ok x) next = next ≡ Some (view x)
Knows view (Err errors.Memory) next = Unit {0}
Knows view (Err (errors.Fault fault)) next = (next ≡ None) × (fault ≡ Instances)
