-- Arcs: the items of a row (mscgen 0.20's documentation on arcs, boxes and broadcasts).
use Rattle.std.specs.Prelude.{ℕ, Bool, List, [], ◌∷◌, Option, None, Some, Result, Ok, Err, option_map}
use Rattle.diagram_mscgen.specs.Grammar.Attributes.{AttributesView, attributes_in}
use Rattle.diagram_mscgen.specs.Grammar.Reading.{Tokens, ◌>>=◌, or_stop, skip_mark, skip_spacer, name_in, end_in}
use Rattle.diagram_mscgen.specs.Grammar.Tokens.{KindView, Word, Text, Sign, Spacer, Mark, Unknown, TokenView}
use Rattle.diagram_mscgen.specs.Grammar.Words.{box_of}
use Rattle.diagram_mscgen.specs.declared.grammar.arc.Arc.{Arc}
use Rattle.diagram_mscgen.specs.declared.grammar.arc.ArcKind.{ArcKind}
use Rattle.diagram_mscgen.specs.declared.grammar.arc.ArcKind.TheVariants as arcs
use Rattle.diagram_mscgen.specs.declared.grammar.arc.Ends.{Ends}
use Rattle.texts.specs.declared.bytes.place.Place.{Place}
use Rattle.diagram_mscgen.specs.declared.grammar.relation.Relation.{Relation}
use Rattle.diagram_mscgen.specs.declared.grammar.relation.Relation.TheVariants as relations

-- the kind of an arc, and the entities from which and to which it goes
abbrev pub EndsView : Type 0
EndsView = ArcKind × List ℕ × List ℕ

abbrev pub ends_view : Ends → EndsView
ends_view e = (e.kind, e.from.now, e.to.now)

-- an arc, its place, and whether its row ends after it
pub record ArcView : Type 0 where
  pub kind : ArcKind
  pub from : List ℕ
  pub to : List ℕ
  pub label : Option (List ℕ)
  pub skip : ℕ
  pub ends_row : Bool
  pub place : Place

abbrev pub arc_view : Arc → ArcView
arc_view a = record {
  kind = a.kind;
  from = a.from.now;
  to = a.to.now;
  label = option_map (λ label. label.now) a.label;
  skip = a.skip;
  ends_row = a.ends_row;
  place = a.place;
}

-- an arc between the entity before the relation and the one after it
abbrev pub ends_of : Relation → List ℕ → List ℕ → EndsView
ends_of relations.To first second = (arcs.Message, first, second)
ends_of relations.From first second = (arcs.Message, second, first)
ends_of relations.LostTo first second = (arcs.Lost, first, second)
ends_of relations.LostFrom first second = (arcs.Lost, second, first)
ends_of relations.Both first second = (arcs.Both, first, second)
ends_of relations.Line first second = (arcs.Line, first, second)
ends_of relations.Box first second = (arcs.Box, first, second)
ends_of relations.Note first second = (arcs.Note, first, second)

-- an arc to `*`
abbrev pub forth_to_all : Relation → Option ArcKind
forth_to_all relations.To = Some arcs.Broadcast
forth_to_all relations.LostTo = Some arcs.LostBroadcast
forth_to_all relations.From = None
forth_to_all relations.LostFrom = None
forth_to_all relations.Both = None
forth_to_all relations.Line = None
forth_to_all relations.Box = None
forth_to_all relations.Note = None

-- an arc back to `*`
abbrev pub back_to_all : Relation → Option ArcKind
back_to_all relations.From = Some arcs.Broadcast
back_to_all relations.LostFrom = Some arcs.LostBroadcast
back_to_all relations.To = None
back_to_all relations.LostTo = None
back_to_all relations.Both = None
back_to_all relations.Line = None
back_to_all relations.Box = None
back_to_all relations.Note = None

-- the relation of a token, if it has one
abbrev pub relation_of : KindView → Option Relation
relation_of (Sign relation) = Some relation
relation_of (Word bytes) = box_of bytes
relation_of (Text bytes) = None
relation_of (Mark byte) = None
relation_of Spacer = None
relation_of Unknown = None

abbrev pub relation_by : Option Relation → TokenView → Tokens → Result (Relation × Tokens) Tokens
relation_by None t ts = Err (t ∷ ts)
relation_by (Some relation) t ts = Ok (relation, ts)

-- the relation that has to come next
unfoldable pub relation_in : Tokens → Result (Relation × Tokens) Tokens
relation_in [] = Err []
relation_in (t ∷ ts) = relation_by (relation_of t.kind) t ts

abbrev pub partner_by : List ℕ → Relation → Tokens → Option Tokens → Result (EndsView × Tokens) Tokens
partner_by first relation tokens None = do
  second ← name_in tokens
  Ok (ends_of relation first second.0, second.1)
partner_by first relation tokens (Some rest) = do
  kind ← or_stop tokens (forth_to_all relation)
  Ok ((kind, first, []), rest)

-- the rest of an arc after its first entity and its relation: an entity or `*`
unfoldable pub partner_in : List ℕ → Relation → Tokens → Result (EndsView × Tokens) Tokens
partner_in first relation tokens = partner_by first relation tokens (skip_mark 42 tokens)

-- an arc that begins with an entity
unfoldable pub pair_in : Tokens → Result (EndsView × Tokens) Tokens
pair_in tokens = do
  first ← name_in tokens
  relation ← relation_in first.1
  partner_in first.0 relation.0 relation.1

-- the rest of an arc after its `*`
unfoldable pub all_in : Tokens → Result (EndsView × Tokens) Tokens
all_in tokens = do
  relation ← relation_in tokens
  kind ← or_stop tokens (back_to_all relation.0)
  from ← name_in relation.1
  Ok ((kind, from.0, []), from.1)

abbrev pub star_or_pair : Tokens → Option Tokens → Result (EndsView × Tokens) Tokens
star_or_pair tokens None = pair_in tokens
star_or_pair tokens (Some rest) = all_in rest

abbrev pub ends_by : Tokens → Option Tokens → Result (EndsView × Tokens) Tokens
ends_by tokens None = star_or_pair tokens (skip_mark 42 tokens)
ends_by tokens (Some rest) = Ok ((arcs.Spacer, [], []), rest)

-- an arc without its attributes
unfoldable pub ends_in : Tokens → Result (EndsView × Tokens) Tokens
ends_in tokens = ends_by tokens (skip_spacer tokens)

abbrev pub arc_of : EndsView → AttributesView → Bool → Place → ArcView
arc_of ends attributes ends_row place = record {
  kind = ends.0;
  from = ends.1;
  to = ends.2;
  label = attributes.0;
  skip = attributes.1;
  ends_row = ends_row;
  place = place;
}

-- an arc with its attributes and its end
unfoldable pub arc_in : Tokens → Result (ArcView × Tokens) Tokens
arc_in [] = Err []
arc_in (t ∷ ts) = do
  ends ← ends_in (t ∷ ts)
  attributes ← attributes_in ends.1
  end ← end_in attributes.1
  Ok (arc_of ends.0 attributes.0 end.0 t.place, end.1)
