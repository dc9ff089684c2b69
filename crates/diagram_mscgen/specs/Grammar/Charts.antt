-- A chart: options, entities and rows of arcs (mscgen 0.20's documentation of its language).
use Rattle.std.specs.Prelude.{ℕ, zero, suc, Bool, false, List, [], ◌∷◌, ◌++◌, codes, length, map, Option, None, Some, Result, Ok, Err, option_map, bytes_eq, if◌then◌else◌}
use Rattle.diagram_mscgen.specs.Grammar.Arcs.{ArcView, arc_in, arc_view}
use Rattle.diagram_mscgen.specs.Grammar.Attributes.{attributes_in}
use Rattle.diagram_mscgen.specs.Grammar.Reading.{Tokens, ◌>>=◌, behind_mark, skip_mark, is_mark, name_in, next_word, end_in}
use Rattle.diagram_mscgen.specs.Grammar.Words.{is_option}
use Rattle.diagram_mscgen.specs.declared.grammar.entity.Entity.{Entity}
use Rattle.diagram_mscgen.specs.declared.grammar.whole.Msc.{Msc}
use Rattle.texts.specs.declared.bytes.place.Place.{Place}

-- an entity: the word for it, its label, if it has one, and its place
pub record EntityView : Type 0 where
  pub word : List ℕ
  pub label : Option (List ℕ)
  pub place : Place

abbrev pub entity_view : Entity → EntityView
entity_view e = record { word = e.word.now; label = option_map (λ label. label.now) e.label; place = e.place }

-- a chart's entities and its arcs, in the order of the text
pub record MscView : Type 0 where
  pub entities : List EntityView
  pub arcs : List ArcView

abbrev pub msc_view : Msc → MscView
msc_view m = record { entities = map entity_view m.entities.items; arcs = map arc_view m.arcs.items }

abbrev pub option_by : Tokens → Option (List ℕ × Tokens) → Result Tokens Tokens
option_by tokens None = Err tokens
option_by tokens (Some word) = if is_option word.0 then Ok word.1 else Err tokens

-- an option: a name, `=`, a value and its end
unfoldable pub option_in : Tokens → Result (Bool × Tokens) Tokens
option_in tokens = do
  name ← option_by tokens (next_word tokens)
  rest ← behind_mark 61 name
  value ← name_in rest
  end_in value.1

abbrev pub options_by : (Tokens → Result Tokens Tokens) → Bool × Tokens → Result Tokens Tokens
options_by others option = if option.0 then Ok option.1 else others option.1

-- at most this many more options
abbrev pub options_from : ℕ → Tokens → Result Tokens Tokens
options_from zero tokens = Err tokens
options_from (suc n) tokens = do
  option ← option_in tokens
  options_by (options_from n) option

-- the second token is `=`: only an option has it there
abbrev pub is_given : Tokens → Bool
is_given [] = false
is_given (t ∷ []) = false
is_given (t ∷ u ∷ ts) = is_mark 61 u.kind

-- options with commas between them, up to a semicolon
unfoldable pub options_at : Tokens → Result Tokens Tokens
options_at tokens = options_from (suc (length tokens)) tokens

-- the options, if there are any
unfoldable pub options_in : Tokens → Result Tokens Tokens
options_in tokens = if is_given tokens then options_at tokens else Ok tokens

-- an entity, and whether it is the last
abbrev pub EntityItem : Type 0
EntityItem = EntityView × Bool

-- an entity with its attributes and its end
unfoldable pub entity_in : Tokens → Result (EntityItem × Tokens) Tokens
entity_in [] = Err []
entity_in (t ∷ ts) = do
  name ← name_in (t ∷ ts)
  attributes ← attributes_in name.1
  end ← end_in attributes.1
  Ok ((record { word = name.0; label = attributes.0.0; place = t.place }, end.0), end.1)

abbrev pub entities_by : (List EntityView → Tokens → Result (List EntityView × Tokens) Tokens) → List EntityView
    → EntityItem → Tokens → Result (List EntityView × Tokens) Tokens
entities_by others so_far entity rest =
    if entity.1 then Ok (so_far ++ entity.0 ∷ [], rest) else others (so_far ++ entity.0 ∷ []) rest

-- the entities so far, and at most this many more
abbrev pub entities_from : ℕ → List EntityView → Tokens → Result (List EntityView × Tokens) Tokens
entities_from zero so_far tokens = Err tokens
entities_from (suc n) so_far tokens = do
  entity ← entity_in tokens
  entities_by (entities_from n) so_far entity.0 entity.1

-- the entities: commas are between them, and a semicolon ends them
unfoldable pub entities_in : Tokens → Result (List EntityView × Tokens) Tokens
entities_in tokens = entities_from (suc (length tokens)) [] tokens

-- an arc is the last one if it ends its row and the brace comes next
abbrev pub last_by : Bool → Option Tokens → Bool
last_by ends_row None = false
last_by ends_row (Some rest) = ends_row

abbrev pub is_last : Bool → Tokens → Bool
is_last ends_row rest = last_by ends_row (skip_mark 125 rest)

abbrev pub arcs_by : (List ArcView → Tokens → Result (List ArcView × Tokens) Tokens) → List ArcView → ArcView → Tokens
    → Result (List ArcView × Tokens) Tokens
arcs_by others so_far arc rest =
    if is_last arc.ends_row rest then Ok (so_far ++ arc ∷ [], rest) else others (so_far ++ arc ∷ []) rest

-- the arcs so far, and at most this many more
abbrev pub arcs_from : ℕ → List ArcView → Tokens → Result (List ArcView × Tokens) Tokens
arcs_from zero so_far tokens = Err tokens
arcs_from (suc n) so_far tokens = do
  arc ← arc_in tokens
  arcs_by (arcs_from n) so_far arc.0 arc.1

-- the arcs up to the brace: commas are between those of one row, and a semicolon ends each row
unfoldable pub arcs_in : Tokens → Result (List ArcView × Tokens) Tokens
arcs_in tokens = arcs_from (suc (length tokens)) [] tokens

abbrev pub msc_by : Tokens → Option (List ℕ × Tokens) → Result Tokens Tokens
msc_by tokens None = Err tokens
msc_by tokens (Some word) = if bytes_eq word.0 (codes "msc") then Ok word.1 else Err tokens

-- the tokens after `msc {`
unfoldable pub body_in : Tokens → Result Tokens Tokens
body_in tokens = do
  head ← msc_by tokens (next_word tokens)
  behind_mark 123 head

-- the tokens after `msc {` and the options
unfoldable pub head_in : Tokens → Result Tokens Tokens
head_in tokens = do
  body ← body_in tokens
  options_in body

abbrev pub nothing : Tokens → Result (Unit {0}) Tokens
nothing [] = Ok tt
nothing (t ∷ ts) = Err (t ∷ ts)

-- the brace that ends a chart, with nothing after it
unfoldable pub end_of : Tokens → Result (Unit {0}) Tokens
end_of tokens = do
  rest ← behind_mark 125 tokens
  nothing rest

-- a chart
unfoldable pub msc_in : Tokens → Result MscView Tokens
msc_in tokens = do
  head ← head_in tokens
  entities ← entities_in head
  arcs ← arcs_in entities.1
  end ← end_of arcs.1
  Ok (record { entities = entities.0; arcs = arcs.0 })
