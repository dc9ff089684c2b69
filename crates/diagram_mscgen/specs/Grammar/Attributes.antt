-- Attributes: the names and values between `[` and `]` (mscgen 0.20's documentation on attributes).
use Rattle.std.specs.Prelude.{ℕ, zero, suc, ◌+◌, ◌-◌, ◌*◌, ◌||◌, ◌==◌, nat_lt, List, [], ◌∷◌, length, Option, None, Some, option_map, option_and_then, Result, Ok, Err, if◌then◌else◌}
use Rattle.texts.specs.Digits.Numbers.{number_in}
use Rattle.diagram_mscgen.specs.Grammar.Reading.{Tokens, ◌>>=◌, or_stop, behind_mark, skip_mark, name_in, next_word}
use Rattle.diagram_mscgen.specs.Grammar.Words.{attribute_name}
use Rattle.diagram_mscgen.specs.declared.grammar.attributes.Attributes.{Attributes}
use Rattle.diagram_mscgen.specs.declared.grammar.words.AttributeName.{AttributeName}
use Rattle.diagram_mscgen.specs.declared.grammar.words.AttributeName.TheVariants.{Label, Skip, Style}

-- the last label, if there is one, and how many rows further down an arc ends
abbrev pub AttributesView : Type 0
AttributesView = Option (List ℕ) × ℕ

abbrev pub attributes_view : Attributes → AttributesView
attributes_view a = (option_map (λ label. label.now) a.label, a.skip)

-- the values with one more attribute: the last one of a name counts, and a skip is a number
abbrev pub with_attribute : AttributesView → AttributeName → List ℕ → Option AttributesView
with_attribute so_far Label value = Some (Some value, so_far.1)
with_attribute so_far Skip value = option_map (λ skip. (so_far.0, skip)) (number_in value)
with_attribute so_far Style value = Some so_far

abbrev pub name_by : Tokens → Option (List ℕ × Tokens) → Result (AttributeName × Tokens) Tokens
name_by tokens None = Err tokens
name_by tokens (Some word) = do
  name ← or_stop tokens (attribute_name word.0)
  Ok (name, word.1)

-- the name of an attribute, which has to come next
unfoldable pub attribute_name_in : Tokens → Result (AttributeName × Tokens) Tokens
attribute_name_in tokens = name_by tokens (next_word tokens)

-- an attribute: a name, `=` and a value
unfoldable pub attribute_in : AttributesView → Tokens → Result (AttributesView × Tokens) Tokens
attribute_in so_far tokens = do
  name ← attribute_name_in tokens
  rest ← behind_mark 61 name.1
  value ← name_in rest
  more ← or_stop rest (with_attribute so_far name.0 value.0)
  Ok (more, value.1)

-- other attributes after a comma, or the bracket that ends them
abbrev pub others_by : (Tokens → Result (AttributesView × Tokens) Tokens) → AttributesView → Tokens → Option Tokens
    → Result (AttributesView × Tokens) Tokens
others_by others so_far tokens (Some rest) = others rest
others_by others so_far tokens None = do
  rest ← behind_mark 93 tokens
  Ok (so_far, rest)

-- at most this many more attributes
abbrev pub attributes_from : ℕ → AttributesView → Tokens → Result (AttributesView × Tokens) Tokens
attributes_from zero so_far tokens = Err tokens
attributes_from (suc n) so_far tokens = do
  next ← attribute_in so_far tokens
  others_by (attributes_from n next.0) next.0 next.1 (skip_mark 44 next.1)

-- attributes with commas between them, and `]`
unfoldable pub attributes_at : Tokens → Result (AttributesView × Tokens) Tokens
attributes_at tokens = attributes_from (suc (length tokens)) (None, 0) tokens

abbrev pub attributes_by : Tokens → Option Tokens → Result (AttributesView × Tokens) Tokens
attributes_by tokens None = Ok ((None, 0), tokens)
attributes_by tokens (Some rest) = attributes_at rest

-- the attributes, if there are any
unfoldable pub attributes_in : Tokens → Result (AttributesView × Tokens) Tokens
attributes_in tokens = attributes_by tokens (skip_mark 91 tokens)
