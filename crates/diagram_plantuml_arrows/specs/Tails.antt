-- The text after participants: activations, colours, links and texts (PlantUML's documentation of sequence diagrams,
-- "Lifeline Activation and Destruction", "Change arrow color", "Notes on messages").
use Rattle.std.specs.Prelude.{ℕ, Bool, ◌==◌, nat_lt, List, [], ◌∷◌, codes, length, take, drop, Option, None, Some, option_map, unwrap_or, nat_eq, if◌then◌else◌}
use Rattle.std.specs.List.{starts_with}
use Rattle.texts.specs.Words.{behind_blanks, stripped, or_else}
use Rattle.diagram_statements.specs.Options.{◌>>=◌}
use Rattle.diagram_plantuml_arrows.specs.Runs.{run_length, behind_run, behind_byte}
use Rattle.diagram_plantuml_arrows.specs.declared.runs.Class.{Class}
use Rattle.diagram_plantuml_arrows.specs.declared.runs.Class.TheVariants.{Colour, Sign, Word}
use Rattle.diagram_plantuml_arrows.specs.declared.tails.Behind.{Behind}
use Rattle.diagram_plantuml_arrows.specs.declared.tails.Tail.{Tail}

-- the text at a statement's end, if it has one there
abbrev pub TailView : Type 0
TailView = Option (List ℕ)

abbrev pub tail_view : Tail → TailView
tail_view t = option_map (λ text. text.now) t.text

-- signs of activation, and a text
abbrev pub BehindView : Type 0
BehindView = List ℕ × List ℕ

abbrev pub behind_view : Behind → BehindView
behind_view b = (b.signs.now, b.text.now)

abbrev pub text_by : Option (List ℕ) → Option TailView
text_by None = None
text_by (Some text) = Some (Some (stripped text))

abbrev pub colon_by : List ℕ → Option TailView
colon_by rest = if length rest == 0 then Some None else text_by (behind_byte 58 rest)

-- nothing, or a colon and a text
unfoldable pub colon_tail : List ℕ → Option TailView
colon_tail bytes = colon_by (behind_blanks bytes)

-- the same after the end of a link
unfoldable pub link_tail : List ℕ → Option TailView
link_tail [] = None
link_tail (b ∷ bs) =
    or_else (if starts_with nat_eq (b ∷ bs) (codes "]]") then colon_tail (drop 2 (b ∷ bs)) else None) (link_tail bs)

abbrev pub end_by : List ℕ → Option TailView
end_by rest = if starts_with nat_eq rest (codes "[[") then link_tail (drop 2 rest) else colon_tail rest

-- a link, and a colon with a text
unfoldable pub end_tail : List ℕ → Option TailView
end_tail bytes = end_by (behind_blanks bytes)

abbrev pub colour_by : Class → List ℕ → Option (List ℕ) → List ℕ
colour_by class bytes None = bytes
colour_by class bytes (Some colour) = if nat_lt 0 (run_length class colour) then behind_run class colour else bytes

-- the text after a colour of these bytes
unfoldable pub behind_colour : Class → List ℕ → List ℕ
behind_colour class bytes = colour_by class bytes (behind_byte 35 bytes)

-- the end of a note's statement after its participants
unfoldable pub coloured_tail : List ℕ → Option TailView
coloured_tail bytes = end_tail (behind_colour Colour (behind_blanks bytes))

abbrev pub behind_by : List ℕ → Option TailView → Option BehindView
behind_by signs None = None
behind_by signs (Some None) = Some (signs, [])
behind_by signs (Some (Some text)) = Some (signs, text)

abbrev pub signs_by : List ℕ → Option BehindView
signs_by rest =
    behind_by (take (run_length Sign rest) rest)
    (end_tail (behind_colour Word (behind_blanks (drop (run_length Sign rest) rest))))

-- the end of an arrow's statement after its participants
unfoldable pub behind_at : List ℕ → Option BehindView
behind_at bytes = signs_by (behind_blanks bytes)
