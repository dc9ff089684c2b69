-- The ends of blocks (PlantUML's documentation of sequence diagrams, with each block).
use Rattle.std.specs.Prelude.{ℕ, ◌+◌, ◌%◌, ◌^◌, Bool, false, ◌||◌, ◌==◌, List, [], ◌∷◌, codes, Option, None, Some, bytes_eq, if◌then◌else◌}
use Rattle.texts.specs.Words.{behind_word}
use Rattle.texts.specs.Bytes.Classes.{is_blank}
use Rattle.texts.specs.Bytes.Words.{is_spelled}
use Rattle.diagram_plantuml_statements.specs.Looks.{ends_with_brace}
use Rattle.diagram_plantuml_statements.specs.declared.look.Block.{Block}
use Rattle.diagram_plantuml_statements.specs.declared.look.Block.TheVariants as blocks

abbrev pub end_by : List ℕ → Option (List ℕ) → Bool
end_by word None = false
end_by word (Some []) = is_spelled word []
end_by word (Some (b ∷ rest)) = if is_blank b then is_spelled word rest else is_spelled word (b ∷ rest)

-- a line is `end` and this word, with one blank between them or none
unfoldable pub is_end_of : List ℕ → List ℕ → Bool
is_end_of word words = end_by word (behind_word (codes "end") words)

abbrev pub is_brace : List ℕ → Bool
is_brace words = bytes_eq words (codes "}")

-- the number of open braces after a line, modulo 2^64
unfoldable pub brace_depth : ℕ → List ℕ → ℕ
brace_depth depth words =
    if is_brace words then (depth + 18446744073709551615) % 2 ^ 64 else (
    if ends_with_brace words then (depth + 1) % 2 ^ 64 else depth)

abbrev pub is_bracket : List ℕ → Bool
is_bracket words = bytes_eq words (codes "]")

-- a line ends a block that isn't in nested braces
abbrev pub ends_block : Block → List ℕ → Bool
ends_block blocks.Title words = is_end_of (codes "title") words
ends_block blocks.Legend words = is_end_of (codes "legend") words
ends_block blocks.Header words = is_end_of (codes "header") words
ends_block blocks.Footer words = is_end_of (codes "footer") words
ends_block blocks.Style words = is_spelled (codes "</style>") words
ends_block blocks.Sprite words = is_end_of (codes "sprite") words || is_brace words
ends_block blocks.Note words =
    is_end_of (codes "note") words || is_end_of (codes "hnote") words || is_end_of (codes "rnote") words
ends_block blocks.Reference words = is_spelled (codes "end") words || is_end_of (codes "ref") words
ends_block blocks.Participant words = is_bracket words
ends_block (blocks.Braces depth) words = false

abbrev pub braces : ℕ → Option Block
braces depth = if depth == 0 then None else Some (blocks.Braces depth)

abbrev pub unless_ended : Block → List ℕ → Option Block
unless_ended block words = if ends_block block words then None else Some block

-- the block that continues after a line
unfoldable pub behind_block : Block → List ℕ → Option Block
behind_block (blocks.Braces depth) words = braces (brace_depth depth words)
behind_block blocks.Title words = unless_ended blocks.Title words
behind_block blocks.Legend words = unless_ended blocks.Legend words
behind_block blocks.Header words = unless_ended blocks.Header words
behind_block blocks.Footer words = unless_ended blocks.Footer words
behind_block blocks.Style words = unless_ended blocks.Style words
behind_block blocks.Sprite words = unless_ended blocks.Sprite words
behind_block blocks.Note words = unless_ended blocks.Note words
behind_block blocks.Reference words = unless_ended blocks.Reference words
behind_block blocks.Participant words = unless_ended blocks.Participant words
