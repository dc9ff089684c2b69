-- The tool of a diagram, detected from its text (the documentation of mscgen 0.20, PlantUML and Mermaid on a text's
-- first word).
use Rattle.std.specs.Prelude.{ℕ, ◌||◌, ◌&&◌, ◌==◌, Bool, true, not, List, [], ◌∷◌, codes, length, take, drop, nat_le, Option, None, Some, Result, Ok, Err, if◌then◌else◌}
use Rattle.diagram_tool.specs.declared.Tool.{Tool}
use Rattle.diagram_tool.specs.declared.Tool.TheVariants.{Mscgen, PlantUml, Mermaid}
use Rattle.texts.specs.Bytes.Classes.{is_white_space, is_word_byte}
use Rattle.texts.specs.Bytes.Places.{start, behind}
use Rattle.texts.specs.Bytes.Words.{is_spelled, begins}
use Rattle.diagram_tool.specs.Detection.Gaps.{gaps_length}
use Rattle.diagram_tool.specs.declared.detection.detection.ToolError.{ToolError}
use Rattle.diagram_tool.specs.declared.detection.detection.ToolError.TheVariants.{NotRead, Unfinished}

-- a word ends here
abbrev pub ends_word : List ℕ → Bool
ends_word [] = true
ends_word (b ∷ bs) = not (is_word_byte b)

-- the bytes begin with this word
unfoldable pub begins_word : List ℕ → List ℕ → Bool
begins_word word bytes = begins bytes word && ends_word (drop (length word) bytes)

-- the same, case-insensitively
unfoldable pub begins_spelled : List ℕ → List ℕ → Bool
begins_spelled word bytes =
    nat_le (length word) (length bytes) && is_spelled word (take (length word) bytes)
    && ends_word (drop (length word) bytes)

-- only blanks are on the line from here on
abbrev pub is_bare : List ℕ → Bool
is_bare [] = true
is_bare (b ∷ bs) = b == 10 || is_white_space b && is_bare bs

-- the bytes begin with the line that begins a title block
unfoldable pub begins_block : List ℕ → Bool
begins_block bytes = begins bytes (codes "---") && is_bare (drop 3 bytes)

-- the tool with whose first word the bytes begin
unfoldable pub tool_of : List ℕ → Option Tool
tool_of bytes =
    if begins_word (codes "msc") bytes then Some Mscgen else (
    if begins_word (codes "@startuml") bytes then Some PlantUml else (
    if begins_spelled (codes "sequenceDiagram") bytes || begins_block bytes then Some Mermaid else None))

abbrev pub detected_by : List ℕ → List ℕ → Option Tool → Result Tool ToolError
detected_by passed word (Some tool) = Ok tool
detected_by passed [] None = Err Unfinished
detected_by passed (b ∷ bs) None = Err (NotRead (behind start passed))

-- the tool of a text
unfoldable pub detected_tool : List ℕ → Result Tool ToolError
detected_tool text =
    detected_by (take (gaps_length text) text) (drop (gaps_length text) text) (tool_of (drop (gaps_length text) text))
