-- Lines of the preprocessor (PlantUML's documentation, "Preprocessing"). Only the first branch of a condition is read,
-- and no definition is.
use Rattle.std.specs.Prelude.{ℕ, ◌+◌, ◌%◌, ◌^◌, Bool, false, ◌&&◌, ◌||◌, ◌==◌, List, [], ◌∷◌, codes, Option, None, Some, is_some, if◌then◌else◌}
use Rattle.texts.specs.Words.{behind_blanks, behind_word, or_else}
use Rattle.diagram_statements.specs.Options.{◌>>=◌}
use Rattle.diagram_plantuml_arrows.specs.Names.{behind_gap}
use Rattle.diagram_plantuml_arrows.specs.Runs.{behind_byte, run_length}
use Rattle.diagram_plantuml_arrows.specs.declared.runs.Class.TheVariants.{Word}
use Rattle.diagram_plantuml.specs.declared.directives.Skip.{Skip}
use Rattle.diagram_plantuml.specs.declared.directives.SkipEnd.{SkipEnd}
use Rattle.diagram_plantuml.specs.declared.directives.SkipEnd.TheVariants.{Condition, Procedure, Function, DefineLong}

abbrev pub whole_by : Option (List ℕ) → Option (List ℕ)
whole_by None = None
whole_by (Some rest) = if run_length Word rest == 0 then Some rest else None

-- the text after this whole word
unfoldable pub behind_directive : List ℕ → List ℕ → Option (List ℕ)
behind_directive word bytes = whole_by (behind_word word bytes)

abbrev pub is_directive : List ℕ → List ℕ → Bool
is_directive word bytes = is_some (behind_directive word bytes)

-- a condition begins
abbrev pub is_condition : List ℕ → Bool
is_condition words =
    is_directive (codes "!if") words || is_directive (codes "!ifdef") words || is_directive (codes "!ifndef") words

-- another branch of a condition begins
abbrev pub is_other_branch : List ℕ → Bool
is_other_branch words = is_directive (codes "!else") words || is_directive (codes "!elseif") words

abbrev pub as_end : SkipEnd → Option (List ℕ) → Option (SkipEnd × List ℕ)
as_end end None = None
as_end end (Some rest) = Some (end, rest)

-- the kind of definition that begins here, and the text after its word
unfoldable pub defined_at : List ℕ → Option (SkipEnd × List ℕ)
defined_at bytes =
    or_else (as_end Procedure (behind_directive (codes "procedure") bytes)) (
    or_else (as_end Function (behind_directive (codes "function") bytes)) (as_end DefineLong (behind_directive (codes "definelong") bytes)))

abbrev pub gap_by : List ℕ → Option (List ℕ) → List ℕ
gap_by bytes None = bytes
gap_by bytes (Some behind) = behind

abbrev pub unquoted_by : List ℕ → Option (List ℕ) → List ℕ
unquoted_by bytes None = bytes
unquoted_by bytes (Some rest) = gap_by bytes (behind_gap rest)

-- `unquoted` may come next
unfoldable pub behind_unquoted : List ℕ → List ℕ
behind_unquoted bytes = unquoted_by bytes (behind_word (codes "unquoted") bytes)

abbrev pub returns_by : Option (List ℕ) → Bool
returns_by None = false
returns_by (Some rest) = is_directive (codes "return") (behind_blanks rest)

-- the result of a function follows its parameters here
unfoldable pub returns_at : List ℕ → Bool
returns_at bytes = returns_by (behind_byte 41 bytes)

-- the whole function is in its line
unfoldable pub is_one_line : List ℕ → Bool
is_one_line [] = false
is_one_line (b ∷ bs) = returns_at (b ∷ bs) || is_one_line bs

abbrev pub defined_by : SkipEnd → List ℕ → Option SkipEnd
defined_by Function behind = if is_one_line behind then None else Some Function
defined_by Condition behind = Some Condition
defined_by Procedure behind = Some Procedure
defined_by DefineLong behind = Some DefineLong

-- the end of the definition that begins here
unfoldable pub definition_of : List ℕ → Option SkipEnd
definition_of words = do
  rest ← behind_byte 33 words
  defined ← defined_at (behind_unquoted rest)
  defined_by defined.0 defined.1

abbrev pub skip_to : SkipEnd → Skip
skip_to end = record { end = end; depth = 0 }

abbrev pub skip_by : Option SkipEnd → Option Skip
skip_by None = None
skip_by (Some end) = Some (skip_to end)

-- the lines to skip after this one
unfoldable pub skip_of : List ℕ → Option Skip
skip_of words = if is_other_branch words then Some (skip_to Condition) else skip_by (definition_of words)

abbrev pub definition_end : List ℕ → Option (List ℕ) → Bool
definition_end word None = false
definition_end word (Some rest) = is_directive word (behind_blanks rest)

-- a line ends a definition
unfoldable pub ends_definition : List ℕ → List ℕ → Bool
ends_definition word words = definition_end word (behind_word (codes "!end") words)

-- a line ends the skipped lines
abbrev pub ends_skip : SkipEnd → List ℕ → Bool
ends_skip Condition words = is_directive (codes "!endif") words
ends_skip Procedure words = ends_definition (codes "procedure") words
ends_skip Function words = ends_definition (codes "function") words
ends_skip DefineLong words = ends_definition (codes "definelong") words

-- the number of open conditions among the skipped lines, modulo 2^64
unfoldable pub deeper : ℕ → List ℕ → ℕ
deeper depth words =
    if is_condition words then (depth + 1) % 2 ^ 64 else (
    if is_directive (codes "!endif") words then (depth + 18446744073709551615) % 2 ^ 64 else depth)

-- the lines that are still to be skipped after this one
unfoldable pub behind_skip : Skip → List ℕ → Option Skip
behind_skip skip words =
    if skip.depth == 0 && ends_skip skip.end words then None
    else Some (record { end = skip.end; depth = deeper skip.depth words })
