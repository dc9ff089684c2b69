-- Labels, with a line feed for each sign of a new line: PlantUML's `\n`, Mermaid's `\n` and `<br/>`.
use Rattle.std.specs.Prelude.{ℕ, ◌+◌, ◌-◌, nat_lt, List, [], ◌∷◌, codes, length, Option, None, Some, nat_eq, if◌then◌else◌}
use Rattle.std.specs.List.{starts_with}
use Rattle.diagram_statements.specs.declared.to_diagram.labels.Breaks.{Breaks}
use Rattle.diagram_statements.specs.declared.to_diagram.labels.Breaks.TheVariants.{PlantUml, Mermaid}
use Rattle.texts.specs.Words.{begins, behind_blanks, behind_word, skip_word}

abbrev pub tag_by : ℕ → List ℕ → ℕ
tag_by all end = if starts_with nat_eq end (codes ">") then all - length end + 1 else 0

abbrev pub tag_of : ℕ → Option (List ℕ) → ℕ
tag_of all None = 0
tag_of all (Some rest) = tag_by all (skip_word (codes "/") (behind_blanks rest))

-- the length of a tag for a new line that comes next
unfoldable pub tag_length : List ℕ → ℕ
tag_length bytes = tag_of (length bytes) (behind_word (codes "<br") bytes)

-- the length of a sign for a new line that comes next
unfoldable pub break_length : Breaks → List ℕ → ℕ
break_length PlantUml bytes = if starts_with nat_eq bytes (codes "\\n") then 2 else 0
break_length Mermaid bytes = if begins (codes "\\n") bytes then 2 else tag_length bytes

-- a text; this number of its first bytes still belongs to a sign
abbrev pub label_from : Breaks → ℕ → List ℕ → List ℕ
label_from breaks within [] = []
label_from breaks within (b ∷ bs) =
    if nat_lt 0 within then label_from breaks (within - 1) bs else (
    if nat_lt 0 (break_length breaks (b ∷ bs)) then 10 ∷ label_from breaks (break_length breaks (b ∷ bs) - 1) bs else
    b ∷ label_from breaks 0 bs)

-- a text, with a line feed for each sign of a new line
unfoldable pub label_of : Breaks → List ℕ → List ℕ
label_of breaks text = label_from breaks 0 text
