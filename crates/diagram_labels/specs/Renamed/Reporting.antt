-- The lines that report names which differ from their labels.
use Rattle.std.specs.Prelude.{ℕ, ◌==◌, List, [], ◌∷◌, ◌++◌, codes, if◌then◌else◌}
use Rattle.std.specs.List.{flat_map}
use Rattle.diagram_labels.specs.declared.renaming.Renamed.{Renamed}
use Rattle.texts.specs.Bytes.Classes.{printable}

-- a byte of a label: `\n` for a line feed, and `?` for a byte that doesn't print
abbrev pub shown_byte : ℕ → List ℕ
shown_byte b = if b == 10 then 92 ∷ 110 ∷ [] else printable b ∷ []

unfoldable pub start : List ℕ
start = codes "name "

unfoldable pub is : List ℕ
is = codes " is \""

unfoldable pub end : List ℕ
end = codes "\"\n"

-- a name, with the label from which it differs
unfoldable pub renamed_line : Renamed → List ℕ
renamed_line r = start ++ (r.name ++ (is ++ (flat_map shown_byte r.label.items ++ end)))
