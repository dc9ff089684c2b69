-- The warnings about a chart: skipped constructs of the diagram, overtaking messages, and names that differ from their
-- labels.
use Rattle.std.specs.Prelude.{ℕ, ◌==◌, List, ◌++◌, codes, decimal, if◌then◌else◌}
use Rattle.std.specs.List.{flat_map}
use Rattle.diagram_labels.specs.declared.renaming.Renamed.{Renamed}
use Rattle.diagrams.specs.declared.left_out.LeftOut.{LeftOut}
use Rattle.diagram_join.specs.declared.moves.Overtaking.{Overtaking}
use Rattle.diagram_labels.specs.Renamed.Reporting.{renamed_line}
use Rattle.cmd_import_diagram.specs.KindWords.{kind_word, kind_words, kind_reading}

-- the warning about one skipped construct, with its line and the way in which it is read
unfoldable pub one_line : List ℕ → ℕ → List ℕ → List ℕ
one_line word line reading = codes "1 " ++ (word ++ (codes " is left out, in line " ++ (decimal line ++ (reading ++ codes "\n"))))

-- the warning about several of them, with the line of the first
unfoldable pub several_line : ℕ → List ℕ → ℕ → List ℕ → List ℕ
several_line count words line reading =
    decimal count ++ (codes " " ++ (words ++ (codes " are left out, the first in line " ++ (decimal line ++ (reading ++ codes "\n")))))

-- the warning about the skipped constructs of a kind
abbrev pub left_out_line : LeftOut → List ℕ
left_out_line l =
    if l.count == 1 then one_line (kind_word l.kind) l.first.line (kind_reading l.kind)
    else several_line l.count (kind_words l.kind) l.first.line (kind_reading l.kind)

-- the warning about a message that overtakes, with the line of the one that it overtakes
unfoldable pub overtaking_line : Overtaking → List ℕ
overtaking_line o =
    codes "the message in line " ++ (decimal o.place.line ++ (codes " overtakes the one in line " ++ (decimal o.overtaken ++ codes ", and is left out\n")))

-- the skipped constructs, the overtaking messages, and then the names
unfoldable pub diagnostics_text : List LeftOut → List Overtaking → List Renamed → List ℕ
diagnostics_text left_out overtaking renamed = flat_map left_out_line left_out ++ (flat_map overtaking_line overtaking ++ flat_map renamed_line renamed)
