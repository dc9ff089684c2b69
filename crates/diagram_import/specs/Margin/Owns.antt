-- The notes of a diagram that are neither sends nor receives.
use Rattle.std.specs.Prelude.{ℕ, Bool, false, not, ◌==◌, List, [], ◌∷◌, length, if◌then◌else◌}
use Rattle.std.specs.List.{flat_map}
use Rattle.diagrams.specs.Collecting.{collected}
use Rattle.diagrams.specs.Diagrams.{ParticipantView, ItemView, AnArrow, ANote}
use Rattle.diagrams.specs.Naming.{names_from}
use Rattle.diagram_import.specs.Margin.Remarks.{RemarkView}
use Rattle.diagram_import.specs.Margin.Statements.{note_remark}

-- an item is skipped in the chart of a diagram whose lines have these names: it is a note that states neither a send
-- nor a receive
abbrev pub comes_to_nothing : List (List ℕ) → ItemView → Bool
comes_to_nothing names i = not (length (collected names (i ∷ []) []).left_out == 0)

-- the remark of an item, if it has one
unfoldable pub own_remark : List (List ℕ) → ItemView → List RemarkView
own_remark names (AnArrow a) = []
own_remark names (ANote n) = if comes_to_nothing names (ANote n) then note_remark false n ∷ [] else []

-- the remarks of a diagram's items; these are its participants
unfoldable pub own_remarks : List ParticipantView → List ItemView → List RemarkView
own_remarks participants items = flat_map (own_remark (names_from [] participants)) items
