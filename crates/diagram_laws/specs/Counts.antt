-- How many constructs of each kind a diagram's chart lacks.
use Rattle.std.specs.Prelude.{ℕ, List, [], ◌∷◌, length, if◌then◌else◌}
use Rattle.diagrams.specs.Diagrams.{ItemView}
use Rattle.diagrams.specs.LeftOuts.{is_kind}
use Rattle.diagrams.specs.declared.left_out.Kind.{Kind}
use Rattle.diagrams.specs.declared.left_out.Kind.TheVariants as kinds
use Rattle.diagrams.specs.declared.left_out.LeftOut.{LeftOut}
use Rattle.diagram_laws.specs.Arrows.{arrows_of, notes_in, within, across, in_order, passed}

-- the count of the skipped constructs of this kind
unfoldable pub count_of : Kind → List LeftOut → ℕ
count_of kind [] = 0
count_of kind (l ∷ left_out) = if is_kind kind l then l.count else count_of kind left_out

-- the number of these items' constructs of each kind that the chart lacks: notes, arrows within an instance, and lost
-- arrows that a later one passes; `at` says of each participant which instance it is
abbrev pub skipped : (ℕ → ℕ) → List ItemView → Kind → ℕ
skipped at items kinds.Note = notes_in items
skipped at items kinds.MessageWithin = length (within at (arrows_of items))
skipped at items kinds.LostMessage = length (passed at (in_order at [] (across at (arrows_of items))))
skipped at items kind = 0
