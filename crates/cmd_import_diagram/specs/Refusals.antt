-- The lines of an import's refusals.
use Rattle.std.specs.Prelude.{ℕ, ◌++◌, List, codes, decimal, None, Some}
use Rattle.diagram_import.specs.declared.error.ImportError.{ImportError}
use Rattle.diagram_import.specs.declared.error.ImportError.TheVariants as diagrams
use Rattle.diagrams.specs.declared.place.Place.{Place}
use Rattle.cmd_base.specs.Refusals.{labelled_text}
use Rattle.diagram_join.specs.declared.error.JoinError.{JoinError}
use Rattle.diagram_join.specs.declared.error.JoinError.TheVariants as charts

-- the line of F35: its place, and the words there
unfoldable pub not_read_text : Place → List ℕ → List ℕ
not_read_text place words =
    codes "refused: F35 NotRead " ++ (decimal place.line ++ (codes " " ++ (decimal place.column ++ (codes " " ++ (words ++ codes "\n")))))

-- the line of a refusal of a diagram without a chart
abbrev pub chart_refusal_text : JoinError → List ℕ
chart_refusal_text charts.Memory = labelled_text (codes "F6 Memory") None
chart_refusal_text charts.NoSuchLine = labelled_text (codes "F34 NoSuchName") None
chart_refusal_text (charts.Taken line) = labelled_text (codes "F22 Duplicate") (Some line)
chart_refusal_text charts.Instances = labelled_text (codes "F8 Instances") None
chart_refusal_text (charts.LineFull line) = labelled_text (codes "F7 LineFull") (Some line)
chart_refusal_text (charts.NotPossible line) = labelled_text (codes "F37 NotPossible") (Some line)

-- the line of a refusal of a tool's text
abbrev pub diagram_refusal_text : ImportError → List ℕ
diagram_refusal_text diagrams.Memory = labelled_text (codes "F6 Memory") None
diagram_refusal_text diagrams.Usage = labelled_text (codes "G1 Usage") None
diagram_refusal_text diagrams.Unfinished = labelled_text (codes "F21 Unfinished") None
diagram_refusal_text (diagrams.UnknownInstance line) = labelled_text (codes "F23 UnknownInstance") (Some line)
diagram_refusal_text (diagrams.NotRead place words) = not_read_text place words.items
diagram_refusal_text (diagrams.NoChart error) = chart_refusal_text error
