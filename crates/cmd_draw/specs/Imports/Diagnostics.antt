-- The warnings about a picture of another tool's text: those of an import, except about constructs that the picture
-- has.
use Rattle.std.specs.Prelude.{◌≡◌, Bool, true, false, not, List, filter, Some}
use Rattle.diagrams.specs.declared.left_out.Kind.{Kind}
use Rattle.diagrams.specs.declared.left_out.Kind.TheVariants.{Note, Divider, Delay}
use Rattle.diagrams.specs.declared.left_out.LeftOut.{LeftOut}
use Rattle.cmd_base.specs.Answers.{Exit}
use Rattle.cmd_import_diagram.specs.Order.{in_order}
use Rattle.cmd_import_diagram.specs.Diagnostics.{diagnostics_text}
use Rattle.diagram_join.specs.declared.building.JoinedChart.{JoinedChart}
use Rattle.cmd_draw.specs.declared.imports.diagnostics.Diagnostics.{Diagnostics}

-- a picture has these kinds of constructs, which a chart can't express: notes, dividers and delays
abbrev pub is_pictured : Kind → Bool
is_pictured Note = true
is_pictured Divider = true
is_pictured Delay = true
is_pictured kind = false

-- the constructs that the chart leaves out and its picture lacks too
abbrev pub picture_left_out : List LeftOut → List LeftOut
picture_left_out left_out = filter (λ l. not (is_pictured l.kind)) left_out

-- the warnings about the picture of a chart: the constructs that it lacks, in their order, the messages that overtake,
-- and the names
abbrev pub AreDiagnosticsOf : Diagnostics → JoinedChart → Type 0
AreDiagnosticsOf diagnostics built = (diagnostics.left_out.items ≡ in_order (picture_left_out built.built.left_out.items))
    × (diagnostics.overtaking ≡ built.overtaking) × (diagnostics.renamed ≡ built.built.renamed)

abbrev pub pictured_exit : Diagnostics → Exit
pictured_exit diagnostics = record { status = 0; diagnostics = Some (diagnostics_text diagnostics.left_out.items diagnostics.overtaking.items diagnostics.renamed.items) }
