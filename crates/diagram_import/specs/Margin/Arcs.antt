-- The notes of an mscgen text that aren't items of its diagram, and its dividers. They are the labels of notes between
-- two entities, and of rows without an arc (mscgen 0.20's documentation of its language).
use Rattle.std.specs.Prelude.{ℕ, Bool, true, false, ◌==◌, List, [], ◌∷◌, length, bytes_eq, Option, None, Some, if◌then◌else◌}
use Rattle.std.specs.List.{flat_map}
use Rattle.diagram_mscgen.specs.Grammar.Arcs.{ArcView}
use Rattle.diagram_mscgen.specs.declared.grammar.arc.ArcKind.{ArcKind}
use Rattle.diagram_mscgen.specs.declared.grammar.arc.ArcKind.TheVariants as arcs
use Rattle.diagram_import.specs.Margin.Plain.{plain_text}
use Rattle.diagram_import.specs.Margin.Remarks.{RemarkView}

-- the label of an arc as a remark, unless it is empty
abbrev pub label_remark : Bool → ArcView → Option (List ℕ) → List RemarkView
label_remark divides a None = []
label_remark divides a (Some label) =
    if length label == 0 then [] else record { line = a.place.line; text = plain_text label; divides = divides } ∷ []

abbrev pub kind_remark : ArcView → ArcKind → List RemarkView
kind_remark a arcs.Spacer = label_remark true a a.label
kind_remark a arcs.Note = if bytes_eq a.from a.to then [] else label_remark false a a.label
kind_remark a arcs.Message = []
kind_remark a arcs.Lost = []
kind_remark a arcs.Broadcast = []
kind_remark a arcs.LostBroadcast = []
kind_remark a arcs.Both = []
kind_remark a arcs.Line = []
kind_remark a arcs.Box = []

-- the remark of an arc, if it has one
unfoldable pub arc_remark : ArcView → List RemarkView
arc_remark a = kind_remark a a.kind

-- the remarks of these arcs
unfoldable pub arc_remarks : List ArcView → List RemarkView
arc_remarks arcs = flat_map arc_remark arcs
