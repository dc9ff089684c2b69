-- Open groups and boxes, and the branches that are taken: the first one of a group, all parallel ones, and none of a
-- group that breaks off.
use Rattle.std.specs.Prelude.{◌≡◌, ℕ, ◌-◌, Bool, true, false, not, ◌&&◌, List, [], ◌∷◌, ◌++◌, length, take, slice_get, Option, None, Some, Result, Ok, Err, option_map, if◌then◌else◌}
use Rattle.diagrams.specs.declared.left_out.Kind.{Kind}
use Rattle.diagrams.specs.declared.left_out.Kind.TheVariants as kinds
use Rattle.diagram_statements.specs.ToDiagram.Acts.{ActView, act_view, act_of, Draw, EndGroup, PassBy, LeaveOut, CloseRow}
use Rattle.diagram_statements.specs.declared.to_diagram.act.Act.{Act}
use Rattle.diagram_statements.specs.declared.to_diagram.frames.Frame.{Frame}
use Rattle.diagram_statements.specs.declared.to_diagram.frames.FrameKind.{FrameKind}
use Rattle.diagram_statements.specs.declared.to_diagram.frames.FrameKind.TheVariants as frame_kinds
use Rattle.diagram_statements.specs.Statements.{StatementView, ElementView, Fails}
use Rattle.diagram_statements.specs.Statements as element
use Rattle.diagram_statements.specs.declared.statement.Fault.{Fault}
use Rattle.diagram_statements.specs.declared.statement.Fault.TheVariants.{NotRead}
use Rattle.diagram_statements.specs.declared.statement.Group.{Group}
use Rattle.diagram_statements.specs.declared.statement.Group.TheVariants.{Parallel, Break, Choice}
use Rattle.diagram_statements.specs.declared.statement.Place.{Place}
use Rattle.diagram_statements.specs.declared.statement.ReadError.{ReadError}

-- the innermost frame, and those around it
abbrev pub top_frame : List Frame → Option Frame
top_frame frames = slice_get frames (length frames - 1)

abbrev pub around : List Frame → List Frame
around frames = take (length frames - 1) frames

abbrev pub taken_by : Option Frame → Bool
taken_by None = true
taken_by (Some frame) = frame.is_taken

-- a statement is taken within these frames
unfoldable pub is_taken : List Frame → Bool
is_taken frames = taken_by (top_frame frames)

abbrev pub is_parallel : Group → Bool
is_parallel Parallel = true
is_parallel Break = false
is_parallel Choice = false

abbrev pub is_break : Group → Bool
is_break Break = true
is_break Parallel = false
is_break Choice = false

-- the kind under which the beginning of a group is skipped
abbrev pub begun_kind : Group → Kind
begun_kind group = if is_break group then kinds.Branch else kinds.Frame

abbrev pub if_taken : Bool → ActView → Option ActView
if_taken taken act = if taken then Some act else None

-- the frames after a statement, and its action
abbrev pub Step : Type 0
Step = Result (List Frame × Option ActView) Fault

abbrev pub branch_act : Bool → ActView
branch_act parallel = Draw (if parallel then CloseRow else PassBy kinds.Branch)

abbrev pub branch_of : Place → List Frame → FrameKind → Step
branch_of place rest frame_kinds.Box = Err (NotRead place)
branch_of place rest (frame_kinds.Group group) =
    Ok (
      rest ++ record { kind = frame_kinds.Group group; is_taken = is_taken rest && is_parallel group } ∷ [],
      if_taken (is_taken rest) (branch_act (is_parallel group)),
    )

abbrev pub branch_by : Place → List Frame → Option Frame → Step
branch_by place rest None = Err (NotRead place)
branch_by place rest (Some frame) = branch_of place rest frame.kind

-- another branch of the innermost group
unfoldable pub branched : Place → List Frame → Step
branched place frames = branch_by place (around frames) (top_frame frames)

abbrev pub end_by : Place → List Frame → Option Frame → Step
end_by place rest None = Err (NotRead place)
end_by place rest (Some frame) = Ok (rest, if_taken (is_taken rest) EndGroup)

-- the innermost group or box ends
unfoldable pub ended : Place → List Frame → Step
ended place frames = end_by place (around frames) (top_frame frames)

abbrev pub begun : List Frame → FrameKind → Bool → Option ActView → Step
begun frames kind taken act = Ok (frames ++ record { kind = kind; is_taken = taken } ∷ [], act)

abbrev pub passed : List Frame → ElementView → Step
passed frames s = Ok (frames, if is_taken frames then act_of s else None)

abbrev pub framed_by : List Frame → Place → ElementView → Step
framed_by frames place (element.Begin group) =
    begun frames (frame_kinds.Group group) (is_taken frames && not (is_break group))
    (if_taken (is_taken frames) (Draw (PassBy (begun_kind group))))
framed_by frames place element.BeginBox =
    begun frames frame_kinds.Box (is_taken frames) (if_taken (is_taken frames) (Draw (LeaveOut kinds.Box)))
framed_by frames place element.Branch = branched place frames
framed_by frames place element.EndElement = ended place frames
framed_by frames place element.Preprocessor = Ok (frames, Some (Draw (LeaveOut kinds.Preprocessor)))
framed_by frames place element.OtherDiagram = Ok (frames, Some (Draw (LeaveOut kinds.Diagram)))
framed_by frames place (element.Named participant) = passed frames (element.Named participant)
framed_by frames place (element.Renamed participant) = passed frames (element.Renamed participant)
framed_by frames place (element.ArrowElement arrow) = passed frames (element.ArrowElement arrow)
framed_by frames place (element.NoteElement at text) = passed frames (element.NoteElement at text)
framed_by frames place element.Activate = passed frames element.Activate
framed_by frames place element.Deactivate = passed frames element.Deactivate
framed_by frames place (element.Return label is_beside) = passed frames (element.Return label is_beside)
framed_by frames place (element.ArrowsActivate they_do) = passed frames (element.ArrowsActivate they_do)
framed_by frames place element.Box = passed frames element.Box
framed_by frames place element.Divider = passed frames element.Divider
framed_by frames place element.Delay = passed frames element.Delay
framed_by frames place element.Reference = passed frames element.Reference

-- the frames after a statement, and its action, or a fault
unfoldable pub framed : List Frame → StatementView → Step
framed frames s = framed_by frames s.place s.element

-- a call's result, and the frames after it, are those of the step, unless memory ran out
abbrev pub Frames : Result (Option Act) ReadError → List Frame → Step → Type 0
Frames (Ok act) frames step = step ≡ Ok (frames, option_map act_view act)
Frames (Err e) frames step = Fails e step
