-- The actions of statements in branches that are taken.
use Rattle.std.specs.Prelude.{ℕ, Bool, List, Option, None, Some}
use Rattle.diagrams.specs.declared.left_out.Kind.{Kind}
use Rattle.diagrams.specs.declared.left_out.Kind.TheVariants as kinds
use Rattle.diagram_statements.specs.declared.to_diagram.act.Act.{Act}
use Rattle.diagram_statements.specs.declared.to_diagram.act.Act.TheVariants as acts
use Rattle.diagram_statements.specs.declared.to_diagram.act.Effect.{Effect}
use Rattle.diagram_statements.specs.declared.to_diagram.act.Effect.TheVariants as drawings
use Rattle.diagram_statements.specs.Statements.{EndView, end_view, ArrowView, arrow_view, NoteAtView, note_at_view, ElementView}
use Rattle.diagram_statements.specs.Statements as element

-- an effect on a diagram: something is drawn or skipped
pub data EffectView : Type 0 where
  Name : (participant : EndView) → EffectView
  Rename : (participant : EndView) → EffectView
  DrawArrow : (arrow : ArrowView) → EffectView
  DrawNote : (at : NoteAtView) → (text : List ℕ) → EffectView
  LeaveOut : (kind : Kind) → EffectView
  PassBy : (kind : Kind) → EffectView
  CloseRow : EffectView

abbrev pub effect_view : Effect → EffectView
effect_view (drawings.Name participant) = Name (end_view participant)
effect_view (drawings.Rename participant) = Rename (end_view participant)
effect_view (drawings.Arrow arrow) = DrawArrow (arrow_view arrow)
effect_view (drawings.Note at text) = DrawNote (note_at_view at) text.now
effect_view (drawings.LeaveOut kind) = LeaveOut kind
effect_view (drawings.PassBy kind) = PassBy kind
effect_view drawings.CloseRow = CloseRow

-- the action of a statement
pub data ActView : Type 0 where
  Draw : (folded : EffectView) → ActView
  Activate : ActView
  Deactivate : ActView
  Return : (label : List ℕ) → (is_beside : Bool) → ActView
  ArrowsActivate : (they_do : Bool) → ActView
  EndGroup : ActView

abbrev pub act_view : Act → ActView
act_view (acts.Draw folded) = Draw (effect_view folded)
act_view acts.Activate = Activate
act_view acts.Deactivate = Deactivate
act_view (acts.Return label is_beside) = Return label.now is_beside
act_view (acts.ArrowsActivate they_do) = ArrowsActivate they_do
act_view acts.EndGroup = EndGroup

-- the action of a statement that leaves the frames as they are
abbrev pub act_of : ElementView → Option ActView
act_of (element.Named participant) = Some (Draw (Name participant))
act_of (element.Renamed participant) = Some (Draw (Rename participant))
act_of (element.ArrowElement arrow) = Some (Draw (DrawArrow arrow))
act_of (element.NoteElement at text) = Some (Draw (DrawNote at text))
act_of element.Activate = Some Activate
act_of element.Deactivate = Some Deactivate
act_of (element.Return label is_beside) = Some (Return label is_beside)
act_of (element.ArrowsActivate they_do) = Some (ArrowsActivate they_do)
act_of element.Box = Some (Draw (LeaveOut kinds.Box))
act_of element.Divider = Some (Draw (PassBy kinds.Divider))
act_of element.Delay = Some (Draw (PassBy kinds.Delay))
act_of element.Reference = Some (Draw (PassBy kinds.Reference))
act_of (element.Begin group) = None
act_of element.Branch = None
act_of element.EndElement = None
act_of element.BeginBox = None
act_of element.Preprocessor = None
act_of element.OtherDiagram = None
