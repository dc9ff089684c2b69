-- Statements of PlantUML and Mermaid diagrams, with the words of their text.
use Rattle.std.specs.Prelude.{◌≡◌, ℕ, Bool, List, Option, None, Some, Result, Ok, Err, option_map}
use Rattle.diagram_statements.specs.declared.line.Line.{Line}
use Rattle.diagram_statements.specs.declared.statement.Arrow.{Arrow}
use Rattle.diagram_statements.specs.declared.statement.ArrowForm.{ArrowForm}
use Rattle.diagram_statements.specs.declared.statement.End.{End}
use Rattle.diagram_statements.specs.declared.statement.Fault.{Fault}
use Rattle.diagram_statements.specs.declared.statement.Group.{Group}
use Rattle.diagram_statements.specs.declared.statement.NoteAt.{NoteAt}
use Rattle.diagram_statements.specs.declared.statement.NoteAt.TheVariants as notes
use Rattle.diagram_statements.specs.declared.statement.Place.{Place}
use Rattle.diagram_statements.specs.declared.statement.ReadError.{ReadError}
use Rattle.diagram_statements.specs.declared.statement.ReadError.TheVariants as errors
use Rattle.diagram_statements.specs.declared.statement.Element.{Element}
use Rattle.diagram_statements.specs.declared.statement.Element.TheVariants as elements
use Rattle.diagram_statements.specs.declared.statement.Statement.{Statement}

-- words of a text, and the place of their first byte
pub record LineView : Type 0 where
  pub number : ℕ
  pub column : ℕ
  pub words : List ℕ

abbrev pub line_view : Line → LineView
line_view l = record { number = l.number; column = l.column; words = l.words.now }

-- a participant in a statement: the word for it, and its label, if the statement gives one
pub record EndView : Type 0 where
  pub word : List ℕ
  pub label : Option (List ℕ)

abbrev pub end_view : End → EndView
end_view e = record { word = e.word.now; label = option_map (λ label. label.now) e.label }

-- an arrow: the participants that are written first and second, or the edge, and its other parts
pub record ArrowView : Type 0 where
  pub first : Option EndView
  pub second : Option EndView
  pub goes_back : Bool
  pub form : ArrowForm
  pub label : List ℕ
  pub is_beside : Bool
  pub activates : Option Bool

abbrev pub arrow_view : Arrow → ArrowView
arrow_view a = record {
  first = option_map end_view a.first;
  second = option_map end_view a.second;
  goes_back = a.goes_back;
  form = a.form;
  label = a.label.now;
  is_beside = a.is_beside;
  activates = a.activates;
}

-- the position of a note
pub data NoteAtView : Type 0 where
  AtArrow : NoteAtView
  AtParticipant : (word : List ℕ) → NoteAtView
  AtSeveral : NoteAtView

abbrev pub note_at_view : NoteAt → NoteAtView
note_at_view notes.Arrow = AtArrow
note_at_view (notes.Participant word) = AtParticipant word.now
note_at_view notes.Several = AtSeveral

-- the content of a statement
pub data ElementView : Type 0 where
  Named : (participant : EndView) → ElementView
  Renamed : (participant : EndView) → ElementView
  ArrowElement : (arrow : ArrowView) → ElementView
  NoteElement : (at : NoteAtView) → (text : List ℕ) → ElementView
  Activate : ElementView
  Deactivate : ElementView
  Return : (label : List ℕ) → (is_beside : Bool) → ElementView
  ArrowsActivate : (they_do : Bool) → ElementView
  Begin : (group : Group) → ElementView
  Branch : ElementView
  EndElement : ElementView
  BeginBox : ElementView
  Box : ElementView
  Divider : ElementView
  Delay : ElementView
  Reference : ElementView
  Preprocessor : ElementView
  OtherDiagram : ElementView

abbrev pub element_view : Element → ElementView
element_view (elements.Named participant) = Named (end_view participant)
element_view (elements.Renamed participant) = Renamed (end_view participant)
element_view (elements.Arrow arrow) = ArrowElement (arrow_view arrow)
element_view (elements.Note at text) = NoteElement (note_at_view at) text.now
element_view elements.Activate = Activate
element_view elements.Deactivate = Deactivate
element_view (elements.Return label is_beside) = Return label.now is_beside
element_view (elements.ArrowsActivate they_do) = ArrowsActivate they_do
element_view (elements.Begin group) = Begin group
element_view elements.Branch = Branch
element_view elements.End = EndElement
element_view elements.BeginBox = BeginBox
element_view elements.Box = Box
element_view elements.Divider = Divider
element_view elements.Delay = Delay
element_view elements.Reference = Reference
element_view elements.Preprocessor = Preprocessor
element_view elements.OtherDiagram = OtherDiagram

-- a statement, and where it begins
pub record StatementView : Type 0 where
  pub place : Place
  pub element : ElementView

abbrev pub statement_view : Statement → StatementView
statement_view s = record { place = s.place; element = element_view s.element }

-- an error is the fault, unless memory ran out
abbrev pub Fails : {Y : Type 0} → ReadError → Result Y Fault → Type 0
Fails errors.Memory read = Unit {0}
Fails (errors.Fault fault) read = read ≡ Err fault

-- the result, seen through view, is the defined one, unless memory ran out
abbrev pub Reads : {X Y : Type 0} → (X → Y) → Result X ReadError → Result Y Fault → Type 0
Reads view (Ok x) read = read ≡ Ok (view x)
Reads view (Err e) read = Fails e read
