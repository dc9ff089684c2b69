-- Rows of arrows and notes, and the skipped constructs.
use Rattle.std.specs.Prelude.{ℕ, suc, ◌+◌, Bool, true, false, ◌&&◌, ◌==◌, List, [], ◌∷◌, ◌++◌, length, map, Option, None, Some, Result, Ok, Err, if◌then◌else◌}
use Rattle.diagrams.specs.Diagrams.{ItemView, AnArrow, ANote, item_view}
use Rattle.diagrams.specs.LeftOuts.{with_one}
use Rattle.diagrams.specs.declared.left_out.Kind.{Kind}
use Rattle.diagrams.specs.declared.left_out.Kind.TheVariants as kinds
use Rattle.diagrams.specs.declared.left_out.LeftOut.{LeftOut}
use Rattle.diagrams.specs.declared.place.Place.{Place}
use Rattle.diagram_statements.specs.ToDiagram.Labels.{label_of}
use Rattle.diagram_statements.specs.declared.to_diagram.activations.Ends.{Ends}
use Rattle.diagram_statements.specs.declared.to_diagram.labels.Breaks.{Breaks}
use Rattle.diagram_statements.specs.declared.to_diagram.rows.Rows.{Rows}
use Rattle.diagram_statements.specs.declared.to_diagram.rows.Sent.{Sent}
use Rattle.diagram_statements.specs.declared.statement.ArrowForm.{ArrowForm}
use Rattle.diagram_statements.specs.declared.statement.ArrowForm.TheVariants.{Message, Lost, BothWays, Headless, Hidden}
use Rattle.diagram_statements.specs.declared.statement.Place as statements

-- the items so far, the skipped constructs, the number of rows, and whether an arrow is directly above
pub record RowsView : Type 0 where
  pub items : List ItemView
  pub left_out : List LeftOut
  pub count : ℕ
  pub is_open : Bool

abbrev pub rows_view : Rows → RowsView
rows_view r = record {
  items = map item_view r.items.items;
  left_out = r.left_out.items;
  count = r.count;
  is_open = r.is_open;
}

-- an arrow as it is drawn
pub record SentView : Type 0 where
  pub ends : Ends
  pub form : ArrowForm
  pub label : List ℕ
  pub is_beside : Bool

abbrev pub sent_view : Sent → SentView
sent_view s = record { ends = s.ends; form = s.form; label = s.label.now; is_beside = s.is_beside }

abbrev pub at_place : statements.Place → Place
at_place p = record { line = p.line; column = p.column }

-- the kind under which an arrow of this form is skipped, if it is
abbrev pub kind_of_form : ArrowForm → Option Kind
kind_of_form Message = None
kind_of_form Lost = None
kind_of_form BothWays = Some kinds.ArrowBothWays
kind_of_form Headless = Some kinds.Line
kind_of_form Hidden = Some kinds.HiddenArrow

abbrev pub is_lost : ArrowForm → Bool
is_lost Lost = true
is_lost Message = false
is_lost BothWays = false
is_lost Headless = false
is_lost Hidden = false

abbrev pub pair_by : Option ℕ → Option ℕ → Result (ℕ × ℕ) Kind
pair_by None receiver = Err kinds.ArrowAtTheEdge
pair_by (Some sender) None = Err kinds.ArrowAtTheEdge
pair_by (Some sender) (Some receiver) = if sender == receiver then Err kinds.MessageToItself else Ok (sender, receiver)

-- an arrow from or to the edge is skipped, and so is one from a participant to itself
abbrev pub pair_of : Ends → Result (ℕ × ℕ) Kind
pair_of ends = pair_by ends.sender ends.receiver

abbrev pub message_by : Ends → Option Kind → Result (ℕ × ℕ) Kind
message_by ends (Some kind) = Err kind
message_by ends None = pair_of ends

-- the participants between which a message goes, or the kind under which the arrow is skipped
unfoldable pub message_of : ArrowForm → Ends → Result (ℕ × ℕ) Kind
message_of form ends = message_by ends (kind_of_form form)

abbrev pub no_rows : RowsView
no_rows = record { items = []; left_out = []; count = 0; is_open = false }

-- the next item is below the arrow above it
abbrev pub closed : RowsView → RowsView
closed r = record { items = r.items; left_out = r.left_out; count = r.count; is_open = false }

-- one more skipped construct
abbrev pub with_left_out : Kind → statements.Place → RowsView → RowsView
with_left_out kind place r =
    record { items = r.items; left_out = with_one r.left_out kind (at_place place); count = r.count; is_open = r.is_open }

-- one more row
abbrev pub with_row : RowsView → RowsView
with_row r = record { items = r.items; left_out = r.left_out; count = r.count + 1; is_open = r.is_open }

abbrev pub standing : RowsView → RowsView
standing r = record { items = r.items; left_out = r.left_out; count = r.count; is_open = true }

-- an arrow has a row of its own, or is beside the one above it
abbrev pub opened : Bool → RowsView → RowsView
opened is_beside r = standing (if is_beside && r.is_open then r else with_row r)

abbrev pub with_item : ItemView → RowsView → RowsView
with_item item r = record { items = r.items ++ item ∷ []; left_out = r.left_out; count = r.count; is_open = r.is_open }

abbrev pub message : Breaks → statements.Place → SentView → ℕ → ℕ → ℕ → ItemView
message breaks place sent row sender receiver = AnArrow (record {
  place = at_place place;
  begins = row;
  ends = row;
  sender = sender;
  receiver = receiver;
  label = label_of breaks sent.label;
  is_lost = is_lost sent.form;
})

abbrev pub folded_by : Breaks → statements.Place → SentView → RowsView → Result (ℕ × ℕ) Kind → RowsView
folded_by breaks place sent r (Err kind) = with_left_out kind place r
folded_by breaks place sent r (Ok ends) = with_item (message breaks place sent r.count ends.0 ends.1) r

-- an arrow is a message, unless it is skipped for its form or its ends
unfoldable pub with_arrow : Breaks → statements.Place → SentView → RowsView → RowsView
with_arrow breaks place sent r = folded_by breaks place sent (opened sent.is_beside r) (message_of sent.form sent.ends)

abbrev pub noted : statements.Place → ℕ → List ℕ → RowsView → RowsView
noted place participant text r =
    with_item (ANote (record { place = at_place place; row = r.count; participant = participant; text = text })) r

-- a note at one participant has a row of its own if it has a text; otherwise it is skipped
unfoldable pub with_note : statements.Place → ℕ → List ℕ → RowsView → RowsView
with_note place participant text r =
    if length text == 0 then with_left_out kinds.Note place (closed r) else noted place participant text (with_row (closed r))
