-- The items of arcs in a diagram: arrows and notes in their rows. Other arcs are skipped.
use Rattle.std.specs.Prelude.{◌≡◌, ℕ, zero, suc, ◌+◌, ◌-◌, ◌==◌, min, Bool, true, false, List, [], ◌∷◌, ◌++◌, length, count_by, Option, None, Some, unwrap_or, Result, Ok, Err, if◌then◌else◌}
use Rattle.diagrams.specs.Diagrams.{ArrowView, ItemView, AnArrow, ANote}
use Rattle.diagrams.specs.LeftOuts.{with_one}
use Rattle.diagrams.specs.declared.left_out.Kind.{Kind}
use Rattle.diagrams.specs.declared.left_out.Kind.TheVariants as kinds
use Rattle.diagrams.specs.declared.left_out.LeftOut.{LeftOut}
use Rattle.diagram_mscgen.specs.Grammar.Arcs.{ArcView}
use Rattle.diagram_mscgen.specs.declared.grammar.arc.ArcKind.{ArcKind}
use Rattle.diagram_mscgen.specs.declared.grammar.arc.ArcKind.TheVariants as arcs
use Rattle.diagram_mscgen.specs.Reading.Entities.{place_of, known_at}
use Rattle.diagram_mscgen.specs.Reading.Texts.{text_of}
use Rattle.diagram_mscgen.specs.declared.reading.error.Fault.TheVariants.{UnknownEntity}
use Rattle.diagram_mscgen.specs.declared.reading.error.ReadError.{ReadError}
use Rattle.diagram_mscgen.specs.declared.reading.error.ReadError.TheVariants as errors

-- the next row, the items of the arcs so far, and the skipped constructs
pub record RowsView : Type 0 where
  pub row : ℕ
  pub items : List ItemView
  pub left_out : List LeftOut

-- the label of an arc: empty if it has none
abbrev pub label_of : ArcView → List ℕ
label_of a = text_of (unwrap_or a.label [])

-- an arrow from one participant to another; it ends as many rows further down as the arc skips, but not below the last
-- row
abbrev pub arrow_of : ℕ → ℕ → ArcView → Bool → ℕ → ℕ → ArrowView
arrow_of last row a is_lost sender receiver = record {
  place = place_of a.place;
  begins = row;
  ends = row + min a.skip (last - row);
  sender = sender;
  receiver = receiver;
  label = label_of a;
  is_lost = is_lost;
}

abbrev pub with_item : ItemView → RowsView → RowsView
with_item item s = record s { items = s.items ++ item ∷ [] }

abbrev pub without : Kind → ArcView → RowsView → RowsView
without kind a s = record s { left_out = with_one s.left_out kind (place_of a.place) }

-- a message; a message to oneself is skipped
abbrev pub with_message : ℕ → Bool → ℕ → ℕ → ArcView → RowsView → RowsView
with_message last is_lost from to a s =
    if from == to then without kinds.MessageToItself a s
    else with_item (AnArrow (arrow_of last s.row a is_lost from to)) s

abbrev pub with_text : ℕ → ArcView → List ℕ → RowsView → RowsView
with_text p a [] s = without kinds.Note a s
with_text p a (b ∷ bs) s =
    with_item (ANote (record { place = place_of a.place; row = s.row; participant = p; text = b ∷ bs })) s

-- a note; at one participant and with a text it may state an event
abbrev pub with_note : ℕ → ℕ → ArcView → RowsView → RowsView
with_note from to a s = if from == to then with_text from a (label_of a) s else without kinds.Note a s

-- an arc between two participants
abbrev pub with_pair : ℕ → ArcKind → ℕ → ℕ → ArcView → RowsView → RowsView
with_pair last arcs.Message from to a s = with_message last false from to a s
with_pair last arcs.Lost from to a s = with_message last true from to a s
with_pair last arcs.Both from to a s = without kinds.ArrowBothWays a s
with_pair last arcs.Line from to a s = without kinds.Line a s
with_pair last arcs.Box from to a s = without kinds.Box a s
with_pair last arcs.Note from to a s = with_note from to a s
with_pair last arcs.Spacer from to a s = s
with_pair last arcs.Broadcast from to a s = s
with_pair last arcs.LostBroadcast from to a s = s

-- an arrow to a participant, if it isn't the sender
abbrev pub with_other : ℕ → Bool → ℕ → ArcView → ℕ → RowsView → RowsView
with_other last is_lost from a to s =
    if to == from then s else with_item (AnArrow (arrow_of last s.row a is_lost from to)) s

-- an arrow to each of a number of participants, from one on, except the sender
abbrev pub with_others : ℕ → Bool → ℕ → ArcView → ℕ → ℕ → RowsView → RowsView
with_others last is_lost from a to zero s = s
with_others last is_lost from a to (suc n) s =
    with_others last is_lost from a (to + 1) n (with_other last is_lost from a to s)

-- a row without an arc; with a label it is counted as skipped
abbrev pub with_spacer : ArcView → Option (List ℕ) → RowsView → RowsView
with_spacer a None s = s
with_spacer a (Some label) s = without kinds.Divider a s

abbrev pub with_all_by : List (List ℕ) → ℕ → Bool → ArcView → RowsView → Option ℕ → Result RowsView ℕ
with_all_by words last is_lost a s None = Err a.place.line
with_all_by words last is_lost a s (Some from) = Ok (with_others last is_lost from a 0 (length words) s)

-- an arc to all other participants, or the line of an arc that names an entity which doesn't exist
abbrev pub with_all : List (List ℕ) → ℕ → Bool → ArcView → RowsView → Result RowsView ℕ
with_all words last is_lost a s = with_all_by words last is_lost a s (known_at words a.from)

abbrev pub with_ends : ℕ → ArcView → RowsView → Option ℕ → Option ℕ → Result RowsView ℕ
with_ends last a s None to = Err a.place.line
with_ends last a s (Some from) None = Err a.place.line
with_ends last a s (Some from) (Some to) = Ok (with_pair last a.kind from to a s)

abbrev pub rows_by : List (List ℕ) → ℕ → ArcView → RowsView → ArcKind → Result RowsView ℕ
rows_by words last a s arcs.Spacer = Ok (with_spacer a a.label s)
rows_by words last a s arcs.Broadcast = with_all words last false a s
rows_by words last a s arcs.LostBroadcast = with_all words last true a s
rows_by words last a s arcs.Message = with_ends last a s (known_at words a.from) (known_at words a.to)
rows_by words last a s arcs.Lost = with_ends last a s (known_at words a.from) (known_at words a.to)
rows_by words last a s arcs.Both = with_ends last a s (known_at words a.from) (known_at words a.to)
rows_by words last a s arcs.Line = with_ends last a s (known_at words a.from) (known_at words a.to)
rows_by words last a s arcs.Box = with_ends last a s (known_at words a.from) (known_at words a.to)
rows_by words last a s arcs.Note = with_ends last a s (known_at words a.from) (known_at words a.to)

-- the row after an arc
abbrev pub ended_row : Bool → RowsView → RowsView
ended_row ends s = if ends then record s { row = s.row + 1 } else s

abbrev pub then_ended : Bool → Result RowsView ℕ → Result RowsView ℕ
then_ended ends (Err line) = Err line
then_ended ends (Ok s) = Ok (ended_row ends s)

-- one more arc
unfoldable pub with_arc : List (List ℕ) → ℕ → ArcView → RowsView → Result RowsView ℕ
with_arc words last a s = then_ended a.ends_row (rows_by words last a s a.kind)

abbrev pub and_then : (RowsView → Result RowsView ℕ) → Result RowsView ℕ → Result RowsView ℕ
and_then others (Err line) = Err line
and_then others (Ok s) = others s

abbrev pub with_arcs : List (List ℕ) → ℕ → List ArcView → RowsView → Result RowsView ℕ
with_arcs words last [] s = Ok s
with_arcs words last (a ∷ others) s = and_then (with_arcs words last others) (with_arc words last a s)

-- the number of the last row, from 0
unfoldable pub last_row : List ArcView → ℕ
last_row arcs = count_by (λ a. a.ends_row) arcs - 1

-- the items of a chart's arcs, or the line of the first arc that names an entity which doesn't exist
unfoldable pub rows_of : List (List ℕ) → List LeftOut → List ArcView → Result RowsView ℕ
rows_of words left_out arcs =
    with_arcs words (last_row arcs) arcs (record { row = 0; items = []; left_out = left_out })

-- the result, seen through view, is the defined one, unless an entity doesn't exist, or memory ran out
abbrev pub Draws : {X : Type 0} → (X → RowsView) → Result X ReadError → Result RowsView ℕ → Type 0
Draws view (Ok x) built = built ≡ Ok (view x)
Draws view (Err errors.Memory) built = Unit {0}
Draws view (Err (errors.Fault fault)) built = (line : ℕ) × (built ≡ Err line) × (fault ≡ UnknownEntity line)
