-- The messages of a diagram, item by item from the top: those of its arrows, and of its notes that state a send or a
-- receive. The receive of a note takes the first message of its lane and name that waits.
use Rattle.std.specs.Prelude.{ℕ, suc, ◌+◌, Bool, true, false, ◌==◌, ◌&&◌, nat_lt, List, [], ◌∷◌, ◌++◌, length, Option, None, Some, position, slice_get, slice_set, remove, bytes_eq, if◌then◌else◌}
use Rattle.diagrams.specs.Diagrams.{ArrowView, NoteView, ItemView, AnArrow, ANote}
use Rattle.diagrams.specs.LeftOuts.{with_one}
use Rattle.diagrams.specs.NoteEvents.{note_event}
use Rattle.diagrams.specs.Placing.{first_misplaced}
use Rattle.diagrams.specs.declared.left_out.LeftOut.{LeftOut}
use Rattle.diagrams.specs.declared.left_out.Kind.TheVariants as kinds
use Rattle.diagrams.specs.declared.message.Message.{Message}
use Rattle.diagrams.specs.declared.message.Waiting.{Waiting}
use Rattle.diagrams.specs.declared.note_event.NoteEvent.{NoteEvent}

-- the messages so far, and those of notes that wait; the skipped constructs; the first line with which no chart is
-- possible
pub record CollectedView : Type 0 where
  pub messages : List Message
  pub waiting : List Waiting
  pub left_out : List LeftOut
  pub fault : Option ℕ

-- the upper one of two lines: the one so far, if there is one, and this one
abbrev pub first_line : Option ℕ → ℕ → Option ℕ
first_line None line = Some line
first_line (Some k) line = if nat_lt line k then Some line else Some k

-- the message of an arrow
abbrev pub message_of : ℕ → ArrowView → Message
message_of item a = record {
  sender = suc a.sender;
  receiver = suc a.receiver;
  line = suc a.receiver;
  begins = a.begins;
  ends = a.ends;
  is_lost = a.is_lost;
  item = item;
  place = a.place;
  whole = a.place.line;
}

abbrev pub with_arrow : ℕ → ArrowView → CollectedView → CollectedView
with_arrow item a c = record c { messages = c.messages ++ message_of item a ∷ [] }

-- a message that a note sends: nobody receives it so far
abbrev pub sent_by : ℕ → NoteView → NoteEvent → Message
sent_by item n e = record {
  sender = suc n.participant;
  receiver = e.partner;
  line = e.partner;
  begins = n.row;
  ends = n.row;
  is_lost = true;
  item = item;
  place = n.place;
  whole = n.place.line;
}

abbrev pub with_send : ℕ → NoteView → NoteEvent → CollectedView → CollectedView
with_send item n e c = record c {
  messages = c.messages ++ sent_by item n e ∷ [];
  waiting = c.waiting ++ record { sender = suc n.participant; receiver = e.partner; name = e.name; message = length c.messages } ∷ [];
}

-- the message waits for this receive
abbrev pub waits : ℕ → NoteEvent → Waiting → Bool
waits receiver e w = w.sender == e.partner && (w.receiver == receiver && bytes_eq w.name e.name)

-- the message is received at the note
abbrev pub received_by : NoteView → Message → Message
received_by n m = record m { ends = n.row; is_lost = false; whole = n.place.line }

abbrev pub received_at : NoteView → List Message → ℕ → Option Message → List Message
received_at n messages place None = messages
received_at n messages place (Some m) = slice_set messages place (received_by n m)

abbrev pub with_received : NoteView → ℕ → Option Waiting → CollectedView → CollectedView
with_received n at None c = c
with_received n at (Some w) c = record c {
  messages = received_at n c.messages w.message (slice_get c.messages w.message);
  waiting = remove c.waiting at;
}

-- the receive takes the message at this place among those that wait; without one no chart is possible
abbrev pub with_receive_at : NoteView → Option ℕ → CollectedView → CollectedView
with_receive_at n None c = record c { fault = first_line c.fault n.place.line }
with_receive_at n (Some at) c = with_received n at (slice_get c.waiting at) c

abbrev pub with_receive : NoteView → NoteEvent → CollectedView → CollectedView
with_receive n e c = with_receive_at n (position (waits (suc n.participant) e) c.waiting) c

-- a note that states an event, or none
abbrev pub with_event : ℕ → NoteView → Option NoteEvent → CollectedView → CollectedView
with_event item n None c = record c { left_out = with_one c.left_out kinds.Note n.place }
with_event item n (Some e) c = if e.sends then with_send item n e c else with_receive n e c

abbrev pub with_note : List (List ℕ) → ℕ → NoteView → CollectedView → CollectedView
with_note names item n c = with_event item n (note_event names (suc n.participant) n.text) c

unfoldable pub with_item : List (List ℕ) → ℕ → ItemView → CollectedView → CollectedView
with_item names item (AnArrow a) c = with_arrow item a c
with_item names item (ANote n) c = with_note names item n c

-- with all these items, the first of which has this number
unfoldable pub with_items : List (List ℕ) → ℕ → List ItemView → CollectedView → CollectedView
with_items names item [] c = c
with_items names item (i ∷ items) c = with_items names (item + 1) items (with_item names item i c)

-- before the first item: the constructs skipped earlier, and the line of the first misplaced item
abbrev pub nothing : Option ℕ → List LeftOut → CollectedView
nothing misplaced left_out = record { messages = []; waiting = []; left_out = left_out; fault = misplaced }

-- the messages of a diagram's items; these names are those of its participants
unfoldable pub collected : List (List ℕ) → List ItemView → List LeftOut → CollectedView
collected names items left_out = with_items names 0 items (nothing (first_misplaced (length names) 0 items) left_out)
