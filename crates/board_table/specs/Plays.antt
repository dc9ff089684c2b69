-- What each step on a board's table guarantees to its caller (this project's profile).
use Rattle.std.specs.Prelude.{◌≡◌, ℕ, ◌+◌, ◌*◌, List, [], ◌∷◌, length, drop}
use Rattle.chart.specs.declared.history.Occurrence.{Occurrence}
use Rattle.chart.specs.declared.history.Occurrence.TheVariants.{Close}
use Rattle.chart.specs.Histories.{own, sent, received, is_closed, IsLegal, Begins}
use Rattle.board_table.specs.declared.held.Held.{Held}
use Rattle.board_table.specs.Layout.{LaneView}
use Rattle.board_table.specs.Carrying.{with_sent, with_received}
use Rattle.board_table.specs.Knowing.{Mine, many_out, held, packets_out, vacant_out, IsPost, Rests, IsFilling, IsEmptying, Sees, Moves, at_rest, first_of, later_of, longer, met}
use Rattle.board_table.specs.Rule.{closed_bit}

-- The sender has taken all free slots of the lane: as many as the capacity leaves besides the waiting messages.
pub record Claims (l : LaneView) (m w : Mine) : Type 0 where
  pub sees : Sees l.instances l.capacity (held m) (held w)
  pub filling : IsFilling l w
  pub nothing_filled : packets_out w ≡ []
  pub all_free : length (sent (held w).seen l.sender l.receiver) + vacant_out w
      ≡ received (held w).seen l.sender l.receiver + l.capacity

-- by a look at the receiver's word, which has the number of received messages
pub record ClaimsAnew (l : LaneView) (m : Mine) (word : ℕ) (w : Mine) : Type 0 where
  pub claims : Claims l m w
  pub found : word ≡ received (held w).seen l.sender l.receiver
  pub looks : (held w).looks ≡ (held m).looks + 1

-- by a load of its own word, which is no look
pub record ClaimsAgain (l : LaneView) (m w : Mine) : Type 0 where
  pub claims : Claims l m w
  pub looks : (held w).looks ≡ (held m).looks

-- The receiver has taken the slots of all messages that wait on the lane.
pub record Finds (l : LaneView) (m w : Mine) : Type 0 where
  pub sees : Sees l.instances l.capacity (held m) (held w)
  pub emptying : IsEmptying l w
  pub nothing_emptied : vacant_out w ≡ 0
  pub all_waiting : received (held w).seen l.sender l.receiver + length (packets_out w)
      ≡ length (sent (held w).seen l.sender l.receiver)

-- by a look at the sender's word, which has the number of sent messages, and whether the lane is closed
pub record FindsAnew (l : LaneView) (m : Mine) (word : ℕ) (w : Mine) : Type 0 where
  pub finds : Finds l m w
  pub found : word ≡ 2 * length (sent (held w).seen l.sender l.receiver)
      + closed_bit (is_closed (held w).seen l.sender l.receiver)
  pub looks : (held w).looks ≡ (held m).looks + 1

-- by a load of its own word, which is no look
pub record FindsAgain (l : LaneView) (m w : Mine) : Type 0 where
  pub finds : Finds l m w
  pub looks : (held w).looks ≡ (held m).looks

-- The receiver has looked at the sender's word, which has the number of sent messages, and whether the lane is closed.
-- It has taken no slot.
pub record LooksAt (l : LaneView) (m : Mine) (word : ℕ) (w : Mine) : Type 0 where
  pub sees : Sees l.instances l.capacity (held m) (held w)
  pub rests : Rests l.instances l.capacity l.receiver w
  pub found : word ≡ 2 * length (sent (held w).seen l.sender l.receiver)
      + closed_bit (is_closed (held w).seen l.sender l.receiver)
  pub looks : (held w).looks ≡ (held m).looks + 1

-- The post has made these `many` events, and holds no slot.
pub record Makes (l : LaneView) (p many : ℕ) (events : List Occurrence → List Occurrence) (m w : Mine) : Type 0 where
  pub rests : Rests l.instances l.capacity p w
  pub moves : Moves l.instances l.capacity (held m) (held w) (drop many (held w).seen) events

-- The sender has sent the messages in the slots that it held.
abbrev pub Publishes : LaneView → Mine → Mine → Type 0
Publishes l m w = Makes l l.sender (length (packets_out m)) (with_sent l.sender l.receiver (packets_out m)) m w

-- The sender has closed the lane.
abbrev pub Closes : LaneView → Mine → Mine → Type 0
Closes l m w = Makes l l.sender 1 (λ h. Close l.sender l.receiver ∷ h) m w

-- The receiver has received the messages that it had taken out, in this coregion. The other messages wait again.
abbrev pub Frees : LaneView → ℕ → Mine → Mine → Type 0
Frees l region m w = Makes l l.receiver (vacant_out m) (with_received l.receiver l.sender region (vacant_out m)) m w

-- The slots are back as they were taken, and nothing else has changed.
abbrev pub PutsBack : Mine → Mine → Type 0
PutsBack m w = w ≡ (at_rest (held m) ∷ [], [])

-- A note, by which posts meet, and posts at rest.

-- the seat is a note of a board of n instances
pub record IsNote (n k : ℕ) (me : Mine) : Type 0 where
  pub post : IsPost n k (n + 1) me
  pub made : (held me).made ≡ []
  pub rests : many_out (held me).hold ≡ 0
  pub slots : me.1 ≡ []

-- a post has met a note: both have seen the longer of what they had seen, which begins with the other, and nothing else
-- has changed
pub record Meets (n k : ℕ) (e note f : Held) : Type 0 where
  pub seen : f.seen ≡ longer e.seen note.seen
  pub later : Begins e.seen f.seen
  pub later_note : Begins note.seen f.seen
  pub legal : IsLegal n k f.seen
  pub own : own f.seen e.number ≡ e.made
  pub rest : f ≡ record e { seen = f.seen }

-- the first post of the view has met the note after it, and the note has met the post
abbrev pub MeetsBeside : Mine → Mine → Type 0
MeetsBeside m w = Meets (held m).instances (held m).capacity (held m) (first_of (later_of m.0))
    (met (held m) (first_of (later_of m.0)))
    × (w ≡ (
      met (held m) (first_of (later_of m.0)) ∷ record (first_of (later_of m.0)) {
        seen = longer (held m).seen (first_of (later_of m.0)).seen;
      } ∷ [],
      m.1,
    ))
