-- What a seat at a board's table knows, and how that grows (this project's profile).
use Rattle.std.specs.Prelude.{◌≡◌, ℕ, ◌+◌, ◌==◌, List, [], ◌∷◌, ◌++◌, length, take, drop, Option, cond, leb, if◌then◌else◌}
use Rattle.chart.specs.Words.{Clock}
use Rattle.atomic_table.specs.Table.{Me}
use Rattle.chart.specs.declared.history.Occurrence.{Occurrence}
use Rattle.chart.specs.Histories.{own, sent, received, IsLegal, Begins}
use Rattle.board_core.specs.Parcels.{Parcel, goods}
use Rattle.board_core.specs.Differences.{zeros}
use Rattle.board_table.specs.declared.packet.Packet.{Packet}
use Rattle.board_table.specs.declared.held.Hold.{Hold}
use Rattle.board_table.specs.declared.held.Hold.TheVariants.{Nothing, Filling, Emptying}
use Rattle.board_table.specs.declared.held.Held.{Held}
use Rattle.board_table.specs.Layout.{LaneView}
use Rattle.board_table.specs.Carrying.{AreCarried, last_clock, vacant_slots, full_slots, packets_in, vacant_in}

-- a seat's view: a list of what it knows of each of its posts, and the slots that are out with it
abbrev pub Mine : Type 0
Mine = Me (Option Packet) (List Held)

-- how many slots are out
abbrev pub many_out : Hold → ℕ
many_out Nothing = 0
many_out (Filling to many) = many
many_out (Emptying from many) = many

-- how many slots of the lane to p are out with its sender
abbrev pub filling_to : Hold → ℕ → ℕ
filling_to Nothing p = 0
filling_to (Filling to many) p = if to == p then many else 0
filling_to (Emptying from many) p = 0

-- how many slots of the lane from q are out with its receiver
abbrev pub emptying_from : Hold → ℕ → ℕ
emptying_from Nothing q = 0
emptying_from (Filling to many) q = 0
emptying_from (Emptying from many) q = if from == q then many else 0

-- what is known of a post before its first step
abbrev pub new_held : ℕ → ℕ → ℕ → Held
new_held n k number = record {
  instances = n;
  capacity = k;
  number = number;
  seen = [];
  made = [];
  looks = 0;
  hold = Nothing;
}

-- what a view knows of its first post
abbrev pub first_of : List Held → Held
first_of [] = new_held 0 0 0
first_of (e ∷ es) = e

-- what a view knows of the other posts
abbrev pub later_of : List Held → List Held
later_of [] = []
later_of (e ∷ es) = es

-- what a seat of one post knows of it
abbrev pub held : Mine → Held
held me = first_of me.0

-- what a seat of several posts knows of those after the first
abbrev pub later_helds : Mine → List Held
later_helds me = later_of me.0

-- the packets in the slots that are out with the seat
abbrev pub packets_out : Mine → List Packet
packets_out me = packets_in me.1

-- how many empty slots are out with the seat
abbrev pub vacant_out : Mine → ℕ
vacant_out me = vacant_in me.1

-- the seat is that of one post, with this number, on a board of this size
pub record IsPost (n k p : ℕ) (me : Mine) : Type 0 where
  pub alone : me.0 ≡ held me ∷ []
  pub instances : (held me).instances ≡ n
  pub capacity : (held me).capacity ≡ k
  pub number : (held me).number ≡ p

-- the seat is that of one post, and no slot is out with it
pub record Rests (n k p : ℕ) (me : Mine) : Type 0 where
  pub post : IsPost n k p me
  pub hold : many_out (held me).hold ≡ 0
  pub slots : me.1 ≡ []

-- slots of the lane are out with its sender: first the empty ones, and then those that it has filled, from the slot of
-- its next message on
pub record IsFilling (l : LaneView) (me : Mine) : Type 0 where
  pub post : IsPost l.instances l.capacity l.sender me
  pub hold : (held me).hold ≡ Filling l.receiver (length me.1)
  pub slots : me.1 ≡ vacant_slots l.instances l.capacity l.sender l.receiver
      (length (sent (held me).seen l.sender l.receiver) + length (packets_out me)) (vacant_out me)
      ++ full_slots l.instances l.capacity l.sender l.receiver (length (sent (held me).seen l.sender l.receiver))
      (packets_out me)

-- the waiting goods, without those that the receiver has taken out
abbrev pub waiting_goods : LaneView → Mine → List Parcel
waiting_goods l me = drop (received (held me).seen l.sender l.receiver + vacant_out me)
    (goods l.instances (held me).seen l.sender l.receiver)

-- the clock of the last message that the receiver has taken out, or received
abbrev pub emptied_base : LaneView → Mine → Clock
emptied_base l me =
    last_clock (zeros l.instances) (take (received (held me).seen l.sender l.receiver + vacant_out me)
    (goods l.instances (held me).seen l.sender l.receiver))

-- slots of the lane are out with its receiver: first those with messages that wait, and then those that it has emptied,
-- from the slot of the first waiting message on
pub record IsEmptying (l : LaneView) (me : Mine) : Type 0 where
  pub post : IsPost l.instances l.capacity l.receiver me
  pub hold : (held me).hold ≡ Emptying l.sender (length me.1)
  pub slots : me.1 ≡ full_slots l.instances l.capacity l.sender l.receiver
      (received (held me).seen l.sender l.receiver + vacant_out me) (packets_out me)
      ++ vacant_slots l.instances l.capacity l.sender l.receiver (received (held me).seen l.sender l.receiver)
      (vacant_out me)
  pub waiting : received (held me).seen l.sender l.receiver + vacant_out me + length (packets_out me)
      ≡ length (sent (held me).seen l.sender l.receiver)
  pub carried : AreCarried (emptied_base l me) (packets_out me) (waiting_goods l me)

-- How this knowledge grows.

-- they are the same post
pub record IsSamePost (e f : Held) : Type 0 where
  pub instances : f.instances ≡ e.instances
  pub capacity : f.capacity ≡ e.capacity
  pub number : f.number ≡ e.number

-- f has seen all that e has seen, and maybe more, and has made nothing more. What f has seen is legal, and has just
-- those events of f that it made
pub record Sees (n k : ℕ) (e f : Held) : Type 0 where
  pub same : IsSamePost e f
  pub later : Begins e.seen f.seen
  pub legal : IsLegal n k f.seen
  pub made : f.made ≡ e.made
  pub own : own f.seen f.number ≡ f.made

-- f has made these events, directly after a history that it had seen by then
pub record Moves (n k : ℕ) (e f : Held) (before : List Occurrence) (events : List Occurrence
    → List Occurrence) : Type 0 where
  pub same : IsSamePost e f
  pub later : Begins e.seen before
  pub legal_before : IsLegal n k before
  pub own_before : own before e.number ≡ e.made
  pub seen : f.seen ≡ events before
  pub legal : IsLegal n k f.seen
  pub made : f.made ≡ events e.made
  pub own : own f.seen f.number ≡ f.made
  pub looks : f.looks ≡ e.looks

-- it has given its slots back, and nothing else has changed
abbrev pub at_rest : Held → Held
at_rest e = record e { hold = Nothing }

-- the longer of two histories
abbrev pub longer : List Occurrence → List Occurrence → List Occurrence
longer g h = cond (leb (length g) (length h)) h g

-- a note of what it has seen; the note's number is that of no post of the board
abbrev pub note_of : Held → Held
note_of e = record (new_held e.instances e.capacity (e.instances + 1)) { seen = e.seen }

-- what is known of one after it has met the other; one of the two is a note
abbrev pub met : Held → Held → Held
met e other = record e { seen = longer e.seen other.seen }
