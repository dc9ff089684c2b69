-- The rule of a running board (this project's profile). There is always one legal history that agrees with the words,
-- with the contents of the slots at home, and with what the seats know.
use Rattle.std.specs.Prelude.{◌≡◌, ℕ, zero, suc, ◌+◌, ◌*◌, ◌<◌, ◌≤◌, Bool, true, false, List, [], ◌∷◌, length, slice_index, Option, Some, None}
use mathlib.Core.Option.{some}
use mathlib.Core.Option as maybe
use lib.ListN.{get_elem?}
use Rattle.atomic_table.specs.Table.{State}
use Rattle.chart.specs.declared.history.Occurrence.{Occurrence}
use Rattle.chart.specs.Histories.{own, received, is_closed, AreTwo, IsLegal, Begins}
use Rattle.board_core.specs.Parcels.{goods}
use Rattle.board_core.specs.Differences.{zeros}
use Rattle.board_table.specs.declared.packet.Packet.{Packet}
use Rattle.board_table.specs.declared.held.Held.{Held}
use Rattle.board_table.specs.Layout.{LaneView, board_lane, put_word, taken_word, word_count, slot_of, slot_count}
use Rattle.board_table.specs.Carrying.{AreCarried}
use Rattle.board_table.specs.Knowing.{filling_to, emptying_from, new_held}

-- what a lane's first word has besides the count: whether the lane is closed
abbrev pub closed_bit : Bool → ℕ
closed_bit true = 1
closed_bit false = 0

-- the packets put on a lane, and how many of its slots are out with its sender and with its receiver
pub record LaneNow : Type 0 where
  pub packets : List Packet
  pub filling : ℕ
  pub emptying : ℕ

-- the words and the slots at home agree with the lane's history and with its present state
pub record IsLane (l : LaneView) (log : List Occurrence) (now : LaneNow) (words : List ℕ)
    (homes : List (maybe.Option (Option Packet))) : Type 0 where
  pub carried : AreCarried (zeros l.instances) now.packets (goods l.instances log l.sender l.receiver)
  pub put_is : slice_index words (put_word l.instances l.sender l.receiver)
      ≡ 2 * length now.packets + closed_bit (is_closed log l.sender l.receiver)
  pub taken_is : slice_index words (taken_word l.instances l.sender l.receiver) ≡ received log l.sender l.receiver
  pub behind : received log l.sender l.receiver + now.emptying ≤ length now.packets
  pub room : length now.packets + now.filling ≤ received log l.sender l.receiver + l.capacity
  pub full : (c : ℕ) (x : Packet) → received log l.sender l.receiver + now.emptying ≤ c
      → get_elem? now.packets c ≡ some x
      → get_elem? homes (slot_of l.instances l.capacity l.sender l.receiver c) ≡ some (some (Some x))
  pub empty : (c : ℕ) → length now.packets + now.filling ≤ c → c < received log l.sender l.receiver + l.capacity
      → get_elem? homes (slot_of l.instances l.capacity l.sender l.receiver c) ≡ some (some None)

-- the seat of each post's number, with the place in the seat's view. And, by sender and receiver, how many slots of
-- their lane are out with the sender and with the receiver
pub record Seating : Type 0 where
  pub seat : ℕ → ℕ × ℕ
  pub filling : ℕ → ℕ → ℕ
  pub emptying : ℕ → ℕ → ℕ

-- the seat of the post's number is this one, and the slots that are out with the post are those that it knows of
pub record IsSeated (seats : Seating) (id place : ℕ) (e : Held) : Type 0 where
  pub here : seats.seat e.number ≡ (id, place)
  pub fills : (p : ℕ) → seats.filling e.number p ≡ filling_to e.hold p
  pub empties : (q : ℕ) → seats.emptying q e.number ≡ emptying_from e.hold q

-- What a seat knows at this place of its view agrees with the history: the post has seen a beginning of it, which has
-- all that the post made. A number above the board's size is that of a note, which owns nothing.
pub record Fits (n k : ℕ) (log : List Occurrence) (seats : Seating) (id place : ℕ) (e : Held) : Type 0 where
  pub instances : e.instances ≡ n
  pub capacity : e.capacity ≡ k
  pub seen : Begins e.seen log
  pub legal : IsLegal n k e.seen
  pub made : own log e.number ≡ e.made
  pub own : own e.seen e.number ≡ e.made
  pub seated : 1 ≤ e.number → e.number ≤ n → IsSeated seats id place e

pub record Kept (n k : ℕ) (s : State (Option Packet) (List Held)) : Type 0 where
  pub log : List Occurrence
  pub seats : Seating
  -- by sender and receiver
  pub packets : ℕ → ℕ → List Packet
  pub legal : IsLegal n k log
  pub words_are : length s.words ≡ word_count n
  pub slots_are : length s.homes ≡ slot_count n k
  pub lanes : (q p : ℕ) → AreTwo n q p → IsLane (board_lane n k q p) log (record {
    packets = packets q p;
    filling = seats.filling q p;
    emptying = seats.emptying q p;
  }) s.words s.homes
  pub entries : (id place : ℕ) (v : List Held) (e : Held) → get_elem? s.views id ≡ some v → get_elem? v place ≡ some e
      → Fits n k log seats id place e

-- what the first seat knows of `many` posts from this number on
abbrev pub new_helds : ℕ → ℕ → ℕ → ℕ → List Held
new_helds n k number zero = []
new_helds n k number (suc many) = new_held n k number ∷ new_helds n k (suc number) many
