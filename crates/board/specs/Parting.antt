-- What the parts of a gathering state to each other (this project's profile).
use Rattle.std.specs.Prelude.{◌≡◌, ℕ, suc, ◌+◌, ◌<◌, ◌≤◌, ◌==◌, List, [], ◌∷◌, ◌++◌, length, map, filter, take, drop, All, slice_get, vec_capacity, Option, Some}
use Rattle.std.specs.Global.{Vec}
use Rattle.chart.specs.Words.{Instance}
use Rattle.chart.specs.declared.event.Event.{Event}
use Rattle.chart.specs.declared.history.Occurrence.{Occurrence}
use Rattle.chart.specs.declared.line.TheConstants.{MAX_EVENTS}
use Rattle.chart.specs.Charts.{LineView}
use Rattle.chart.specs.Messages.{Content}
use Rattle.chart.specs.Histories.{received, waiting, chart_of, AreTwo}
use Rattle.chart.specs.HistoryLines.{history_lines}
use Rattle.atomic_table.specs.Seated.{TableId}
use Rattle.board_table.specs.declared.packet.Packet.{Packet}
use Rattle.board_table.specs.Layout.{LaneView, board_lane}
use Rattle.board_table.specs.Leaving.{ComeFirst, HaveLeft}
use Rattle.board.specs.declared.gathering.ClosedLane.{ClosedLane}
use Rattle.board.specs.declared.parting.Leaver.{Leaver}
use Rattle.board.specs.declared.parting.Room.{Room}
use Rattle.board.specs.Views.{BoardView, PostView}
use Rattle.board.specs.Meeting.{HasPost}
use Rattle.board.specs.Gathering.{AreJoint, LaneEnds, lane_to, is_waiting, is_closed_lane, closed_view}

abbrev pub Slots : Type 0
Slots = List (ℕ × Option Packet)

abbrev pub messages_in : List Packet → List Content
messages_in packets = map (λ (x : Packet). x.message) packets

-- of the lane's `many` packets that came first, the first `place` ones have been drawn, and their slots are after the
-- others now
pub record HasDrained (l : LaneView) (taken many place : ℕ) (first now : Slots) (messages : List Content) : Type 0 where
  pub drained : (packets : List Packet) (others : Slots)
      → ComeFirst l taken packets first others → length packets ≡ many
      → (messages ≡ take place (messages_in packets)) × (more : Slots)
      × ComeFirst l (taken + place) (drop place packets) now (others ++ more)

-- the post is one of these
abbrev pub IsAmong : List PostView → PostView → Type 0
IsAmong posts post = (i : ℕ) × (slice_get posts i ≡ Some post)

-- they are posts of one board of n instances with lanes of k slots, and there is one of each number
pub record AreOf (n k : ℕ) (posts : List PostView) : Type 0 where
  pub size : (i : ℕ) (post : PostView) → slice_get posts i ≡ Some post
      → (post.board.size ≡ n) × (post.board.capacity ≡ k)
  pub same_board : (i j : ℕ) (x y : PostView) → slice_get posts i ≡ Some x → slice_get posts j ≡ Some y
      → x.board ≡ y.board
  pub all : (number : ℕ) → 1 ≤ number → number ≤ n → HasPost posts number

abbrev pub room_lane : Room → LaneEnds
room_lane room = lane_to room.sender room.receiver

-- there is room for exactly the messages that wait on the lane from q to p after the history
pub record IsRoom (h : List Occurrence) (n k q p : ℕ) (room : Room) : Type 0 where
  pub two : AreTwo n q p
  pub lane : room.lane ≡ record { instances = n; capacity = k; sender = q; receiver = p }
  pub sender : room.sender ≡ q
  pub receiver : room.receiver ≡ p
  pub taken : room.taken ≡ received h q p
  pub many : room.many ≡ length (waiting h q p)
  pub empty : room.messages.items ≡ []
  pub enough : room.many ≤ vec_capacity room.messages
  pub within_limit : room.taken + room.many ≤ MAX_EVENTS

abbrev pub IsLaneRoom : List Occurrence → ℕ → ℕ → Room → Type 0
IsLaneRoom h n k room = IsRoom h n k room.sender room.receiver room

-- each of these lanes on which messages wait has its room
pub record HaveRooms (n k : ℕ) (posts : List PostView) (lanes : List LaneEnds) (rooms : List Room) : Type 0 where
  pub live : (h : List Occurrence) → AreJoint h posts → map room_lane rooms ≡ filter (is_waiting h) lanes
  pub each : (h : List Occurrence) → AreJoint h posts → All (IsLaneRoom h n k) rooms

-- these are the closed ones of the lanes, by any history that the posts have in common
abbrev pub AreClosed : List PostView → List LaneEnds → List ClosedLane → Type 0
AreClosed posts lanes closed = (h : List Occurrence) → AreJoint h posts
    → map closed_view closed ≡ filter (is_closed_lane h) lanes

-- an empty list with room for exactly the events of p's line after the history
pub record IsForLine (h : List Occurrence) (p : ℕ) (events : Vec Event) : Type 0 where
  pub empty : events.items ≡ []
  pub exact : vec_capacity events ≡ length (chart_of h p)

-- such a list for each instance after the first `many` ones, in order of their numbers
abbrev pub AreForLinesBehind : List Occurrence → ℕ → List (Vec Event) → Type 0
AreForLinesBehind h many [] = Unit {0}
AreForLinesBehind h many (events ∷ lists) = IsForLine h (many + 1) events × AreForLinesBehind h (many + 1) lists

-- such a list for each of n instances
pub record AreForLines (h : List Occurrence) (n : ℕ) (lists : List (Vec Event)) : Type 0 where
  pub as_many : length lists ≡ n
  pub each : AreForLinesBehind h 0 lists

-- Posts that have met, and what they leave.

-- a post of this board that has seen the history
pub record HasMet (n k : ℕ) (table : TableId) (h : List Occurrence) (post : PostView) : Type 0 where
  pub board : post.board ≡ record { table = table; size = n; capacity = k }
  pub seen : post.seen ≡ h

-- all of these posts have seen the history, and there is one of each number above `from`
pub record HaveSeen (n k : ℕ) (table : TableId) (h : List Occurrence) (from : ℕ) (posts : List PostView) : Type 0 where
  pub each : (i : ℕ) (post : PostView) → slice_get posts i ≡ Some post → HasMet n k table h post
  pub all : (number : ℕ) → from < number → number ≤ n → HasPost posts number

-- the lines of the first `many` posts, which have left with the messages that wait for them
pub record HaveParted (board : BoardView) (h : List Occurrence) (many : ℕ) (lines : List LineView)
    (leavers : List Leaver) : Type 0 where
  pub lined : lines ≡ history_lines many h
  pub as_many : length leavers ≡ many
  pub seated : (i : ℕ) (leaver : Leaver) → slice_get leavers i ≡ Some leaver → leaver.seat.table_id ≡ board.table
  pub left : (i : ℕ) (leaver : Leaver) → slice_get leavers i ≡ Some leaver
      → HaveLeft board.size board.capacity (suc i) h 1 board.size leaver.seat.me.1

-- The messages of the lanes, to be drawn one lane after another.

-- who sends to p on these lanes
abbrev pub senders_to : ℕ → List LaneEnds → List Instance
senders_to p lanes = map (λ (lane : LaneEnds). lane.sender) (filter (λ (lane : LaneEnds). lane.receiver == p) lanes)

-- the slots have, for each of these senders in turn, the messages that wait for p from it, and then others
abbrev pub AreNext : ℕ → ℕ → ℕ → List Occurrence → List Instance → Slots → Type 0
AreNext n k p h [] slots = Unit {0}
AreNext n k p h (q ∷ qs) slots = (packets : List Packet) × (others : Slots)
    × ComeFirst (board_lane n k q p) (received h q p) packets slots others × (messages_in packets ≡ waiting h q p)
    × AreNext n k p h qs others

pub record AreReady (n k : ℕ) (table : TableId) (h : List Occurrence) (lanes : List LaneEnds)
    (leavers : List Leaver) : Type 0 where
  pub as_many : length leavers ≡ n
  pub seated : (i : ℕ) (leaver : Leaver) → slice_get leavers i ≡ Some leaver → leaver.seat.table_id ≡ table
  pub next : (i : ℕ) (leaver : Leaver) → slice_get leavers i ≡ Some leaver
      → AreNext n k (suc i) h (senders_to (suc i) lanes) leaver.seat.me.1
