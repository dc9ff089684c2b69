-- The messages that leave a board with the post for which they wait, in the slots that are out with its seat (this
-- project's profile).
use Rattle.std.specs.Prelude.{◌≡◌, ℕ, zero, suc, List, ◌++◌, map, Option}
use Rattle.chart.specs.declared.history.Occurrence.{Occurrence}
use Rattle.chart.specs.Histories.{received, waiting}
use Rattle.board_table.specs.declared.packet.Packet.{Packet}
use Rattle.board_table.specs.Layout.{LaneView, board_lane}
use Rattle.board_table.specs.Carrying.{full_slots}
use Rattle.board_table.specs.Knowing.{Mine, held}

-- the slots begin with those of these packets, from the lane's c-th message on, and then come others
pub record ComeFirst (l : LaneView) (c : ℕ) (packets : List Packet) (slots others : List (ℕ × Option Packet))
    : Type 0 where
  pub are : slots ≡ full_slots l.instances l.capacity l.sender l.receiver c packets ++ others

-- for each of `many` senders from q on, the slots have the messages that wait for p, and then others
abbrev pub HaveLeft : ℕ → ℕ → ℕ → List Occurrence → ℕ → ℕ → List (ℕ × Option Packet) → Type 0
HaveLeft n k p h q zero slots = Unit {0}
HaveLeft n k p h q (suc many) slots = (packets : List Packet) × (others : List (ℕ × Option Packet))
    × ComeFirst (board_lane n k q p) (received h q p) packets slots others
    × (map (λ (x : Packet). x.message) packets ≡ waiting h q p) × HaveLeft n k p h (suc q) many others

-- all messages that wait for the post, in what it has seen, have left with it, sorted by sender
abbrev pub Leaves : Mine → Mine → Type 0
Leaves m w = HaveLeft (held m).instances (held m).capacity (held m).number (held m).seen 1 (held m).instances w.1
