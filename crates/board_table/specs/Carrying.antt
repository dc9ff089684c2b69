-- What the slots of a lane carry: messages, each with the entries of the sender's clock that changed since the message
-- before it on the lane. For the first message they are those that changed since zeros (Singhal and Kshemkalyani 1992).
use Rattle.std.specs.Prelude.{◌≡◌, ℕ, zero, suc, ◌≤◌, List, [], ◌∷◌, length, take, All, Option, Some, None}
use Rattle.chart.specs.Words.{Clock}
use Rattle.chart.specs.declared.history.Occurrence.{Occurrence}
use Rattle.chart.specs.declared.history.Occurrence.TheVariants.{Send, Receive}
use Rattle.chart.specs.Histories.{received}
use Rattle.clock.specs.Diffs.{IsDiff, apply_diff}
use Rattle.board_core.specs.Parcels.{Parcel, next_clock, goods}
use Rattle.board_core.specs.Differences.{zeros}
use Rattle.board_table.specs.declared.packet.Packet.{Packet}
use Rattle.board_table.specs.Layout.{slot_of}

-- the packet carries this parcel to an end whose clock is the base: its difference names exactly the changed entries
pub record Carries (base : Clock) (x : Packet) (y : Parcel) : Type 0 where
  pub message : x.message ≡ y.message
  pub within : All (λ change. change.instance ≤ length base) x.diff
  pub exact : IsDiff base y.clock x.diff
  pub clock : apply_diff base x.diff ≡ y.clock

-- these packets carry these parcels, each with its difference from the clock of the one before it
abbrev pub AreCarried : Clock → List Packet → List Parcel → Type 0
AreCarried base [] [] = Unit {0}
AreCarried base [] (y ∷ ys) = ⊥
AreCarried base (x ∷ xs) [] = ⊥
AreCarried base (x ∷ xs) (y ∷ ys) = Carries base x y × AreCarried y.clock xs ys

-- the clock of the last parcel, or the base if there is none
abbrev pub last_clock : Clock → List Parcel → Clock
last_clock base [] = base
last_clock base (y ∷ ys) = last_clock y.clock ys

-- the clock of the last message that q sent to p
abbrev pub sent_base : ℕ → List Occurrence → ℕ → ℕ → Clock
sent_base n h q p = last_clock (zeros n) (goods n h q p)

-- the clock of the last message that p received from q
abbrev pub received_base : ℕ → List Occurrence → ℕ → ℕ → Clock
received_base n h q p = last_clock (zeros n) (take (received h q p) (goods n h q p))

-- these packets are q's next sends to p after the history, from this base: each carries the clock of its send
abbrev pub AreNext : ℕ → Clock → List Occurrence → ℕ → ℕ → List Packet → Type 0
AreNext n base h q p [] = Unit {0}
AreNext n base h q p (x ∷ xs) = Carries base x (record { message = x.message; clock = next_clock n h q })
    × AreNext n (next_clock n h q) (Send q p x.message ∷ h) q p xs

-- the history after q's sends of these to p, one directly after another
abbrev pub with_sent : ℕ → ℕ → List Packet → List Occurrence → List Occurrence
with_sent q p [] h = h
with_sent q p (x ∷ xs) h = with_sent q p xs (Send q p x.message ∷ h)

-- the history after `many` receives of p from q in this coregion, one directly after another
abbrev pub with_received : ℕ → ℕ → ℕ → ℕ → List Occurrence → List Occurrence
with_received p q c zero h = h
with_received p q c (suc many) h = with_received p q c many (Receive p q c ∷ h)

-- Slots that are out with an end: each with its number and what it contains.

-- `many` empty slots, from the slot of the c-th message on
abbrev pub vacant_slots : ℕ → ℕ → ℕ → ℕ → ℕ → ℕ → List (ℕ × Option Packet)
vacant_slots n k q p c zero = []
vacant_slots n k q p c (suc many) = (slot_of n k q p c, None) ∷ vacant_slots n k q p (suc c) many

-- slots with these packets, from the slot of the c-th message on
abbrev pub full_slots : ℕ → ℕ → ℕ → ℕ → ℕ → List Packet → List (ℕ × Option Packet)
full_slots n k q p c [] = []
full_slots n k q p c (x ∷ xs) = (slot_of n k q p c, Some x) ∷ full_slots n k q p (suc c) xs

abbrev with_packet : Option Packet → List Packet → List Packet
with_packet None xs = xs
with_packet (Some x) xs = x ∷ xs

-- the packets in the slots, in order
abbrev pub packets_in : List (ℕ × Option Packet) → List Packet
packets_in [] = []
packets_in (slot ∷ slots) = with_packet slot.1 (packets_in slots)

abbrev with_vacancy : Option Packet → ℕ → ℕ
with_vacancy None many = suc many
with_vacancy (Some x) many = many

-- how many of the slots are empty
abbrev pub vacant_in : List (ℕ × Option Packet) → ℕ
vacant_in [] = 0
vacant_in (slot ∷ slots) = with_vacancy slot.1 (vacant_in slots)
