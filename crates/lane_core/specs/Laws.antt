-- Laws of every run of the two ends of a lane, in either form: statements that `every_run` proves (this project's
-- profile). The messages are of any type M.
use Rattle.std.specs.Prelude.{◌≡◌, ℕ, ◌%◌, ◌≤◌, ◌<◌, ◌↔◌, true, false, List, [], ◌∷◌, ◌++◌, length, None, Some}
use Rattle.lane_core.specs.declared.answers.Room.TheVariants.{Full}
use Rattle.lane_core.specs.declared.answers.Found.TheVariants.{Message, Ended}
use Rattle.lane_core.specs.Forms.{Form, IsRun, traffic_of, sender_finds, receiver_finds, SenderHas, ReceiverHas, fills_next, takes_next, puts_back_next}
use Rattle.lane_core.specs.Steps.{Step, Fills, Takes, Puts_back}
use Rattle.lane_core.specs.Traffic.{waiting}

-- the freed messages are a beginning of the published ones
abbrev pub FreedInOrder : {M : Type 0} → Form M → Type 0
FreedInOrder {M} form = (k : ℕ) (h : List (Step M)) → 1 ≤ k → IsRun form k h
    → (rest : List M) × ((traffic_of form k h).published ≡ (traffic_of form k h).freed ++ rest)

-- at most as many messages wait as there are slots
abbrev pub AtMostCapacity : {M : Type 0} → Form M → Type 0
AtMostCapacity {M} form = (k : ℕ) (h : List (Step M)) → 1 ≤ k → IsRun form k h
    → length (waiting (traffic_of form k h)) ≤ k

-- no slot is claimed by both ends
abbrev pub NoSlotOfBoth : {M : Type 0} → Form M → Type 0
NoSlotOfBoth {M} form = (k : ℕ) (h : List (Step M)) → 1 ≤ k → IsRun form k h
    → (c d : ℕ) → SenderHas form k h c → ReceiverHas form k h d → c % k ≡ d % k → ⊥

-- the sender fills a slot that it claims, which then has the message; on an open lane the slot was empty
abbrev pub FillsOwnSlot : {M : Type 0} → Form M → Type 0
FillsOwnSlot {M} form = (k : ℕ) (h : List (Step M)) (m : M) → 1 ≤ k → IsRun form k (Fills m ∷ h)
    → SenderHas form k h (fills_next form k h)
    × ((traffic_of form k (Fills m ∷ h)).slots (fills_next form k h % k) ≡ Some m)
    × ((traffic_of form k h).closed ≡ false → (traffic_of form k h).slots (fills_next form k h % k) ≡ None)

-- the receiver takes from a slot that it claims, and the slot has a message
abbrev pub TakesOwnMessage : {M : Type 0} → Form M → Type 0
TakesOwnMessage {M} form = (k : ℕ) (h : List (Step M)) → 1 ≤ k → IsRun form k (Takes ∷ h)
    → ReceiverHas form k h (takes_next form k h)
    × ((m : M) × ((traffic_of form k h).slots (takes_next form k h % k) ≡ Some m))

-- the receiver puts the message that it took last back into a slot that it claims, which was empty, and takes from this
-- slot next
abbrev pub PutsBackOwnMessage : {M : Type 0} → Form M → Type 0
PutsBackOwnMessage {M} form = (k : ℕ) (h : List (Step M)) → 1 ≤ k → IsRun form k (Puts_back ∷ h)
    → ReceiverHas form k h (puts_back_next form k h)
    × ((traffic_of form k h).slots (puts_back_next form k h % k) ≡ None)
    × (takes_next form k (Puts_back ∷ h) ≡ puts_back_next form k h)
    × ((m : M) × (before : List M)
    × ((traffic_of form k h).emptying ≡ m ∷ before)
    × ((traffic_of form k (Puts_back ∷ h)).emptying ≡ before)
    × ((traffic_of form k (Puts_back ∷ h)).slots (puts_back_next form k h % k) ≡ Some m))

-- from the close on, the published messages stay the same
abbrev pub NothingAfterClose : {M : Type 0} → Form M → Type 0
NothingAfterClose {M} form = (k : ℕ) (h more : List (Step M)) → 1 ≤ k → IsRun form k (more ++ h)
    → (traffic_of form k h).closed ≡ true
    → ((traffic_of form k (more ++ h)).published ≡ (traffic_of form k h).published)
    × ((traffic_of form k (more ++ h)).closed ≡ true)

-- a load of the sender finds no free slot exactly if k messages wait
abbrev pub FullExactly : {M : Type 0} → Form M → Type 0
FullExactly {M} form = (k : ℕ) (h : List (Step M)) → 1 ≤ k → IsRun form k h
    → sender_finds form k h ≡ Full ↔ length (waiting (traffic_of form k h)) ≡ k

-- a load of the receiver finds a message exactly if one waits
abbrev pub MessageExactly : {M : Type 0} → Form M → Type 0
MessageExactly {M} form = (k : ℕ) (h : List (Step M)) → 1 ≤ k → IsRun form k h
    → receiver_finds form k h ≡ Message ↔ 0 < length (waiting (traffic_of form k h))

-- a load of the receiver finds the end exactly if no message waits and the lane is closed
abbrev pub EndedExactly : {M : Type 0} → Form M → Type 0
EndedExactly {M} form = (k : ℕ) (h : List (Step M)) → 1 ≤ k → IsRun form k h
    → receiver_finds form k h ≡ Ended ↔ ((waiting (traffic_of form k h) ≡ []) × ((traffic_of form k h).closed ≡ true))
