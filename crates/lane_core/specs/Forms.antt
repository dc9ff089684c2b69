-- The forms of a lane, and the runs of any form (this project's profile). A run is a list of steps, the newest first.
use Rattle.std.specs.Prelude.{ℕ, Bool, List, [], ◌∷◌}
use Rattle.lane_core.specs.declared.answers.Room.{Room}
use Rattle.lane_core.specs.declared.answers.Found.{Found}
use Rattle.lane_core.specs.Steps.{Step}
use Rattle.lane_core.specs.Traffic.{Traffic}

-- a form of lanes whose messages are of the type M: what a lane is, how a step changes it, and what its ends know
pub record Form (M : Type 0) : Type 1 where
  pub Lane : Type 0
  -- a new lane of this many slots
  pub new_lane : ℕ → Lane
  pub after : Lane → Step M → Lane
  -- the step is allowed, by its end's own numbers
  pub MayFollow : Lane → Step M → Type 0
  -- slots, hands and content
  pub traffic : Lane → Traffic M
  -- what an end would find by a load now
  pub sender_finds : Lane → Room
  pub receiver_finds : Lane → Found
  -- an end claims the slot of this count
  pub SenderClaims : Lane → ℕ → Type 0
  pub ReceiverClaims : Lane → ℕ → Type 0
  -- the counts whose slots the sender fills next, the receiver takes from next, and the receiver puts back into next
  pub fills_next : Lane → ℕ
  pub takes_next : Lane → ℕ
  pub puts_back_next : Lane → ℕ
  -- an end claims a slot to fill, or to take from, by what it loaded earlier
  pub sender_keeps : Lane → Bool
  pub receiver_keeps : Lane → Bool

-- the lane of k slots after these steps
abbrev pub lane_after : {M : Type 0} → (form : Form M) → ℕ → List (Step M) → form.Lane
lane_after form k [] = form.new_lane k
lane_after form k (e ∷ h) = form.after (lane_after form k h) e

-- each step was allowed when it was made
abbrev pub IsRun : {M : Type 0} → Form M → ℕ → List (Step M) → Type 0
IsRun form k [] = Unit {0}
IsRun form k (e ∷ h) = form.MayFollow (lane_after form k h) e × IsRun form k h

-- what passed through the lane in these steps
abbrev pub traffic_of : {M : Type 0} → Form M → ℕ → List (Step M) → Traffic M
traffic_of form k h = form.traffic (lane_after form k h)

-- What the ends know after these steps.

abbrev pub sender_finds : {M : Type 0} → Form M → ℕ → List (Step M) → Room
sender_finds form k h = form.sender_finds (lane_after form k h)

abbrev pub receiver_finds : {M : Type 0} → Form M → ℕ → List (Step M) → Found
receiver_finds form k h = form.receiver_finds (lane_after form k h)

abbrev pub SenderHas : {M : Type 0} → Form M → ℕ → List (Step M) → ℕ → Type 0
SenderHas form k h count = form.SenderClaims (lane_after form k h) count

abbrev pub ReceiverHas : {M : Type 0} → Form M → ℕ → List (Step M) → ℕ → Type 0
ReceiverHas form k h count = form.ReceiverClaims (lane_after form k h) count

abbrev pub fills_next : {M : Type 0} → Form M → ℕ → List (Step M) → ℕ
fills_next form k h = form.fills_next (lane_after form k h)

abbrev pub takes_next : {M : Type 0} → Form M → ℕ → List (Step M) → ℕ
takes_next form k h = form.takes_next (lane_after form k h)

abbrev pub puts_back_next : {M : Type 0} → Form M → ℕ → List (Step M) → ℕ
puts_back_next form k h = form.puts_back_next (lane_after form k h)

abbrev pub sender_keeps : {M : Type 0} → Form M → ℕ → List (Step M) → Bool
sender_keeps form k h = form.sender_keeps (lane_after form k h)

abbrev pub receiver_keeps : {M : Type 0} → Form M → ℕ → List (Step M) → Bool
receiver_keeps form k h = form.receiver_keeps (lane_after form k h)
