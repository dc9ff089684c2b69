-- What an end does when it continues alone: calls, one after another (this project's profile).
use Rattle.std.specs.Prelude.{◌≡◌, ℕ, ◌-◌, ◌<◌, ◌≤◌, Bool, false, ◌&&◌, List, [], ◌∷◌, ◌++◌, length, take, if◌then◌else◌}
use Rattle.lane_core.specs.declared.answers.Room.{Room}
use Rattle.lane_core.specs.declared.answers.Room.TheVariants.{Vacant, Full}
use Rattle.lane_core.specs.declared.answers.Found.{Found}
use Rattle.lane_core.specs.declared.answers.Found.TheVariants.{Message, Nothing, Ended}
use Rattle.lane_core.specs.Forms.{Form, IsRun, traffic_of, sender_finds, receiver_finds, sender_keeps, receiver_keeps}
use Rattle.lane_core.specs.Steps.{Step, Sender_loads, Fills, Publishes, Receiver_loads, Takes, Frees}
use Rattle.lane_core.specs.Traffic.{Traffic, waiting}

-- the steps of a receive that finds this, the newest first
abbrev pub receive_call : {M : Type 0} → Found → List (Step M) → List (Step M)
receive_call Message h = Frees ∷ Takes ∷ Receiver_loads ∷ h
receive_call Nothing h = Receiver_loads ∷ h
receive_call Ended h = Receiver_loads ∷ h

-- the run with receives after it. `keeps` allows a receive to use what was loaded earlier: it then makes no load if its
-- end claims a message by this
abbrev pub receives : {M : Type 0} → Form M → ℕ → List Bool → List (Step M) → List (Step M)
receives form k [] h = h
receives form k (keeps ∷ calls) h =
    receives form k calls (if keeps && receiver_keeps form k h then Frees ∷ Takes ∷ h else receive_call
    (receiver_finds form k h) h)

-- the steps of a send of this message that finds this, the newest first
abbrev pub send_call : {M : Type 0} → Room → M → List (Step M) → List (Step M)
send_call Vacant m h = Publishes ∷ Fills m ∷ Sender_loads ∷ h
send_call Full m h = Sender_loads ∷ h

-- a send of a message, and whether it may use what was loaded earlier
pub record SendCall (M : Type 0) : Type 0 where
  pub message : M
  pub keeps : Bool

-- the messages of these sends
abbrev pub messages : {M : Type 0} → List (SendCall M) → List M
messages [] = []
messages (call ∷ calls) = call.message ∷ messages calls

-- the run with sends after it. A send that may use what was loaded earlier makes no load if its end claims a slot by
-- this
abbrev pub sends : {M : Type 0} → Form M → ℕ → List (SendCall M) → List (Step M) → List (Step M)
sends form k [] h = h
sends form k (call ∷ calls) h =
    sends form k calls (
    if call.keeps && sender_keeps form k h then Publishes ∷ Fills call.message
    ∷ h else send_call (sender_finds form k h) call.message h)

-- the effect of `many` receives after a run with the traffic t, which lead to the run h. They are allowed steps, and
-- free the first of the waiting messages. Then a load finds a message while one of these is left, and otherwise the end
-- or nothing
abbrev pub AreReceived : {M : Type 0} → Form M → ℕ → Traffic M → ℕ → List (Step M) → Type 0
AreReceived form k t many h =
    IsRun form k h
    × ((traffic_of form k h).freed ≡ t.freed ++ take many (waiting t))
    × (many < length (waiting t) → receiver_finds form k h ≡ Message)
    × (length (waiting t) ≤ many → (receiver_finds form k h ≡ (if t.closed then Ended else Nothing))
    × (receiver_keeps form k h ≡ false))

-- the law for a receiver between two calls that continues alone
abbrev pub ReceiverAlone : {M : Type 0} → Form M → Type 0
ReceiverAlone {M} form = (k : ℕ) (h : List (Step M)) → 1 ≤ k → IsRun form k h → (traffic_of form k h).emptying ≡ []
    → (calls : List Bool) → AreReceived form k (traffic_of form k h) (length calls) (receives form k calls h)

-- the effect of these sends after a run with the traffic t, which lead to the run h. They are allowed steps, and
-- publish the first of their messages up to the capacity. Then a load finds room until the capacity is reached, and
-- otherwise a full lane
abbrev pub AreSent : {M : Type 0} → Form M → ℕ → Traffic M → List (SendCall M) → List (Step M) → Type 0
AreSent form k t calls h =
    IsRun form k h
    × ((traffic_of form k h).published ≡ t.published ++ take (k - length (waiting t)) (messages calls))
    × (length calls < k - length (waiting t) → sender_finds form k h ≡ Vacant)
    × (k - length (waiting t) ≤ length calls → (sender_finds form k h ≡ Full) × (sender_keeps form k h ≡ false))

-- the law for a sender between two calls that continues alone on an open lane
abbrev pub SenderAlone : {M : Type 0} → Form M → Type 0
SenderAlone {M} form = (k : ℕ) (h : List (Step M)) → 1 ≤ k → IsRun form k h
    → (traffic_of form k h).filling ≡ [] → (traffic_of form k h).closed ≡ false → (calls : List (SendCall M))
    → AreSent form k (traffic_of form k h) calls (sends form k calls h)
