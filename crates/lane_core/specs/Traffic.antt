-- What passes through a lane whose messages are of the type M: the slots, the messages in the ends' hands, and the
-- messages of the run so far (this project's profile). No end sees this: an end has its own numbers, and the words that
-- it loads.
use Rattle.std.specs.Prelude.{ℕ, ◌==◌, Bool, true, false, List, [], ◌∷◌, ◌++◌, length, drop, reverse, Option, None, Some, if◌then◌else◌}

pub record Traffic (M : Type 0) : Type 0 where
  -- what each slot holds
  pub slots : ℕ → Option M
  -- the messages that the sender put into slots and has not published, in order
  pub filling : List M
  -- the messages that the receiver took out of slots and has neither freed nor put back, the newest first
  pub emptying : List M
  -- the messages published, in order
  pub published : List M
  -- the messages freed, in order
  pub freed : List M
  -- whether the lane was closed
  pub closed : Bool

-- before the first step
abbrev pub no_traffic : {M : Type 0} → Traffic M
no_traffic = record { slots = λ i. None; filling = []; emptying = []; published = []; freed = []; closed = false }

-- the contents of the slots, with this in one slot
abbrev pub with_at : {A : Type 0} → (ℕ → A) → ℕ → A → ℕ → A
with_at at slot a i = if i == slot then a else at i

-- the message of a slot, if it has one
abbrev pub message_in : {M : Type 0} → Option M → List M
message_in None = []
message_in (Some m) = m ∷ []

-- the sender puts a message into a slot
abbrev pub put_in : {M : Type 0} → Traffic M → ℕ → M → Traffic M
put_in t slot m = record t { slots = with_at t.slots slot (Some m); filling = t.filling ++ m ∷ [] }

-- the messages that the sender put in are published
abbrev pub published_all : {M : Type 0} → Traffic M → Traffic M
published_all t = record t { published = t.published ++ t.filling; filling = [] }

-- the lane is closed, and messages that were put in and not published never are
abbrev pub closed_off : {M : Type 0} → Traffic M → Traffic M
closed_off t = record t { filling = []; closed = true }

-- the receiver takes the content of a slot
abbrev pub taken_out : {M : Type 0} → Traffic M → ℕ → Traffic M
taken_out t slot = record t { slots = with_at t.slots slot None; emptying = message_in (t.slots slot) ++ t.emptying }

-- the receiver puts the message that it took last back into a slot
abbrev pub back_in : {M : Type 0} → Traffic M → List M → ℕ → Traffic M
back_in t [] slot = t
back_in t (m ∷ ms) slot = record t { slots = with_at t.slots slot (Some m); emptying = ms }

-- the messages that the receiver took are freed
abbrev pub freed_all : {M : Type 0} → Traffic M → Traffic M
freed_all t = record t { freed = t.freed ++ reverse t.emptying; emptying = [] }

-- the waiting messages: the published ones without the first ones, as many as were freed
abbrev pub waiting : {M : Type 0} → Traffic M → List M
waiting t = drop (length t.freed) t.published
