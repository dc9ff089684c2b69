-- What holds after every run over index words.
use Rattle.std.proofs.Common.{◌≡◌, ℕ, ◌+◌, ◌-◌, ◌*◌, ◌/◌, ◌%◌, ◌<◌, ◌≤◌, ◌==◌, Bool, true, false, List, [], ◌∷◌, length, Some, refl, ap, ◌∙◌, arith}
use Rattle.std.specs.Prelude.{reverse}
use Rattle.std.proofs.lemmas.List.{length_push, length-append, length-reverse}
use Rattle.lane_core.specs.Steps.{Step, Sender_loads, Fills, Publishes, Closes, Receiver_loads, Takes, Puts_back, Frees}
use Rattle.lane_core.specs.Traffic.{Traffic, taken_out, back_in}
use Rattle.lane_core.specs.Forms.{lane_after, IsRun}
use Rattle.lane_core.specs.IndexWords.{IndexLane, new_lane, after, MayFollow, fill_count, fill_slot, take_count, take_slot, back_count, back_slot, index_words}
use Rattle.lane_core.proofs.Passing.{Holds, holds_first, holds_filled, holds_published, holds_closed, has_next, holds_taken, holds_back, holds_freed}

-- the low bit of the word put
abbrev pub bit : Bool → ℕ
bit true = 1
bit false = 0

-- words, ends and traffic agree: each count is that of the messages, and what an end loaded last is no more than the
-- count since then
pub record Fits {M : Type 0} (k : ℕ) (l : IndexLane M) : Type 0 where
  pub put : l.put ≡ 2 * l.sender.published + bit l.sender.closed
  pub taken : l.taken ≡ l.receiver.freed
  pub sender_slots : l.sender.capacity ≡ k
  pub receiver_slots : l.receiver.capacity ≡ k
  pub published : l.sender.published ≡ length l.traffic.published
  pub filled : l.sender.filled ≡ length l.traffic.filling
  pub freed : l.receiver.freed ≡ length l.traffic.freed
  pub emptied : l.receiver.emptied ≡ length l.traffic.emptying
  pub closed : l.sender.closed ≡ l.traffic.closed
  pub seen_freed : l.sender.freed ≤ l.receiver.freed
  pub room : l.sender.published + l.sender.filled ≤ l.sender.freed + k
  pub seen_published : l.receiver.published ≤ l.sender.published
  pub behind : l.receiver.freed + l.receiver.emptied ≤ l.receiver.published
  pub holds : Holds k l.traffic

-- half of the word put is the count
pub half : (word n : ℕ) (closed : Bool) → word ≡ 2 * n + bit closed → word / 2 ≡ n
half word n true e = omega arith
half word n false e = omega arith

-- the low bit of the word put is set exactly if the lane is closed
pub low : (word n : ℕ) (closed : Bool) → word ≡ 2 * n + bit closed → (word % 2 == 1) ≡ closed
low word n true e = let odd : word % 2 ≡ 1 = omega arith in rw odd refl
low word n false e = let even : word % 2 ≡ 0 = omega arith in rw even refl

-- the slot of the next message to be filled in
pub next_filled : {M : Type 0} (k : ℕ) (l : IndexLane M) → Fits k l → fill_slot l.sender ≡ (length l.traffic.published + length l.traffic.filling) % k
next_filled k l f =
    let counts : fill_count l.sender ≡ length l.traffic.published + length l.traffic.filling = omega arith in
    ap (λ c. fill_count l.sender % c) f.sender_slots ∙ ap (λ c. c % k) counts

-- the slot of the last taken message
pub last_taken : {M : Type 0} (k : ℕ) (l : IndexLane M) → Fits k l → back_slot l.receiver ≡ (length l.traffic.freed + (length l.traffic.emptying - 1)) % k
last_taken k l f =
    let counts : back_count l.receiver ≡ length l.traffic.freed + (length l.traffic.emptying - 1) = omega arith in
    ap (λ c. back_count l.receiver % c) f.receiver_slots ∙ ap (λ c. c % k) counts

-- the slot of the next message to be taken
pub next_taken : {M : Type 0} (k : ℕ) (l : IndexLane M) → Fits k l → take_slot l.receiver ≡ (length l.traffic.freed + length l.traffic.emptying) % k
next_taken k l f =
    let counts : take_count l.receiver ≡ length l.traffic.freed + length l.traffic.emptying = omega arith in
    ap (λ c. take_count l.receiver % c) f.receiver_slots ∙ ap (λ c. c % k) counts

-- this slot has a message
pub taken_from : {M : Type 0} (k : ℕ) (l : IndexLane M) → Fits k l → MayFollow l Takes → (m : M) × (l.traffic.slots (take_slot l.receiver) ≡ Some m)
taken_from k l f may = has_next k l.traffic f.holds (take_slot l.receiver) (omega arith) (next_taken k l f)

pub first : {M : Type 0} (k : ℕ) → Fits k (new_lane {M = M} k)
first k = record {
  put = refl;
  taken = refl;
  sender_slots = refl;
  receiver_slots = refl;
  published = refl;
  filled = refl;
  freed = refl;
  emptied = refl;
  closed = refl;
  seen_freed = omega arith;
  room = omega arith;
  seen_published = omega arith;
  behind = omega arith;
  holds = holds_first k;
}

-- each step keeps this agreement
pub kept : {M : Type 0} (k : ℕ) (l : IndexLane M) (e : Step M) → Fits k l → MayFollow l e → Fits k (after l e)
kept k l Sender_loads old may = record {
  put = old.put;
  taken = old.taken;
  sender_slots = old.sender_slots;
  receiver_slots = old.receiver_slots;
  published = old.published;
  filled = old.filled;
  freed = old.freed;
  emptied = old.emptied;
  closed = old.closed;
  seen_freed = omega arith;
  room = omega arith;
  seen_published = old.seen_published;
  behind = old.behind;
  holds = old.holds;
}
kept k l (Fills m) old may = record {
  put = old.put;
  taken = old.taken;
  sender_slots = old.sender_slots;
  receiver_slots = old.receiver_slots;
  published = old.published;
  filled = omega (arith, length_push l.traffic.filling m, old.filled);
  freed = old.freed;
  emptied = old.emptied;
  closed = old.closed;
  seen_freed = old.seen_freed;
  room = omega arith;
  seen_published = old.seen_published;
  behind = old.behind;
  holds = holds_filled k l.traffic old.holds (fill_slot l.sender) m (omega arith) (next_filled k l old);
}
kept k l Publishes old may = record {
  put = word l.sender.closed may.0;
  taken = old.taken;
  sender_slots = old.sender_slots;
  receiver_slots = old.receiver_slots;
  published = omega (arith, length-append l.traffic.published l.traffic.filling);
  filled = refl;
  freed = old.freed;
  emptied = old.emptied;
  closed = old.closed;
  seen_freed = old.seen_freed;
  room = omega arith;
  seen_published = omega arith;
  behind = old.behind;
  holds = holds_published k l.traffic old.holds;
}
  where
    word : (closed : Bool) → closed ≡ false → 2 * (l.sender.published + l.sender.filled) ≡ 2 * (l.sender.published + l.sender.filled) + bit closed
    word closed e = rw e (omega arith)
kept k l Closes old may = record {
  put = refl;
  taken = old.taken;
  sender_slots = old.sender_slots;
  receiver_slots = old.receiver_slots;
  published = old.published;
  filled = refl;
  freed = old.freed;
  emptied = old.emptied;
  closed = refl;
  seen_freed = old.seen_freed;
  room = omega arith;
  seen_published = old.seen_published;
  behind = old.behind;
  holds = holds_closed k l.traffic old.holds;
}
kept k l Receiver_loads old may = record {
  put = old.put;
  taken = old.taken;
  sender_slots = old.sender_slots;
  receiver_slots = old.receiver_slots;
  published = old.published;
  filled = old.filled;
  freed = old.freed;
  emptied = old.emptied;
  closed = old.closed;
  seen_freed = old.seen_freed;
  room = old.room;
  seen_published = omega (arith, half l.put l.sender.published l.sender.closed old.put);
  behind = omega (arith, half l.put l.sender.published l.sender.closed old.put);
  holds = old.holds;
}
kept k l Takes old may = record {
  put = old.put;
  taken = old.taken;
  sender_slots = old.sender_slots;
  receiver_slots = old.receiver_slots;
  published = old.published;
  filled = old.filled;
  freed = old.freed;
  emptied = in_hand;
  closed = old.closed;
  seen_freed = old.seen_freed;
  room = old.room;
  seen_published = old.seen_published;
  behind = omega arith;
  holds = holds_taken k l.traffic old.holds (take_slot l.receiver) some (omega arith) (next_taken k l old);
}
  where
    some : length l.traffic.freed + length l.traffic.emptying < length l.traffic.published
    some = omega arith

    in_hand : l.receiver.emptied + 1 ≡ length (taken_out l.traffic (take_slot l.receiver)).emptying
    in_hand = rw ((taken_from k l old may).1) (omega arith)
kept {M} k l Puts_back old may = record {
  put = old.put;
  taken = old.taken;
  sender_slots = old.sender_slots;
  receiver_slots = old.receiver_slots;
  published = on (λ t. l.sender.published ≡ length t.published) old.published (λ m ms. old.published);
  filled = on (λ t. l.sender.filled ≡ length t.filling) old.filled (λ m ms. old.filled);
  freed = on (λ t. l.receiver.freed ≡ length t.freed) old.freed (λ m ms. old.freed);
  emptied = in_hand l.traffic.emptying old.emptied;
  closed = on (λ t. l.sender.closed ≡ t.closed) old.closed (λ m ms. old.closed);
  seen_freed = old.seen_freed;
  room = old.room;
  seen_published = old.seen_published;
  behind = omega arith;
  holds = holds_back k l.traffic old.holds (back_slot l.receiver) (omega arith) (omega arith) (last_taken k l old);
}
  where
    on : (P : Traffic M → Type 0) → P l.traffic → ((m : M) (ms : List M) → P (back_in l.traffic (m ∷ ms) (back_slot l.receiver))) → P (back_in l.traffic l.traffic.emptying (back_slot l.receiver))
    on P same back = elim l.traffic.emptying as (λ ms. P (back_in l.traffic ms (back_slot l.receiver))) [ [] ↦ same | m ∷ ms ↦ back m ms ]

    in_hand : (ms : List M) → l.receiver.emptied ≡ length ms → l.receiver.emptied - 1 ≡ length (back_in l.traffic ms (back_slot l.receiver)).emptying
    in_hand [] e = absurd (omega arith)
    in_hand (m ∷ ms) e = omega arith
kept k l Frees old may = record {
  put = old.put;
  taken = refl;
  sender_slots = old.sender_slots;
  receiver_slots = old.receiver_slots;
  published = old.published;
  filled = old.filled;
  freed = omega (arith, length-append l.traffic.freed (reverse l.traffic.emptying), length-reverse l.traffic.emptying);
  emptied = refl;
  closed = old.closed;
  seen_freed = omega arith;
  room = old.room;
  seen_published = old.seen_published;
  behind = omega arith;
  holds = holds_freed k l.traffic old.holds;
}

-- the agreement holds after every run
pub fits : {M : Type 0} (k : ℕ) (h : List (Step M)) → IsRun (index_words M) k h → Fits k (lane_after (index_words M) k h)
fits k [] run = first k
fits {M} k (e ∷ h) run = kept k (lane_after (index_words M) k h) e (fits k h run.1) run.0
