-- What holds after every run over slot words.
use Rattle.std.proofs.Common.{◌≡◌, ℕ, ◌+◌, ◌-◌, ◌%◌, ◌<◌, ◌≤◌, ◌==◌, ◌&&◌, ◌⊎◌, inl, inr, Bool, true, false, List, [], ◌∷◌, length, refl, sym, ap, ◌∙◌, eq-eqb, arith}
use Rattle.std.specs.Prelude.{not, reverse, nat_lt}
use Rattle.std.proofs.Math.Nat.{add-mod_right}
use Rattle.std.proofs.lemmas.Bool.{cases_eq, cases_lt, eqb-true, lt-ltb, ltb-true}
use Rattle.std.proofs.lemmas.List.{length_push, length-append, length-reverse}
use Rattle.lane_core.specs.declared.flag_words.Word.{Word}
use Rattle.lane_core.specs.Steps.{Step, Sender_loads, Fills, Publishes, Closes, Receiver_loads, Takes, Puts_back, Frees}
use Rattle.lane_core.specs.Traffic.{Traffic, with_at, back_in}
use Rattle.lane_core.specs.Forms.{lane_after, IsRun}
use Rattle.lane_core.specs.FlagWords.{FlagLane, new_lane, after, MayFollow, sender_slot, receiver_slot, sender_word, receiver_word, full_word, end_word, free_word, flag_words}
use Rattle.lane_core.proofs.Rings.{other_slot, set_there, set_other}
use Rattle.lane_core.proofs.Passing.{Holds, holds_first, holds_filled, holds_published, holds_closed, has_next, holds_taken, holds_back, holds_freed}

-- how many messages an end's flag stands for
abbrev pub bit : Bool → ℕ
bit true = 1
bit false = 0

-- words, ends and traffic agree. The slots between the two counts are full, and those from the sender's count on are
-- not. Only the sender's slot has the end bit, once the sender has closed. Each end's claim is right
pub record Fits {M : Type 0} (k : ℕ) (l : FlagLane M) : Type 0 where
  pub sender_slots : l.sender.capacity ≡ k
  pub receiver_slots : l.receiver.capacity ≡ k
  pub published : l.sender.put ≡ length l.traffic.published
  pub filled : bit l.sender.filled ≡ length l.traffic.filling
  pub freed : l.receiver.taken ≡ length l.traffic.freed
  pub emptied : bit l.receiver.emptied ≡ length l.traffic.emptying
  pub closed : l.sender.closed ≡ l.traffic.closed
  pub room : l.sender.put + bit l.sender.filled ≤ l.receiver.taken + k
  pub behind : l.receiver.taken + bit l.receiver.emptied ≤ l.sender.put
  pub sender_claims : l.sender.claims ≡ true → l.sender.put < l.receiver.taken + k
  pub receiver_claims : l.receiver.claims ≡ true → l.receiver.taken < l.sender.put
  pub emptied_claims : l.receiver.emptied ≡ true → l.receiver.claims ≡ true
  pub full : (c : ℕ) → l.receiver.taken ≤ c → c < l.receiver.taken + k → (l.words (c % k)).full ≡ nat_lt c l.sender.put
  pub ends : (i : ℕ) → (l.words i).end ≡ (l.sender.closed && (i == l.sender.put % k))
  pub holds : Holds k l.traffic

-- a test that fails
not_less : (a b : ℕ) → b ≤ a → nat_lt a b ≡ false
not_less a b least = go (nat_lt a b) refl
  where
    go : (t : Bool) → nat_lt a b ≡ t → t ≡ false
    go true e = absurd (let less : a < b = ltb-true a b e in omega arith)
    go false e = refl

-- a test that fails
not_same : (a b : ℕ) → (a ≡ b → ⊥) → (a == b) ≡ false
not_same a b other = go (a == b) refl
  where
    go : (t : Bool) → (a == b) ≡ t → t ≡ false
    go true e = absurd (other (eqb-true a b e))
    go false e = refl

-- a count that isn't the last is below it or not, with it or without
same_less : (c n : ℕ) → (c ≡ n → ⊥) → nat_lt c n ≡ nat_lt c (n + 1)
same_less c n other = go (cases_lt c n)
  where
    go : (c < n) ⊎ (n ≤ c) → nat_lt c n ≡ nat_lt c (n + 1)
    go (inl less) = lt-ltb c n less ∙ sym (lt-ltb c (n + 1) (omega arith))
    go (inr more) = not_less c n more ∙ sym (not_less c (n + 1) (omega (arith, apart)))
      where
        apart : n < c
        apart = strictly (cases_lt n c)
          where
            strictly : (n < c) ⊎ (c ≤ n) → n < c
            strictly (inl less) = less
            strictly (inr least) = absurd (other (omega arith))

-- a bit that a step on a word leaves as it was
bit_kept : (part : Word → Bool) (words : ℕ → Word) (slot i : ℕ) (w : Word) → part w ≡ part (words slot) → part (with_at words slot w i) ≡ part (words i)
bit_kept part words slot i w same = go (cases_eq i slot)
  where
    go : (i ≡ slot) ⊎ (i ≡ slot → ⊥) → part (with_at words slot w i) ≡ part (words i)
    go (inl e) = ap part (set_there words slot i w e) ∙ same ∙ ap (λ j. part (words j)) (sym e)
    go (inr other) = ap part (set_other words slot i w other)

module _ {M : Type 0} (k : ℕ) (l : FlagLane M) (some : 1 ≤ k) (f : Fits k l) where
  -- the sender's slot
  pub at_sender : sender_slot l.sender ≡ l.sender.put % k
  at_sender = ap (λ c. l.sender.put % c) f.sender_slots

  -- the receiver's slot
  pub at_receiver : receiver_slot l.receiver ≡ l.receiver.taken % k
  at_receiver = ap (λ c. l.receiver.taken % c) f.receiver_slots

  -- the sender's next slot isn't full if fewer messages wait than there are slots
  pub word_open : l.sender.put < l.receiver.taken + k → (sender_word l).full ≡ false
  word_open less = ap (λ i. (l.words i).full) at_sender ∙ f.full l.sender.put (omega arith) less ∙ not_less l.sender.put l.sender.put (omega arith)

  -- the sender's next slot is full if as many messages wait as there are slots
  pub word_full : l.sender.put ≡ l.receiver.taken + k → (sender_word l).full ≡ true
  word_full e =
      ap (λ i. (l.words i).full) (at_sender ∙ ap (λ c. c % k) e ∙ add-mod_right l.receiver.taken k)
      ∙ f.full l.receiver.taken (omega arith) (omega arith)
      ∙ lt-ltb l.receiver.taken l.sender.put (omega arith)

  -- the receiver's next slot is full exactly if a message waits
  pub word_waits : (receiver_word l).full ≡ nat_lt l.receiver.taken l.sender.put
  word_waits = ap (λ i. (l.words i).full) at_receiver ∙ f.full l.receiver.taken (omega arith) (omega arith)

  -- the sender's next slot is free, or the lane is full
  pub word_cases : (l.sender.put < l.receiver.taken + k) ⊎ (l.sender.put ≡ l.receiver.taken + k)
  word_cases = go (cases_lt l.sender.put (l.receiver.taken + k))
    where
      go : (l.sender.put < l.receiver.taken + k) ⊎ (l.receiver.taken + k ≤ l.sender.put) → (l.sender.put < l.receiver.taken + k) ⊎ (l.sender.put ≡ l.receiver.taken + k)
      go (inl less) = inl less
      go (inr more) = inr (omega arith)

  -- what the sender claims by a load
  loaded_claims : not (sender_word l).full ≡ true → l.sender.put < l.receiver.taken + k
  loaded_claims claims = go word_cases
    where
      go : (l.sender.put < l.receiver.taken + k) ⊎ (l.sender.put ≡ l.receiver.taken + k) → l.sender.put < l.receiver.taken + k
      go (inl less) = less
      go (inr e) = let no : false ≡ true = ap not (sym (word_full e)) ∙ claims in cc

  -- the words after a publish
  full_published : (c : ℕ) → l.receiver.taken ≤ c → c < l.receiver.taken + k → l.sender.put < l.receiver.taken + k → (with_at l.words (sender_slot l.sender) (full_word (sender_word l)) (c % k)).full ≡ nat_lt c (l.sender.put + 1)
  full_published c low high room = go (cases_eq c l.sender.put)
    where
      slot : ℕ
      slot = sender_slot l.sender

      differs : (c ≡ l.sender.put → ⊥) → (c < l.sender.put) ⊎ (l.sender.put ≤ c) → c % k ≡ sender_slot l.sender → ⊥
      differs other (inl less) same = other_slot k c l.sender.put less (omega arith) (same ∙ at_sender)
      differs other (inr more) same = above (cases_lt l.sender.put c)
        where
          above : (l.sender.put < c) ⊎ (c ≤ l.sender.put) → ⊥
          above (inl less) = other_slot k l.sender.put c less (omega arith) (sym (same ∙ at_sender))
          above (inr least) = other (omega arith)

      go : (c ≡ l.sender.put) ⊎ (c ≡ l.sender.put → ⊥) → (with_at l.words (sender_slot l.sender) (full_word (sender_word l)) (c % k)).full ≡ nat_lt c (l.sender.put + 1)
      go (inl e) = ap (λ (w : Word). w.full) (set_there l.words (sender_slot l.sender) (c % k) (full_word (sender_word l)) (ap (λ n. n % k) e ∙ sym at_sender)) ∙ sym (lt-ltb c (l.sender.put + 1) (omega arith))
      go (inr other) = ap (λ (w : Word). w.full) (set_other l.words (sender_slot l.sender) (c % k) (full_word (sender_word l)) (differs other (cases_lt c l.sender.put))) ∙ f.full c low high ∙ same_less c l.sender.put other

  -- the words after a close
  ends_closed : l.sender.closed ≡ false → (i : ℕ) → (with_at l.words (sender_slot l.sender) (end_word (sender_word l)) i).end ≡ (i == l.sender.put % k)
  ends_closed opened i = go (cases_eq i (l.sender.put % k))
    where
      go : (i ≡ l.sender.put % k) ⊎ (i ≡ l.sender.put % k → ⊥) → (with_at l.words (sender_slot l.sender) (end_word (sender_word l)) i).end ≡ (i == l.sender.put % k)
      go (inl e) = ap (λ (w : Word). w.end) (set_there l.words (sender_slot l.sender) i (end_word (sender_word l)) (e ∙ sym at_sender)) ∙ sym (eq-eqb i (l.sender.put % k) e)
      go (inr other) = ap (λ (w : Word). w.end) (set_other l.words (sender_slot l.sender) i (end_word (sender_word l)) (λ e. other (e ∙ at_sender))) ∙ f.ends i ∙ ap (λ b. b && (i == l.sender.put % k)) opened ∙ sym (not_same i (l.sender.put % k) other)

  -- the words after a free
  full_freed : (c : ℕ) → l.receiver.taken + 1 ≤ c → c < (l.receiver.taken + 1) + k → (with_at l.words (receiver_slot l.receiver) (free_word (receiver_word l)) (c % k)).full ≡ nat_lt c l.sender.put
  full_freed c low high = go (cases_lt c (l.receiver.taken + k))
    where
      go : (c < l.receiver.taken + k) ⊎ (l.receiver.taken + k ≤ c) → (with_at l.words (receiver_slot l.receiver) (free_word (receiver_word l)) (c % k)).full ≡ nat_lt c l.sender.put
      go (inl less) = ap (λ (w : Word). w.full) (set_other l.words (receiver_slot l.receiver) (c % k) (free_word (receiver_word l)) (λ same. other_slot k l.receiver.taken c (omega arith) less (sym (same ∙ at_receiver)))) ∙ f.full c (omega arith) less
      go (inr last) =
          let e : c ≡ l.receiver.taken + k = omega arith in
          ap (λ (w : Word). w.full) (set_there l.words (receiver_slot l.receiver) (c % k) (free_word (receiver_word l)) (ap (λ n. n % k) e ∙ add-mod_right l.receiver.taken k ∙ sym at_receiver)) ∙ sym (not_less c l.sender.put (omega arith))

  -- the slot that the receiver takes from has a message
  pub next_there : l.receiver.claims ≡ true → l.receiver.emptied ≡ false → length l.traffic.freed + length l.traffic.emptying < length l.traffic.published
  next_there claims fresh = omega (arith, f.receiver_claims claims, ap bit fresh)

  -- the receiver's next slot is that of the number of messages freed
  pub next_slot : l.receiver.emptied ≡ false → receiver_slot l.receiver ≡ (length l.traffic.freed + length l.traffic.emptying) % k
  next_slot fresh = let counts : l.receiver.taken ≡ length l.traffic.freed + length l.traffic.emptying = omega (arith, ap bit fresh) in at_receiver ∙ ap (λ c. c % k) counts

  -- the same for the slot from which it took
  pub last_slot : l.receiver.emptied ≡ true → receiver_slot l.receiver ≡ (length l.traffic.freed + (length l.traffic.emptying - 1)) % k
  last_slot hand = let counts : l.receiver.taken ≡ length l.traffic.freed + (length l.traffic.emptying - 1) = omega (arith, ap bit hand) in at_receiver ∙ ap (λ c. c % k) counts

first : {M : Type 0} (k : ℕ) → Fits k (new_lane {M = M} k)
first k = record {
  sender_slots = refl;
  receiver_slots = refl;
  published = refl;
  filled = refl;
  freed = refl;
  emptied = refl;
  closed = refl;
  room = omega arith;
  behind = omega arith;
  sender_claims = λ (no : false ≡ true). cc;
  receiver_claims = λ (no : false ≡ true). cc;
  emptied_claims = λ (no : false ≡ true). cc;
  full = λ c low high. sym (not_less c 0 (omega arith));
  ends = λ i. refl;
  holds = holds_first k;
}

-- each step keeps this agreement
kept : {M : Type 0} (k : ℕ) (l : FlagLane M) (e : Step M) → 1 ≤ k → Fits k l → MayFollow l e → Fits k (after l e)
kept k l Sender_loads some old may = record {
  sender_slots = old.sender_slots;
  receiver_slots = old.receiver_slots;
  published = old.published;
  filled = old.filled;
  freed = old.freed;
  emptied = old.emptied;
  closed = old.closed;
  room = old.room;
  behind = old.behind;
  sender_claims = loaded_claims k l some old;
  receiver_claims = old.receiver_claims;
  emptied_claims = old.emptied_claims;
  full = old.full;
  ends = old.ends;
  holds = old.holds;
}
kept k l (Fills m) some old may =
    let fresh = ap bit may.1 in
    let room = old.sender_claims may.0 in
    let counts : l.sender.put ≡ length l.traffic.published + length l.traffic.filling = omega (arith, fresh) in
    record {
      sender_slots = old.sender_slots;
      receiver_slots = old.receiver_slots;
      published = old.published;
      filled = omega (arith, fresh, length_push l.traffic.filling m);
      freed = old.freed;
      emptied = old.emptied;
      closed = old.closed;
      room = omega (arith, room);
      behind = old.behind;
      sender_claims = old.sender_claims;
      receiver_claims = old.receiver_claims;
      emptied_claims = old.emptied_claims;
      full = old.full;
      ends = old.ends;
      holds = holds_filled k l.traffic old.holds (sender_slot l.sender) m (omega (arith, room, counts)) (at_sender k l some old ∙ ap (λ c. c % k) counts);
    }
kept k l Publishes some old may =
    let one = ap bit may.1 in
    let room : l.sender.put < l.receiver.taken + k = omega (arith, one) in
    record {
      sender_slots = old.sender_slots;
      receiver_slots = old.receiver_slots;
      published = omega (arith, one, length-append l.traffic.published l.traffic.filling);
      filled = refl;
      freed = old.freed;
      emptied = old.emptied;
      closed = old.closed;
      room = omega (arith, room);
      behind = omega arith;
      sender_claims = λ (no : false ≡ true). cc;
      receiver_claims = λ claims. omega (arith, old.receiver_claims claims);
      emptied_claims = old.emptied_claims;
      full = λ c low high. full_published k l some old c low high room;
      ends = λ i. bit_kept (λ w. w.end) l.words (sender_slot l.sender) i (full_word (sender_word l)) refl ∙ old.ends i ∙ ap (λ b. b && (i == l.sender.put % k)) may.0 ∙ sym (ap (λ b. b && (i == (l.sender.put + 1) % k)) may.0);
      holds = holds_published k l.traffic old.holds;
    }
kept k l Closes some old may = record {
  sender_slots = old.sender_slots;
  receiver_slots = old.receiver_slots;
  published = old.published;
  filled = refl;
  freed = old.freed;
  emptied = old.emptied;
  closed = refl;
  room = omega arith;
  behind = old.behind;
  sender_claims = λ (no : false ≡ true). cc;
  receiver_claims = old.receiver_claims;
  emptied_claims = old.emptied_claims;
  full = λ c low high. bit_kept (λ w. w.full) l.words (sender_slot l.sender) (c % k) (end_word (sender_word l)) refl ∙ old.full c low high;
  ends = ends_closed k l some old may;
  holds = holds_closed k l.traffic old.holds;
}
kept k l Receiver_loads some old may = record {
  sender_slots = old.sender_slots;
  receiver_slots = old.receiver_slots;
  published = old.published;
  filled = old.filled;
  freed = old.freed;
  emptied = old.emptied;
  closed = old.closed;
  room = old.room;
  behind = old.behind;
  sender_claims = old.sender_claims;
  receiver_claims = λ claims. ltb-true l.receiver.taken l.sender.put (sym (word_waits k l some old) ∙ claims);
  emptied_claims = λ hand. word_waits k l some old ∙ lt-ltb l.receiver.taken l.sender.put (omega (arith, ap bit hand));
  full = old.full;
  ends = old.ends;
  holds = old.holds;
}
kept k l Takes some old may =
    let there = next_there k l some old may.0 may.1 in
    let slot = next_slot k l some old may.1 in
    let next = has_next k l.traffic old.holds (receiver_slot l.receiver) there slot in
    let fresh = ap bit may.1 in
    let more = old.receiver_claims may.0 in
    record {
      sender_slots = old.sender_slots;
      receiver_slots = old.receiver_slots;
      published = old.published;
      filled = old.filled;
      freed = old.freed;
      emptied = rw (next.1) (omega (arith, fresh));
      closed = old.closed;
      room = old.room;
      behind = omega (arith, more);
      sender_claims = old.sender_claims;
      receiver_claims = old.receiver_claims;
      emptied_claims = λ hand. may.0;
      full = old.full;
      ends = old.ends;
      holds = holds_taken k l.traffic old.holds (receiver_slot l.receiver) there (omega arith) slot;
    }
kept {M} k l Puts_back some old may = record {
  sender_slots = old.sender_slots;
  receiver_slots = old.receiver_slots;
  published = on (λ t. l.sender.put ≡ length t.published) old.published (λ m ms. old.published);
  filled = on (λ t. bit l.sender.filled ≡ length t.filling) old.filled (λ m ms. old.filled);
  freed = on (λ t. l.receiver.taken ≡ length t.freed) old.freed (λ m ms. old.freed);
  emptied = in_hand l.traffic.emptying one;
  closed = on (λ t. l.sender.closed ≡ t.closed) old.closed (λ m ms. old.closed);
  room = old.room;
  behind = omega arith;
  sender_claims = old.sender_claims;
  receiver_claims = old.receiver_claims;
  emptied_claims = λ (no : false ≡ true). cc;
  full = old.full;
  ends = old.ends;
  holds = holds_back k l.traffic old.holds (receiver_slot l.receiver) (omega (arith, one)) (omega arith) (last_slot k l some old may);
}
  where
    one : 1 ≡ length l.traffic.emptying
    one = sym (ap bit may) ∙ old.emptied

    on : (P : Traffic M → Type 0) → P l.traffic → ((m : M) (ms : List M) → P (back_in l.traffic (m ∷ ms) (receiver_slot l.receiver))) → P (back_in l.traffic l.traffic.emptying (receiver_slot l.receiver))
    on P same back = elim l.traffic.emptying as (λ ms. P (back_in l.traffic ms (receiver_slot l.receiver))) [ [] ↦ same | m ∷ ms ↦ back m ms ]

    in_hand : (ms : List M) → 1 ≡ length ms → 0 ≡ length (back_in l.traffic ms (receiver_slot l.receiver)).emptying
    in_hand [] e = absurd (omega arith)
    in_hand (m ∷ ms) e = omega arith
kept k l Frees some old may =
    let one = ap bit may in
    record {
      sender_slots = old.sender_slots;
      receiver_slots = old.receiver_slots;
      published = old.published;
      filled = old.filled;
      freed = omega (arith, one, length-append l.traffic.freed (reverse l.traffic.emptying), length-reverse l.traffic.emptying);
      emptied = refl;
      closed = old.closed;
      room = omega arith;
      behind = omega (arith, one);
      sender_claims = λ claims. omega (arith, old.sender_claims claims);
      receiver_claims = λ (no : false ≡ true). cc;
      emptied_claims = λ (no : false ≡ true). cc;
      full = full_freed k l some old;
      ends = λ i. bit_kept (λ w. w.end) l.words (receiver_slot l.receiver) i (free_word (receiver_word l)) refl ∙ old.ends i;
      holds = holds_freed k l.traffic old.holds;
    }

-- the agreement holds after every run
pub fits : {M : Type 0} (k : ℕ) (h : List (Step M)) → 1 ≤ k → IsRun (flag_words M) k h → Fits k (lane_after (flag_words M) k h)
fits k [] some run = first k
fits {M} k (e ∷ h) some run = kept k (lane_after (flag_words M) k h) e some (fits k h some run.1) run.0
