-- The contents of a lane's slots, and the published and freed messages, at each touch, publish and free: the same in
-- both forms.
use Rattle.std.proofs.Common.{◌≡◌, ℕ, ◌+◌, ◌-◌, ◌%◌, ◌<◌, ◌≤◌, ◌⊎◌, inl, inr, Bool, true, false, cond, List, [], ◌∷◌, ◌++◌, length, drop, Option, None, Some, refl, sym, ap, ◌∙◌, subst, arith}
use Rattle.std.specs.Prelude.{◌↔◌, reverse, nat_lt}
use Rattle.std.proofs.Math.Nat.{add-mod_right}
use Rattle.std.proofs.Math.Seq.{drop-append_seam}
use Rattle.std.proofs.lemmas.Bool.{cases_eq, cases_lt, ltb-true, ltb-false}
use Rattle.lane_core.specs.declared.answers.Found.{Found}
use Rattle.lane_core.specs.declared.answers.Found.TheVariants.{Message, Nothing, Ended}
use Rattle.std.proofs.lemmas.List.{append_assoc, append-nil, length_push, length-append, length-reverse, length-drop, nil_from_length}
use Rattle.std.proofs.lemmas.Grind.{reverse_onto}
use Rattle.lane_core.specs.Traffic.{Traffic, no_traffic, with_at, message_in, put_in, published_all, closed_off, taken_out, back_in, freed_all, waiting}
use Rattle.lane_core.proofs.Rings.{other_slot, set_there, set_other}

-- from the slot of this count on, the slots hold these messages
abbrev pub HasSlots : {M : Type 0} → (ℕ → Option M) → ℕ → ℕ → List M → Type 0
HasSlots slots k n [] = Unit {0}
HasSlots slots k n (m ∷ ms) = (slots (n % k) ≡ Some m) × HasSlots slots k (n + 1) ms

-- a slot is set that has none of these messages
has_other : {M : Type 0} (slots : ℕ → Option M) (k n : ℕ) (ms : List M) (slot : ℕ) (o : Option M) → ((c : ℕ) → n ≤ c → c < n + length ms → c % k ≡ slot → ⊥) → HasSlots slots k n ms → HasSlots (with_at slots slot o) k n ms
has_other slots k n [] slot o other has = tt
has_other slots k n (m ∷ ms) slot o other has = (
  set_other slots slot (n % k) o (other n (omega arith) (omega arith)) ∙ has.0,
  has_other slots k (n + 1) ms slot o (λ c low high. other c (omega arith) (omega arith)) has.1,
)

-- one more message
has_push : {M : Type 0} (slots : ℕ → Option M) (k n : ℕ) (ms : List M) (m : M) → HasSlots slots k n ms → slots ((n + length ms) % k) ≡ Some m → HasSlots slots k n (ms ++ m ∷ [])
has_push slots k n [] m has last = (subst (λ c. slots (c % k) ≡ Some m) (omega arith) last, tt)
has_push slots k n (x ∷ ms) m has last =
    let shift : n + length (x ∷ ms) ≡ (n + 1) + length ms = omega arith in
    (has.0, has_push slots k (n + 1) ms m has.1 (subst (λ c. slots (c % k) ≡ Some m) shift last))

-- only the first of these messages
has_front : {M : Type 0} (slots : ℕ → Option M) (k n : ℕ) (xs ys : List M) → HasSlots slots k n (xs ++ ys) → HasSlots slots k n xs
has_front slots k n [] ys has = tt
has_front slots k n (x ∷ xs) ys has = (has.0, has_front slots k (n + 1) xs ys has.1)

-- a message moves from the slots into the receiver's hand
between : {M : Type 0} (freed emptying : List M) (m : M) (ms : List M) → (freed ++ reverse emptying) ++ m ∷ ms ≡ (freed ++ reverse (m ∷ emptying)) ++ ms
between freed emptying m ms = sym (ap (λ xs. (freed ++ xs) ++ ms) (reverse_onto emptying m []) ∙ ap (λ xs. xs ++ ms) (sym (append_assoc freed (reverse emptying) (m ∷ []))) ∙ append_assoc (freed ++ reverse emptying) (m ∷ []) ms)

-- a slot that is emptied is empty, and so is one that was empty
vacated : {M : Type 0} (slots : ℕ → Option M) (slot i : ℕ) → ((i ≡ slot → ⊥) → slots i ≡ None) → with_at slots slot None i ≡ None
vacated slots slot i empty = go (cases_eq i slot)
  where
    go : (i ≡ slot) ⊎ (i ≡ slot → ⊥) → with_at slots slot None i ≡ None
    go (inl same) = set_there slots slot i None same
    go (inr other) = set_other slots slot i None other ∙ empty other

-- the messages freed or in the receiver's hand are a beginning of the published ones. The slots have the rest, and then
-- the messages that the sender put in. The slots from which the receiver has taken are empty, and so are the free ones
-- on an open lane
pub record Holds {M : Type 0} (k : ℕ) (t : Traffic M) : Type 0 where
  pub left : List M
  pub order : t.published ≡ (t.freed ++ reverse t.emptying) ++ left
  pub slots : HasSlots t.slots k (length t.freed + length t.emptying) (left ++ t.filling)
  pub taken_empty : (c : ℕ) → length t.freed ≤ c → c < length t.freed + length t.emptying → t.slots (c % k) ≡ None
  pub free_empty : t.closed ≡ false → (c : ℕ) → length t.published + length t.filling ≤ c → c < length t.freed + k → t.slots (c % k) ≡ None

-- no more messages are published or put in than the lane has slots
abbrev pub HasRoom : {M : Type 0} → ℕ → Traffic M → Type 0
HasRoom k t = length t.published + length t.filling ≤ length t.freed + k

-- how many of the published messages are left in the slots
pub count_left : {M : Type 0} (k : ℕ) (t : Traffic M) (h : Holds k t) → length t.published ≡ (length t.freed + length t.emptying) + length h.left
count_left k t h = omega (arith, ap length h.order, length-append (t.freed ++ reverse t.emptying) h.left, length-append t.freed (reverse t.emptying), length-reverse t.emptying)

-- before the first step
pub holds_first : {M : Type 0} (k : ℕ) → Holds k (no_traffic {M = M})
holds_first k = record { left = []; order = refl; slots = tt; taken_empty = λ c low high. refl; free_empty = λ opened c low high. refl }

module _ {M : Type 0} (k : ℕ) (t : Traffic M) (h : Holds k t) where
  -- the count of the next message that is taken
  abbrev reached : ℕ
  reached = length t.freed + length t.emptying

  -- how far the messages in the slots reach
  count_held : reached + length (h.left ++ t.filling) ≡ length t.published + length t.filling
  count_held = omega (arith, length-append h.left t.filling, count_left k t h)

  -- the sender puts a message into its next slot, which is free
  pub holds_filled : (slot : ℕ) (m : M) → length t.published + length t.filling < length t.freed + k → slot ≡ (length t.published + length t.filling) % k → Holds k (put_in t slot m)
  holds_filled slot m room at = record {
    left = h.left;
    order = h.order;
    slots = subst (HasSlots new k reached) (append_assoc h.left t.filling (m ∷ [])) (has_push new k reached (h.left ++ t.filling) m (has_other t.slots k reached (h.left ++ t.filling) slot (Some m) other h.slots) (set_there t.slots slot ((reached + length (h.left ++ t.filling)) % k) (Some m) (ap (λ c. c % k) count_held ∙ sym at)));
    taken_empty = λ c low high. set_other t.slots slot (c % k) (Some m) (λ same. other_slot k c (length t.published + length t.filling) (omega (arith, count_left k t h)) (omega arith) (same ∙ at)) ∙ h.taken_empty c low high;
    free_empty = λ opened c low high.
        let next : length t.published + length t.filling < c = omega (arith, length_push t.filling m) in
        set_other t.slots slot (c % k) (Some m) (λ same. other_slot k (length t.published + length t.filling) c next (omega (arith, count_left k t h)) (sym (same ∙ at))) ∙ h.free_empty opened c (omega arith) high;
  }
    where
      new : ℕ → Option M
      new = with_at t.slots slot (Some m)

      other : (c : ℕ) → reached ≤ c → c < reached + length (h.left ++ t.filling) → c % k ≡ slot → ⊥
      other c low high same = other_slot k c (length t.published + length t.filling) (omega (arith, count_held)) (omega arith) (same ∙ at)

  -- the messages that were put in are published
  pub holds_published : Holds k (published_all t)
  holds_published = record {
    left = h.left ++ t.filling;
    order = ap (λ ms. ms ++ t.filling) h.order ∙ append_assoc (t.freed ++ reverse t.emptying) h.left t.filling;
    slots = subst (HasSlots t.slots k reached) (sym (append-nil (h.left ++ t.filling))) h.slots;
    taken_empty = h.taken_empty;
    free_empty = λ opened c low high. h.free_empty opened c (omega (arith, length-append t.published t.filling)) high;
  }

  -- the lane is closed
  pub holds_closed : Holds k (closed_off t)
  holds_closed = record {
    left = h.left;
    order = h.order;
    slots = subst (HasSlots t.slots k reached) (sym (append-nil h.left)) (has_front t.slots k reached h.left t.filling h.slots);
    taken_empty = h.taken_empty;
    free_empty = λ (no : true ≡ false) c low high. cc;
  }

  -- the next slot to be taken from has a message
  pub has_next : (slot : ℕ) → reached < length t.published → slot ≡ reached % k → (m : M) × (t.slots slot ≡ Some m)
  has_next slot some at = go h.left h.slots (omega (arith, count_left k t h))
    where
      go : (left : List M) → HasSlots t.slots k reached (left ++ t.filling) → 0 < length left → (m : M) × (t.slots slot ≡ Some m)
      go [] has more = absurd (omega arith)
      go (m ∷ ms) has more = (m, ap t.slots at ∙ has.0)

  -- a count before the next one, or up to it
  sooner : (c : ℕ) → (c ≡ reached → ⊥) → c < reached + 1 → c < reached
  sooner c other high = go (cases_lt c reached)
    where
      go : (c < reached) ⊎ (reached ≤ c) → c < reached
      go (inl less) = less
      go (inr last) = absurd (other (omega arith))

  -- the receiver takes this message
  pub holds_taken : (slot : ℕ) → reached < length t.published → HasRoom k t → slot ≡ reached % k → Holds k (taken_out t slot)
  holds_taken slot some room at = go h.left h.order h.slots count_held (omega (arith, count_left k t h))
    where
      go : (left : List M) → t.published ≡ (t.freed ++ reverse t.emptying) ++ left → HasSlots t.slots k reached (left ++ t.filling) → reached + length (left ++ t.filling) ≡ length t.published + length t.filling → 0 < length left → Holds k (taken_out t slot)
      go [] order has counted more = absurd (omega arith)
      go (m ∷ ms) order has counted more =
          let found : t.slots slot ≡ Some m = ap t.slots at ∙ has.0 in
          let shift : reached + 1 ≡ length t.freed + length (m ∷ t.emptying) = omega arith in
          let kept : HasSlots (with_at t.slots slot None) k (reached + 1) (ms ++ t.filling) = has_other t.slots k (reached + 1) (ms ++ t.filling) slot None (λ c low high same. other_slot k reached c (omega arith) (omega arith) (sym (same ∙ at))) has.1 in
          let taken : Holds k (record t { slots = with_at t.slots slot None; emptying = m ∷ t.emptying }) = record {
            left = ms;
            order = order ∙ between t.freed t.emptying m ms;
            slots = subst (λ n. HasSlots (with_at t.slots slot None) k n (ms ++ t.filling)) shift kept;
            taken_empty = λ c low high. vacated t.slots slot (c % k) (λ other. h.taken_empty c low (sooner c (λ last. other (ap (λ n. n % k) last ∙ sym at)) (omega arith)));
            free_empty = λ opened c low high. vacated t.slots slot (c % k) (λ other. h.free_empty opened c low high);
          } in
          subst (λ (o : Option M). Holds k (record t { slots = with_at t.slots slot None; emptying = message_in o ++ t.emptying })) (sym found) taken

  -- the slot from which the receiver took last is empty
  pub back_empty : 0 < length t.emptying → t.slots ((length t.freed + (length t.emptying - 1)) % k) ≡ None
  back_empty some = h.taken_empty (length t.freed + (length t.emptying - 1)) (omega arith) (omega arith)

  -- on an open lane, the slot that the sender fills next is empty too
  pub next_empty : t.closed ≡ false → length t.published + length t.filling < length t.freed + k → t.slots ((length t.published + length t.filling) % k) ≡ None
  next_empty opened room = h.free_empty opened (length t.published + length t.filling) (omega arith) room

  -- the receiver puts back the message that it took last
  pub holds_back : (slot : ℕ) → 0 < length t.emptying → HasRoom k t → slot ≡ (length t.freed + (length t.emptying - 1)) % k → Holds k (back_in t t.emptying slot)
  holds_back slot some room at = go t.emptying refl
    where
      go : (emptying : List M) → t.emptying ≡ emptying → Holds k (back_in t emptying slot)
      go [] e = absurd (omega (arith, ap length e))
      go (m ∷ ms) e =
          let n : ℕ = length t.freed + length ms in
          let shift : reached ≡ n + 1 = omega (arith, ap length e) in
          let there : (length t.freed + (length t.emptying - 1)) ≡ n = omega (arith, ap length e) in
          let kept : HasSlots (with_at t.slots slot (Some m)) k (n + 1) (h.left ++ t.filling) = has_other t.slots k (n + 1) (h.left ++ t.filling) slot (Some m) (λ c low high same. other_slot k n c (omega arith) (omega (arith, count_held)) (sym (same ∙ at ∙ ap (λ c. c % k) there))) (subst (λ c. HasSlots t.slots k c (h.left ++ t.filling)) shift h.slots) in
          record {
            left = m ∷ h.left;
            order = h.order ∙ ap (λ ms. (t.freed ++ reverse ms) ++ h.left) e ∙ sym (between t.freed ms m h.left);
            slots = (set_there t.slots slot (n % k) (Some m) (sym (at ∙ ap (λ c. c % k) there)), kept);
            taken_empty = λ c low high. set_other t.slots slot (c % k) (Some m) (λ same. other_slot k c n high (omega (arith, count_held, count_left k t h)) (same ∙ at ∙ ap (λ c. c % k) there)) ∙ h.taken_empty c low (omega arith);
            free_empty = λ opened c low high. set_other t.slots slot (c % k) (Some m) (λ same. other_slot k n c (omega (arith, count_left k t h)) (omega arith) (sym (same ∙ at ∙ ap (λ c. c % k) there))) ∙ h.free_empty opened c low high;
          }

  -- the messages that it took are freed
  pub holds_freed : Holds k (freed_all t)
  holds_freed = record {
    left = h.left;
    order = h.order ∙ ap (λ ms. ms ++ h.left) (sym (append-nil (t.freed ++ reverse t.emptying)));
    slots = subst (λ n. HasSlots t.slots k n (h.left ++ t.filling)) many h.slots;
    taken_empty = λ c low high. absurd (omega arith);
    free_empty = λ opened c low high. go opened c low (omega (arith, many)) (cases_lt c (length t.freed + k));
  }
    where
      many : reached ≡ length (t.freed ++ reverse t.emptying) + 0
      many = omega (arith, length-append t.freed (reverse t.emptying), length-reverse t.emptying)

      -- a slot that the receiver had freed, or one of those that it frees now
      go : t.closed ≡ false → (c : ℕ) → length t.published + length t.filling ≤ c → c < reached + k → (c < length t.freed + k) ⊎ (length t.freed + k ≤ c) → t.slots (c % k) ≡ None
      go opened c low high (inl less) = h.free_empty opened c low less
      go opened c low high (inr more) =
          let d : ℕ = c - k in
          let e : c ≡ d + k = omega arith in
          ap t.slots (ap (λ n. n % k) e ∙ add-mod_right d k) ∙ h.taken_empty d (omega arith) (omega arith)

-- the message that was taken last is put back into a slot
pub put_back : {M : Type 0} (t : Traffic M) (slot i : ℕ) → i ≡ slot → 0 < length t.emptying
    → (m : M) × (before : List M) × (t.emptying ≡ m ∷ before) × ((back_in t t.emptying slot).emptying ≡ before) × ((back_in t t.emptying slot).slots i ≡ Some m)
put_back {M} t slot i same some = go t.emptying refl some
  where
    go : (ms : List M) → t.emptying ≡ ms → 0 < length ms → (m : M) × (before : List M) × (t.emptying ≡ m ∷ before) × ((back_in t ms slot).emptying ≡ before) × ((back_in t ms slot).slots i ≡ Some m)
    go [] e some = absurd (omega arith)
    go (m ∷ ms) e some = (m, ms, e, refl, set_there t.slots slot i (Some m) same)

-- how many messages wait
pub count_waiting : {M : Type 0} (t : Traffic M) → length (waiting t) ≡ length t.published - length t.freed
count_waiting t = length-drop (length t.freed) t.published

-- the published messages are the freed ones and then the waiting ones
pub goes_on : {M : Type 0} (t : Traffic M) (rest : List M) → t.published ≡ t.freed ++ rest → waiting t ≡ rest
goes_on t rest order = ap (drop (length t.freed)) order ∙ drop-append_seam t.freed rest

-- a message is found exactly if one waits, and the end exactly if none waits and the lane is closed
abbrev pub IsFoundRightly : {M : Type 0} → Traffic M → Found → Type 0
IsFoundRightly t found = (found ≡ Message ↔ 0 < length (waiting t)) × (found ≡ Ended ↔ ((waiting t ≡ []) × (t.closed ≡ true)))

-- an answer by two tests: whether a message waits, and if none does, whether the lane is closed
pub found_rightly : {M : Type 0} (t : Traffic M) (some ended : Bool) → some ≡ nat_lt (length t.freed) (length t.published) → (length t.published ≤ length t.freed → ended ≡ t.closed) → IsFoundRightly t (cond some Message (cond ended Ended Nothing))
found_rightly t true ended e right =
    let less : length t.freed < length t.published = ltb-true _ _ (sym e) in
    let more : 0 < length (waiting t) = omega (arith, count_waiting t) in
    (((λ yes. more), (λ more. refl)), ((λ (no : Message ≡ Ended). cc), (λ both. absurd (omega (arith, ap length both.0)))))
found_rightly t false ended e right =
    let least : length t.published ≤ length t.freed = ltb-false _ _ (sym e) in
    let empty : waiting t ≡ [] = nil_from_length (waiting t) (omega (arith, count_waiting t)) in
    subst (λ b. IsFoundRightly t (cond b Ended Nothing)) (sym (right least)) (none t.closed refl empty)
  where
    none : (closed : Bool) → t.closed ≡ closed → waiting t ≡ [] → IsFoundRightly t (cond closed Ended Nothing)
    none true e empty = (((λ (no : Ended ≡ Message). cc), (λ more. absurd (omega (arith, ap length empty)))), ((λ yes. (empty, e)), (λ both. refl)))
    none false e empty = (((λ (no : Nothing ≡ Message). cc), (λ more. absurd (omega (arith, ap length empty)))), ((λ (no : Nothing ≡ Ended). cc), (λ both. let no : true ≡ false = sym both.1 ∙ e in cc)))
