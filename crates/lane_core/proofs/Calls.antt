-- An end that continues alone, in either form.
use Rattle.std.proofs.Common.{◌≡◌, ℕ, suc, zero, ◌+◌, ◌-◌, ◌<◌, ◌≤◌, ◌&&◌, ◌⊎◌, inl, inr, Bool, true, false, cond, List, [], ◌∷◌, ◌++◌, length, take, Option, Some, refl, sym, ap, ◌∙◌, subst, arith}
use Rattle.std.specs.Prelude.{◌↔◌, reverse}
use Rattle.std.proofs.lemmas.Bool.{cases_lt}
use Rattle.std.proofs.lemmas.List.{append_assoc, append-nil, length_push, length-append}
use Rattle.lane_core.specs.declared.answers.Room.{Room}
use Rattle.lane_core.specs.declared.answers.Room.TheVariants.{Vacant, Full}
use Rattle.lane_core.specs.declared.answers.Found.{Found}
use Rattle.lane_core.specs.declared.answers.Found.TheVariants.{Message, Nothing, Ended}
use Rattle.lane_core.specs.Steps.{Step, Sender_loads, Fills, Publishes, Receiver_loads, Takes, Frees}
use Rattle.lane_core.specs.Traffic.{Traffic, message_in, put_in, published_all, taken_out, freed_all, waiting}
use Rattle.lane_core.specs.Laws.{FreedInOrder, AtMostCapacity, FullExactly}
use Rattle.lane_core.specs.Forms.{Form, IsRun, traffic_of, sender_finds, receiver_finds, sender_keeps, receiver_keeps}
use Rattle.lane_core.specs.Alone.{receive_call, receives, AreReceived, messages, send_call, sends, AreSent, ReceiverAlone, SenderAlone}
use Rattle.lane_core.proofs.Passing.{IsFoundRightly, count_waiting, goes_on}

-- one message was received
pub record Took {M : Type 0} (t u : Traffic M) (m : M) : Type 0 where
  pub freed : u.freed ≡ t.freed ++ m ∷ []
  pub published : u.published ≡ t.published
  pub emptying : u.emptying ≡ []
  pub closed : u.closed ≡ t.closed

-- one message was sent
pub record Gave {M : Type 0} (t u : Traffic M) (m : M) : Type 0 where
  pub published : u.published ≡ t.published ++ m ∷ []
  pub freed : u.freed ≡ t.freed
  pub filling : u.filling ≡ []
  pub closed : u.closed ≡ t.closed

-- by a take of this message and a free, if nothing else was in the receiver's hand
pub took : {M : Type 0} (t : Traffic M) (slot : ℕ) (m : M) → t.emptying ≡ [] → t.slots slot ≡ Some m → Took t (freed_all (taken_out t slot)) m
took {M} t slot m hand found = record {
  freed = ap (λ (o : Option M). t.freed ++ reverse (message_in o ++ t.emptying)) found ∙ ap (λ ms. t.freed ++ reverse (m ∷ ms)) hand;
  published = refl;
  emptying = refl;
  closed = refl;
}

-- by a fill and a publish, if nothing else was filled
pub gave : {M : Type 0} (t : Traffic M) (slot : ℕ) (m : M) → t.filling ≡ [] → Gave t (published_all (put_in t slot m)) m
gave t slot m hand = record {
  published = ap (λ ms. t.published ++ (ms ++ m ∷ [])) hand;
  freed = refl;
  filling = refl;
  closed = refl;
}

-- nothing is taken from an empty list
take_none : {A : Type 0} (n : ℕ) → take {A = A} n [] ≡ []
take_none zero = refl
take_none (suc n) = refl

-- the second of two tests holds if both do
both : (a b : Bool) → (a && b) ≡ true → b ≡ true
both true b e = e
both false b e = let no : true ≡ false = sym e in cc

module _ {M : Type 0} (form : Form M)
    (order : FreedInOrder form)
    (found : (k : ℕ) (h : List (Step M)) → 1 ≤ k → IsRun form k h → IsFoundRightly (traffic_of form k h) (receiver_finds form k h))
    (claimed : (k : ℕ) (h : List (Step M)) → 1 ≤ k → IsRun form k h → (traffic_of form k h).emptying ≡ [] → receiver_keeps form k h ≡ true → 0 < length (waiting (traffic_of form k h)))
    (looks : (k : ℕ) (h : List (Step M)) → IsRun form k h → IsRun form k (Receiver_loads ∷ h) × (traffic_of form k (Receiver_loads ∷ h) ≡ traffic_of form k h))
    (loaded : (k : ℕ) (h : List (Step M)) → 1 ≤ k → IsRun form k h → (traffic_of form k h).emptying ≡ [] → 0 < length (waiting (traffic_of form k h)) → receiver_keeps form k (Receiver_loads ∷ h) ≡ true)
    (takes : (k : ℕ) (h : List (Step M)) → 1 ≤ k → IsRun form k h → (traffic_of form k h).emptying ≡ [] → receiver_keeps form k h ≡ true → IsRun form k (Frees ∷ Takes ∷ h) × ((m : M) × Took (traffic_of form k h) (traffic_of form k (Frees ∷ Takes ∷ h)) m)) where
  -- what is found if no message waits
  found_none : (k : ℕ) (h : List (Step M)) → 1 ≤ k → IsRun form k h → length (waiting (traffic_of form k h)) ≤ 0 → receiver_finds form k h ≡ cond (traffic_of form k h).closed Ended Nothing
  found_none k h some run none = go (receiver_finds form k h) (traffic_of form k h).closed (found k h some run) refl
    where
      go : (f : Found) (closed : Bool) → (f ≡ Message ↔ 0 < length (waiting (traffic_of form k h))) × (f ≡ Ended ↔ ((waiting (traffic_of form k h) ≡ []) × ((traffic_of form k h).closed ≡ true))) → (traffic_of form k h).closed ≡ closed → f ≡ cond closed Ended Nothing
      go Message closed right e = absurd (let more = right.0.0 refl in omega arith)
      go Ended true right e = refl
      go Ended false right e = let no : true ≡ false = sym (right.1.0 refl).1 ∙ e in cc
      go Nothing false right e = refl
      go Nothing true right e = right.1.1 (empty (waiting (traffic_of form k h)) none, e)
        where
          empty : (ms : List M) → length ms ≤ 0 → ms ≡ []
          empty [] none = refl
          empty (m ∷ ms) none = absurd (omega arith)

  -- no message is claimed if none waits
  claims_none : (k : ℕ) (h : List (Step M)) → 1 ≤ k → IsRun form k h → (traffic_of form k h).emptying ≡ [] → length (waiting (traffic_of form k h)) ≤ 0 → receiver_keeps form k h ≡ false
  claims_none k h some run hand none = go (receiver_keeps form k h) (λ e. claimed k h some run hand e)
    where
      go : (b : Bool) → (b ≡ true → 0 < length (waiting (traffic_of form k h))) → b ≡ false
      go true more = absurd (let many = more refl in omega arith)
      go false more = refl

  pub receiver_alone : ReceiverAlone form
  receiver_alone k h some run hand [] =
      (run, sym (append-nil (traffic_of form k h).freed), (λ more. (found k h some run).0.1 more), (λ none. (found_none k h some run none, claims_none k h some run hand none)))
  receiver_alone k h some run hand (keeps ∷ calls) = first (λ g goes empty. receiver_alone k g some goes empty calls) (keeps && receiver_keeps form k h) refl
    where
      t : Traffic M
      t = traffic_of form k h

      -- the effect of the further calls, from any run
      Further : Type 0
      Further = (g : List (Step M)) → IsRun form k g → (traffic_of form k g).emptying ≡ [] → AreReceived form k (traffic_of form k g) (length calls) (receives form k calls g)

      -- no message waits: the call only loads
      idle : Further → (0 < length (waiting t) → ⊥) → AreReceived form k t (suc (length calls)) (receives form k calls (Receiver_loads ∷ h))
      idle further none =
          let look = looks k h run in
          let same : traffic_of form k (Receiver_loads ∷ h) ≡ t = look.1 in
          let rest = further (Receiver_loads ∷ h) look.0 (ap (λ (u : Traffic M). u.emptying) same ∙ hand) in
          let empty = nothing (waiting t) none in (
            rest.0,
            rest.1 ∙ ap (λ (u : Traffic M). u.freed ++ take (length calls) (waiting u)) same ∙ ap (λ ms. t.freed ++ take (length calls) ms) empty ∙ ap (λ ms. t.freed ++ ms) (take_none (length calls)) ∙ sym (ap (λ ms. t.freed ++ take (suc (length calls)) ms) empty),
            (λ more. absurd (none (omega arith))),
            (λ least. let last = rest.3 (omega (arith, ap (λ (u : Traffic M). length (waiting u)) same, ap length empty)) in (last.0 ∙ ap (λ (u : Traffic M). cond u.closed Ended Nothing) same, last.1)),
          )
        where
          nothing : (ms : List M) → (0 < length ms → ⊥) → ms ≡ []
          nothing [] none = refl
          nothing (m ∷ ms) none = absurd (none (omega arith))

      -- one message was received, from a run g with the same traffic
      onward : Further → (g : List (Step M)) → IsRun form k g → traffic_of form k g ≡ t → receiver_keeps form k g ≡ true → AreReceived form k t (suc (length calls)) (receives form k calls (Frees ∷ Takes ∷ g))
      onward further g goes same claim =
          let took = takes k g some goes (ap (λ (u : Traffic M). u.emptying) same ∙ hand) claim in
          let now : List (Step M) = Frees ∷ Takes ∷ g in
          let u : Traffic M = traffic_of form k now in
          let m = took.1.0 in
          let step : Took t u m = subst (λ (v : Traffic M). Took v u m) same took.1.1 in
          let next = order k now some took.0 in
          let left : waiting u ≡ next.0 = goes_on u next.0 next.1 in
          let had : waiting t ≡ m ∷ next.0 = goes_on t (m ∷ next.0) (sym step.published ∙ next.1 ∙ ap (λ ms. ms ++ next.0) step.freed ∙ append_assoc t.freed (m ∷ []) next.0) in
          let rest = further now took.0 step.emptying in (
            rest.0,
            rest.1 ∙ ap (λ ms. ms ++ take (length calls) (waiting u)) step.freed ∙ append_assoc t.freed (m ∷ []) (take (length calls) (waiting u)) ∙ ap (λ ms. t.freed ++ m ∷ take (length calls) ms) left ∙ sym (ap (λ ms. t.freed ++ take (suc (length calls)) ms) had),
            (λ more. rest.2 (omega (arith, ap length left, ap length had))),
            (λ least. let last = rest.3 (omega (arith, ap length left, ap length had)) in (last.0 ∙ ap (λ b. cond b Ended Nothing) step.closed, last.1)),
          )

      go : Further → (f : Found) → receiver_finds form k h ≡ f → AreReceived form k t (suc (length calls)) (receives form k calls (receive_call f h))
      go further Message e =
          let look = looks k h run in
          onward further (Receiver_loads ∷ h) look.0 look.1 (loaded k h some run hand ((found k h some run).0.0 e))
      go further Nothing e = idle further (λ more. let no : Nothing ≡ Message = sym e ∙ (found k h some run).0.1 more in cc)
      go further Ended e = idle further (λ more. let no : Ended ≡ Message = sym e ∙ (found k h some run).0.1 more in cc)

      first : Further → (b : Bool) → (keeps && receiver_keeps form k h) ≡ b → AreReceived form k t (suc (length calls)) (receives form k calls (cond b (Frees ∷ Takes ∷ h) (receive_call (receiver_finds form k h) h)))
      first further true e = onward further h run refl (both keeps (receiver_keeps form k h) e)
      first further false e = go further (receiver_finds form k h) refl

module _ {M : Type 0} (form : Form M)
    (order : FreedInOrder form)
    (bounded : AtMostCapacity form)
    (full : FullExactly form)
    (claimed : (k : ℕ) (h : List (Step M)) → 1 ≤ k → IsRun form k h → (traffic_of form k h).filling ≡ [] → sender_keeps form k h ≡ true → length (waiting (traffic_of form k h)) < k)
    (looks : (k : ℕ) (h : List (Step M)) → IsRun form k h → IsRun form k (Sender_loads ∷ h) × (traffic_of form k (Sender_loads ∷ h) ≡ traffic_of form k h))
    (loaded : (k : ℕ) (h : List (Step M)) → 1 ≤ k → IsRun form k h → (traffic_of form k h).filling ≡ [] → length (waiting (traffic_of form k h)) < k → sender_keeps form k (Sender_loads ∷ h) ≡ true)
    (gives : (k : ℕ) (h : List (Step M)) (m : M) → 1 ≤ k → IsRun form k h → (traffic_of form k h).filling ≡ [] → (traffic_of form k h).closed ≡ false → sender_keeps form k h ≡ true → IsRun form k (Publishes ∷ Fills m ∷ h) × Gave (traffic_of form k h) (traffic_of form k (Publishes ∷ Fills m ∷ h)) m) where
  -- there is room if fewer messages wait
  found_room : (k : ℕ) (h : List (Step M)) → 1 ≤ k → IsRun form k h → length (waiting (traffic_of form k h)) < k → sender_finds form k h ≡ Vacant
  found_room k h some run less = go (sender_finds form k h) (λ e. (full k h some run).0 e)
    where
      go : (r : Room) → (r ≡ Full → length (waiting (traffic_of form k h)) ≡ k) → r ≡ Vacant
      go Vacant right = refl
      go Full right = absurd (let many = right refl in omega arith)

  -- no slot is claimed if as many messages wait
  claims_full : (k : ℕ) (h : List (Step M)) → 1 ≤ k → IsRun form k h → (traffic_of form k h).filling ≡ [] → length (waiting (traffic_of form k h)) ≡ k → sender_keeps form k h ≡ false
  claims_full k h some run hand many = go (sender_keeps form k h) (λ e. claimed k h some run hand e)
    where
      go : (b : Bool) → (b ≡ true → length (waiting (traffic_of form k h)) < k) → b ≡ false
      go true less = absurd (let few = less refl in omega arith)
      go false less = refl

  -- none of a list's elements is taken
  none_of : (n : ℕ) (ms : List M) → n ≡ 0 → take n ms ≡ []
  none_of n ms e = ap (λ c. take c ms) e

  pub sender_alone : SenderAlone form
  sender_alone k h some run hand opened [] = (
    run,
    sym (append-nil t.published) ∙ ap (λ ms. t.published ++ ms) (sym (take_none (k - length (waiting t)))),
    (λ less. found_room k h some run (omega arith)),
    (λ more. let many : length (waiting t) ≡ k = omega (arith, bounded k h some run) in ((full k h some run).1 many, claims_full k h some run hand many)),
  )
    where
      t : Traffic M
      t = traffic_of form k h
  sender_alone k h some run hand opened (call ∷ calls) = first (λ g goes empty still. sender_alone k g some goes empty still calls) (call.keeps && sender_keeps form k h) refl
    where
      t : Traffic M
      t = traffic_of form k h

      m : M
      m = call.message

      -- the effect of the further sends, from any run
      Further : Type 0
      Further = (g : List (Step M)) → IsRun form k g → (traffic_of form k g).filling ≡ [] → (traffic_of form k g).closed ≡ false → AreSent form k (traffic_of form k g) calls (sends form k calls g)

      -- one message was sent, from a run g with the same traffic
      onward : Further → (g : List (Step M)) → IsRun form k g → traffic_of form k g ≡ t → sender_keeps form k g ≡ true → AreSent form k t (call ∷ calls) (sends form k calls (Publishes ∷ Fills m ∷ g))
      onward further g goes same claim =
          let hand_of_g = ap (λ (u : Traffic M). u.filling) same ∙ hand in
          let few = claimed k g some goes hand_of_g claim in
          let less : length (waiting t) < k = subst (λ (u : Traffic M). length (waiting u) < k) same few in
          let gave = gives k g m some goes hand_of_g (ap (λ (u : Traffic M). u.closed) same ∙ opened) claim in
          let now : List (Step M) = Publishes ∷ Fills m ∷ g in
          let u : Traffic M = traffic_of form k now in
          let step : Gave t u m = subst (λ (v : Traffic M). Gave v u m) same gave.1 in
          let one : length (waiting u) ≡ length (waiting t) + 1 = omega (arith, count_waiting t, count_waiting u, ap length step.published, ap length step.freed, length_push t.published m, ap length (order k h some run).1, length-append t.freed (order k h some run).0) in
          let room : k - length (waiting t) ≡ suc (k - length (waiting u)) = omega (arith, one) in
          let rest = further now gave.0 step.filling (step.closed ∙ opened) in (
            rest.0,
            rest.1 ∙ ap (λ xs. xs ++ take (k - length (waiting u)) (messages calls)) step.published ∙ append_assoc t.published (m ∷ []) (take (k - length (waiting u)) (messages calls)) ∙ sym (ap (λ n. t.published ++ take n (m ∷ messages calls)) room),
            (λ few. rest.2 (omega (arith, room))),
            (λ more. rest.3 (omega (arith, room))),
          )

      go : Further → (r : Room) → sender_finds form k h ≡ r → AreSent form k t (call ∷ calls) (sends form k calls (send_call r m h))
      go further Full e =
          let look = looks k h run in
          let same : traffic_of form k (Sender_loads ∷ h) ≡ t = look.1 in
          let rest = further (Sender_loads ∷ h) look.0 (ap (λ (u : Traffic M). u.filling) same ∙ hand) (ap (λ (u : Traffic M). u.closed) same ∙ opened) in
          let many : length (waiting t) ≡ k = (full k h some run).0 e in
          let still = ap (λ (u : Traffic M). length (waiting u)) same in (
            rest.0,
            rest.1 ∙ ap (λ (u : Traffic M). u.published ++ take (k - length (waiting u)) (messages calls)) same ∙ ap (λ xs. t.published ++ xs) (none_of (k - length (waiting t)) (messages calls) (omega arith) ∙ sym (none_of (k - length (waiting t)) (m ∷ messages calls) (omega arith))),
            (λ less. absurd (omega arith)),
            (λ more. rest.3 (omega (arith, still))),
          )
      go further Vacant e =
          let look = looks k h run in
          onward further (Sender_loads ∷ h) look.0 look.1 (loaded k h some run hand (fewer (cases_lt (length (waiting t)) k)))
        where
          fewer : (length (waiting t) < k) ⊎ (k ≤ length (waiting t)) → length (waiting t) < k
          fewer (inl less) = less
          fewer (inr more) = let no : Vacant ≡ Full = sym e ∙ (full k h some run).1 (omega (arith, bounded k h some run)) in cc

      first : Further → (b : Bool) → (call.keeps && sender_keeps form k h) ≡ b → AreSent form k t (call ∷ calls) (sends form k calls (cond b (Publishes ∷ Fills m ∷ h) (send_call (sender_finds form k h) m h)))
      first further true e = onward further h run refl (both call.keeps (sender_keeps form k h) e)
      first further false e = go further (sender_finds form k h) refl
