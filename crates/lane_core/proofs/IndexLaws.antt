-- The laws of runs over index words.
use Rattle.std.proofs.Common.{◌≡◌, ℕ, ◌+◌, ◌/◌, ◌%◌, ◌<◌, ◌≤◌, ◌==◌, Bool, true, false, cond, List, [], ◌∷◌, length, Some, refl, sym, ap, ◌∙◌, arith}
use Rattle.std.specs.Prelude.{◌↔◌, nat_lt}
use Rattle.std.proofs.lemmas.Bool.{lt-ltb, ltb-true, ltb-false, false≢true}
use Rattle.lane_core.specs.declared.answers.Room.TheVariants.{Vacant, Full}
use Rattle.lane_core.specs.Alone.{ReceiverAlone, SenderAlone}
use Rattle.lane_core.specs.Forms.{IsRun, lane_after, traffic_of, receiver_finds, sender_keeps, receiver_keeps}
use Rattle.lane_core.specs.IndexWords.{IndexLane, MayFollow, after, fill_count, fill_slot, take_count, take_slot, back_count, back_slot, index_words}
use Rattle.lane_core.specs.Laws.{FreedInOrder, AtMostCapacity, NoSlotOfBoth, FillsOwnSlot, TakesOwnMessage, PutsBackOwnMessage, NothingAfterClose, FullExactly, MessageExactly, EndedExactly}
use Rattle.lane_core.specs.Steps.{Step, Sender_loads, Fills, Publishes, Closes, Receiver_loads, Takes, Puts_back, Frees}
use Rattle.lane_core.specs.Traffic.{back_in, waiting}
use Rattle.lane_core.proofs.Calls.{Took, Gave, took, gave, receiver_alone, sender_alone}
use Rattle.lane_core.proofs.FormLaws as laws
use Rattle.lane_core.proofs.IndexRuns.{Fits, fits, half, low, next_filled, last_taken, next_taken, taken_from}
use Rattle.lane_core.proofs.Passing.{Holds, HasRoom, IsFoundRightly, found_rightly, count_waiting, has_next, next_empty, back_empty, put_back}
use Rattle.lane_core.proofs.Rings.{other_slot, set_there}

module _ {M : Type 0} where
  -- the published messages, and whether the lane is closed, after a step on a closed lane
  after_closed : (k : ℕ) (l : IndexLane M) (e : Step M) → Fits k l → MayFollow l e → l.traffic.closed ≡ true → laws.StaysClosed l.traffic (after l e).traffic
  after_closed k l Sender_loads f may closed = record { published = refl; closed = closed }
  after_closed k l (Fills m) f may closed = record { published = refl; closed = closed }
  after_closed k l Publishes f may closed = absurd (false≢true (sym may.0 ∙ f.closed ∙ closed))
  after_closed k l Closes f may closed = record { published = refl; closed = refl }
  after_closed k l Receiver_loads f may closed = record { published = refl; closed = closed }
  after_closed k l Takes f may closed = record { published = refl; closed = closed }
  after_closed k l Puts_back f may closed = elim l.traffic.emptying as (λ ms. laws.StaysClosed l.traffic (back_in l.traffic ms (back_slot l.receiver))) [
    | [] ↦ record { published = refl; closed = closed }
    | m ∷ ms ↦ record { published = refl; closed = closed }
  ]
  after_closed k l Frees f may closed = record { published = refl; closed = closed }

  holds : (k : ℕ) (h : List (Step M)) → 1 ≤ k → IsRun (index_words M) k h → Holds k (traffic_of (index_words M) k h)
  holds k h some run = (fits k h run).holds

  room : (k : ℕ) (h : List (Step M)) → 1 ≤ k → IsRun (index_words M) k h → HasRoom k (traffic_of (index_words M) k h)
  room k h some run = let f = fits k h run in omega arith

  stays : (k : ℕ) (h : List (Step M)) (e : Step M) → 1 ≤ k → IsRun (index_words M) k (e ∷ h) → (traffic_of (index_words M) k h).closed ≡ true → laws.StaysClosed (traffic_of (index_words M) k h) (traffic_of (index_words M) k (e ∷ h))
  stays k h e some run closed = after_closed k (lane_after (index_words M) k h) e (fits k h run.1) run.0 closed

  found_exactly : (k : ℕ) (h : List (Step M)) → 1 ≤ k → IsRun (index_words M) k h → IsFoundRightly (traffic_of (index_words M) k h) (receiver_finds (index_words M) k h)
  found_exactly k h some run = go (fits k h run)
    where
      l : IndexLane M
      l = lane_after (index_words M) k h

      go : Fits k l → IsFoundRightly l.traffic (receiver_finds (index_words M) k h)
      go f =
          let count = half l.put l.sender.published l.sender.closed f.put in
          let more : nat_lt l.receiver.freed (l.put / 2) ≡ nat_lt (length l.traffic.freed) (length l.traffic.published) = ap (λ n. nat_lt l.receiver.freed n) (count ∙ f.published) ∙ ap (λ n. nat_lt n (length l.traffic.published)) f.freed in
          found_rightly l.traffic (nat_lt l.receiver.freed (l.put / 2)) (l.put % 2 == 1) more (λ none. low l.put l.sender.published l.sender.closed f.put ∙ f.closed)

  pub in_order : FreedInOrder (index_words M)
  in_order = laws.in_order (index_words M) holds room stays found_exactly

  pub bounded : AtMostCapacity (index_words M)
  bounded = laws.bounded (index_words M) holds room stays found_exactly

  pub nothing_after_close : NothingAfterClose (index_words M)
  nothing_after_close = laws.nothing_after_close (index_words M) holds room stays found_exactly

  pub message_exactly : MessageExactly (index_words M)
  message_exactly = laws.message_exactly (index_words M) holds room stays found_exactly

  pub ended_exactly : EndedExactly (index_words M)
  ended_exactly = laws.ended_exactly (index_words M) holds room stays found_exactly

  pub apart : NoSlotOfBoth (index_words M)
  apart k h some run c d sends receives same = let f = fits k h run in other_slot k d c (omega arith) (omega arith) (sym same)

  pub fills_own : FillsOwnSlot (index_words M)
  fills_own k h m some run =
      let l = lane_after (index_words M) k h in
      let f = fits k h run.1 in
      let slot : fill_count l.sender % k ≡ (length l.traffic.published + length l.traffic.filling) % k = sym (ap (λ c. fill_count l.sender % c) f.sender_slots) ∙ next_filled k l f in (
        (omega arith, run.0),
        set_there l.traffic.slots (fill_count l.sender % l.sender.capacity) (fill_count l.sender % k) (Some m) (sym (ap (λ c. fill_count l.sender % c) f.sender_slots)),
        (λ opened. ap l.traffic.slots slot ∙ next_empty k l.traffic f.holds opened (omega (arith, run.0))),
      )

  pub takes_own : TakesOwnMessage (index_words M)
  takes_own k h some run =
      let l = lane_after (index_words M) k h in
      let f = fits k h run.1 in
      ((omega arith, run.0), has_next k l.traffic f.holds (take_count l.receiver % k) (omega (arith, run.0)) (sym (ap (λ c. take_count l.receiver % c) f.receiver_slots) ∙ next_taken k l f))

  pub puts_back_own : PutsBackOwnMessage (index_words M)
  puts_back_own k h some run =
      let l = lane_after (index_words M) k h in
      let f = fits k h run.1 in
      let slot : back_count l.receiver % k ≡ back_slot l.receiver = sym (ap (λ c. back_count l.receiver % c) f.receiver_slots) in
      let hand : 0 < length l.traffic.emptying = omega (arith, run.0) in (
        (omega arith, omega (arith, run.0)),
        ap l.traffic.slots (slot ∙ last_taken k l f) ∙ back_empty k l.traffic f.holds hand,
        refl,
        put_back l.traffic (back_slot l.receiver) (back_count l.receiver % k) slot hand,
      )

  pub full_exactly : FullExactly (index_words M)
  full_exactly k h some run = go (nat_lt l.sender.published (l.taken + l.sender.capacity)) refl (fits k h run)
    where
      l : IndexLane M
      l = lane_after (index_words M) k h

      go : (b : Bool) → nat_lt l.sender.published (l.taken + l.sender.capacity) ≡ b → Fits k l → cond b Vacant Full ≡ Full ↔ length (waiting l.traffic) ≡ k
      go true e f = let less : l.sender.published < l.taken + l.sender.capacity = ltb-true _ _ e in ((λ (no : Vacant ≡ Full). cc), (λ many. absurd (omega (arith, count_waiting l.traffic))))
      go false e f = let more : l.taken + l.sender.capacity ≤ l.sender.published = ltb-false _ _ e in ((λ yes. omega (arith, count_waiting l.traffic)), (λ many. refl))

  -- A receiver or a sender that continues alone.

  receiver_claimed : (k : ℕ) (h : List (Step M)) → 1 ≤ k → IsRun (index_words M) k h → (traffic_of (index_words M) k h).emptying ≡ [] → receiver_keeps (index_words M) k h ≡ true → 0 < length (waiting (traffic_of (index_words M) k h))
  receiver_claimed k h some run hand e =
      let f = fits k h run in
      let l = lane_after (index_words M) k h in
      let less : take_count l.receiver < l.receiver.published = ltb-true _ _ e in
      omega (arith, count_waiting l.traffic)

  receiver_loaded_claims : (k : ℕ) (h : List (Step M)) → 1 ≤ k → IsRun (index_words M) k h → (traffic_of (index_words M) k h).emptying ≡ [] → 0 < length (waiting (traffic_of (index_words M) k h)) → receiver_keeps (index_words M) k (Receiver_loads ∷ h) ≡ true
  receiver_loaded_claims k h some run hand more =
      let f = fits k h run in
      let l = lane_after (index_words M) k h in
      lt-ltb (take_count l.receiver) (l.put / 2) (omega (arith, half l.put l.sender.published l.sender.closed f.put, count_waiting l.traffic, ap length hand))

  receiver_takes : (k : ℕ) (h : List (Step M)) → 1 ≤ k → IsRun (index_words M) k h → (traffic_of (index_words M) k h).emptying ≡ [] → receiver_keeps (index_words M) k h ≡ true → IsRun (index_words M) k (Frees ∷ Takes ∷ h) × ((m : M) × Took (traffic_of (index_words M) k h) (traffic_of (index_words M) k (Frees ∷ Takes ∷ h)) m)
  receiver_takes k h some run hand e =
      let l = lane_after (index_words M) k h in
      let may : MayFollow l Takes = ltb-true _ _ e in
      let next = taken_from k l (fits k h run) may in
      ((omega arith, (may, run)), (next.0, took l.traffic (take_slot l.receiver) next.0 hand next.1))

  pub receiver_goes_on : ReceiverAlone (index_words M)
  receiver_goes_on = receiver_alone (index_words M) in_order found_exactly receiver_claimed (λ k h run. ((tt, run), refl)) receiver_loaded_claims receiver_takes

  sender_claimed : (k : ℕ) (h : List (Step M)) → 1 ≤ k → IsRun (index_words M) k h → (traffic_of (index_words M) k h).filling ≡ [] → sender_keeps (index_words M) k h ≡ true → length (waiting (traffic_of (index_words M) k h)) < k
  sender_claimed k h some run hand e =
      let f = fits k h run in
      let l = lane_after (index_words M) k h in
      let less : fill_count l.sender < l.sender.freed + l.sender.capacity = ltb-true _ _ e in
      omega (arith, count_waiting l.traffic)

  sender_loaded_claims : (k : ℕ) (h : List (Step M)) → 1 ≤ k → IsRun (index_words M) k h → (traffic_of (index_words M) k h).filling ≡ [] → length (waiting (traffic_of (index_words M) k h)) < k → sender_keeps (index_words M) k (Sender_loads ∷ h) ≡ true
  sender_loaded_claims k h some run hand less =
      let f = fits k h run in
      let l = lane_after (index_words M) k h in
      lt-ltb (fill_count l.sender) (l.taken + l.sender.capacity) (omega (arith, count_waiting l.traffic, ap length hand))

  sender_gives : (k : ℕ) (h : List (Step M)) (m : M) → 1 ≤ k → IsRun (index_words M) k h → (traffic_of (index_words M) k h).filling ≡ [] → (traffic_of (index_words M) k h).closed ≡ false → sender_keeps (index_words M) k h ≡ true → IsRun (index_words M) k (Publishes ∷ Fills m ∷ h) × Gave (traffic_of (index_words M) k h) (traffic_of (index_words M) k (Publishes ∷ Fills m ∷ h)) m
  sender_gives k h m some run hand opened e =
      let l = lane_after (index_words M) k h in
      let f = fits k h run in
      let fill : MayFollow l (Fills m) = ltb-true _ _ e in
      (((f.closed ∙ opened, omega arith), (fill, run)), gave l.traffic (fill_slot l.sender) m hand)

  pub sender_goes_on : SenderAlone (index_words M)
  sender_goes_on = sender_alone (index_words M) in_order bounded full_exactly sender_claimed (λ k h run. ((tt, run), refl)) sender_loaded_claims sender_gives
