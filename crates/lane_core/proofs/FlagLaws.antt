-- The laws of runs over slot words.
use Rattle.std.proofs.Common.{◌≡◌, ℕ, ◌+◌, ◌%◌, ◌<◌, ◌≤◌, ◌&&◌, ◌⊎◌, inl, inr, Bool, true, false, cond, List, [], ◌∷◌, length, Some, refl, sym, ap, ◌∙◌, eq-eqb, subst, arith}
use Rattle.std.specs.Prelude.{◌↔◌, not, nat_lt}
use Rattle.std.proofs.Math.Bool.{and-true}
use Rattle.std.proofs.lemmas.Bool.{lt-ltb, and_parts, false≢true}
use Rattle.lane_core.specs.declared.answers.Room.TheVariants.{Vacant, Full}
use Rattle.lane_core.specs.Alone.{ReceiverAlone, SenderAlone}
use Rattle.lane_core.specs.Forms.{IsRun, lane_after, traffic_of, sender_finds, receiver_finds, sender_keeps, receiver_keeps}
use Rattle.lane_core.specs.Laws.{FreedInOrder, AtMostCapacity, NoSlotOfBoth, FillsOwnSlot, TakesOwnMessage, PutsBackOwnMessage, NothingAfterClose, FullExactly, MessageExactly, EndedExactly}
use Rattle.lane_core.specs.FlagWords.{FlagLane, after, MayFollow, sender_slot, receiver_slot, sender_word, receiver_word, flag_words}
use Rattle.lane_core.specs.Steps.{Step, Sender_loads, Fills, Publishes, Closes, Receiver_loads, Takes, Puts_back, Frees}
use Rattle.lane_core.specs.Traffic.{back_in, waiting}
use Rattle.lane_core.proofs.Calls.{Took, Gave, took, gave, receiver_alone, sender_alone}
use Rattle.lane_core.proofs.FormLaws as laws
use Rattle.lane_core.proofs.Passing.{Holds, HasRoom, IsFoundRightly, found_rightly, count_waiting, has_next, next_empty, back_empty, put_back}
use Rattle.lane_core.proofs.Rings.{other_slot, set_there}
use Rattle.lane_core.proofs.FlagRuns.{bit, Fits, fits, word_cases, word_open, word_full, word_waits, next_there, next_slot, last_slot, at_sender, at_receiver}

-- a flag that stands for no message
no_hand : (flag : Bool) → bit flag ≡ 0 → flag ≡ false
no_hand true e = absurd (omega arith)
no_hand false e = refl

module _ {M : Type 0} where
  -- the published messages, and whether the lane is closed, after a step on a closed lane
  after_closed : (k : ℕ) (l : FlagLane M) (e : Step M) → Fits k l → MayFollow l e → l.traffic.closed ≡ true → laws.StaysClosed l.traffic (after l e).traffic
  after_closed k l Sender_loads f may closed = record { published = refl; closed = closed }
  after_closed k l (Fills m) f may closed = record { published = refl; closed = closed }
  after_closed k l Publishes f may closed = absurd (false≢true (sym may.0 ∙ f.closed ∙ closed))
  after_closed k l Closes f may closed = record { published = refl; closed = refl }
  after_closed k l Receiver_loads f may closed = record { published = refl; closed = closed }
  after_closed k l Takes f may closed = record { published = refl; closed = closed }
  after_closed k l Puts_back f may closed = elim l.traffic.emptying as (λ ms. laws.StaysClosed l.traffic (back_in l.traffic ms (receiver_slot l.receiver))) [
    | [] ↦ record { published = refl; closed = closed }
    | m ∷ ms ↦ record { published = refl; closed = closed }
  ]
  after_closed k l Frees f may closed = record { published = refl; closed = closed }

  holds : (k : ℕ) (h : List (Step M)) → 1 ≤ k → IsRun (flag_words M) k h → Holds k (traffic_of (flag_words M) k h)
  holds k h some run = (fits k h some run).holds

  room : (k : ℕ) (h : List (Step M)) → 1 ≤ k → IsRun (flag_words M) k h → HasRoom k (traffic_of (flag_words M) k h)
  room k h some run = let f = fits k h some run in omega arith

  stays : (k : ℕ) (h : List (Step M)) (e : Step M) → 1 ≤ k → IsRun (flag_words M) k (e ∷ h) → (traffic_of (flag_words M) k h).closed ≡ true → laws.StaysClosed (traffic_of (flag_words M) k h) (traffic_of (flag_words M) k (e ∷ h))
  stays k h e some run closed = after_closed k (lane_after (flag_words M) k h) e (fits k h some run.1) run.0 closed

  -- what a load of the receiver finds
  found_exactly : (k : ℕ) (h : List (Step M)) → 1 ≤ k → IsRun (flag_words M) k h → IsFoundRightly (traffic_of (flag_words M) k h) (receiver_finds (flag_words M) k h)
  found_exactly k h some run = go (fits k h some run)
    where
      l : FlagLane M
      l = lane_after (flag_words M) k h

      go : Fits k l → IsFoundRightly l.traffic (receiver_finds (flag_words M) k h)
      go f =
          let more : (receiver_word l).full ≡ nat_lt (length l.traffic.freed) (length l.traffic.published) = word_waits k l some f ∙ ap (λ n. nat_lt l.receiver.taken n) f.published ∙ ap (λ n. nat_lt n (length l.traffic.published)) f.freed in
          found_rightly l.traffic (receiver_word l).full (receiver_word l).end more ended
        where
          ended : length l.traffic.published ≤ length l.traffic.freed → (receiver_word l).end ≡ l.traffic.closed
          ended none =
              let same : l.receiver.taken ≡ l.sender.put = omega arith in
              f.ends (receiver_slot l.receiver) ∙ ap (λ b. l.sender.closed && b) (eq-eqb (receiver_slot l.receiver) (l.sender.put % k) (at_receiver k l some f ∙ ap (λ n. n % k) same)) ∙ and-true l.sender.closed ∙ f.closed

  pub in_order : FreedInOrder (flag_words M)
  in_order = laws.in_order (flag_words M) holds room stays found_exactly

  pub bounded : AtMostCapacity (flag_words M)
  bounded = laws.bounded (flag_words M) holds room stays found_exactly

  pub nothing_after_close : NothingAfterClose (flag_words M)
  nothing_after_close = laws.nothing_after_close (flag_words M) holds room stays found_exactly

  pub message_exactly : MessageExactly (flag_words M)
  message_exactly = laws.message_exactly (flag_words M) holds room stays found_exactly

  pub ended_exactly : EndedExactly (flag_words M)
  ended_exactly = laws.ended_exactly (flag_words M) holds room stays found_exactly

  pub apart : NoSlotOfBoth (flag_words M)
  apart k h some run c d sends receives same =
      let f = fits k h some run in
      let sender = f.sender_claims sends.0 in
      let receiver = f.receiver_claims receives.0 in
      other_slot k d c (omega (arith, receiver)) (omega (arith, sender)) (sym same)

  pub fills_own : FillsOwnSlot (flag_words M)
  fills_own k h m some run =
      let l = lane_after (flag_words M) k h in
      let f = fits k h some run.1 in
      let fresh = ap bit run.0.1 in
      let claimed = f.sender_claims run.0.0 in
      let counts : l.sender.put ≡ length l.traffic.published + length l.traffic.filling = omega (arith, fresh) in (
        (run.0.0, refl),
        set_there l.traffic.slots (sender_slot l.sender) (l.sender.put % k) (Some m) (sym (at_sender k l some f)),
        (λ opened. ap l.traffic.slots (ap (λ c. c % k) counts) ∙ next_empty k l.traffic f.holds opened (omega (arith, claimed, counts))),
      )

  pub takes_own : TakesOwnMessage (flag_words M)
  takes_own k h some run =
      let l = lane_after (flag_words M) k h in
      let f = fits k h some run.1 in
      ((run.0.0, refl), has_next k l.traffic f.holds (l.receiver.taken % k) (next_there k l some f run.0.0 run.0.1) (sym (at_receiver k l some f) ∙ next_slot k l some f run.0.1))

  pub puts_back_own : PutsBackOwnMessage (flag_words M)
  puts_back_own k h some run =
      let l = lane_after (flag_words M) k h in
      let f = fits k h some run.1 in
      let slot : l.receiver.taken % k ≡ receiver_slot l.receiver = sym (at_receiver k l some f) in
      let hand : 0 < length l.traffic.emptying = omega (arith, ap bit run.0) in (
        (f.emptied_claims run.0, refl),
        ap l.traffic.slots (slot ∙ last_slot k l some f run.0) ∙ back_empty k l.traffic f.holds hand,
        refl,
        put_back l.traffic (receiver_slot l.receiver) (l.receiver.taken % k) slot hand,
      )

  pub full_exactly : FullExactly (flag_words M)
  full_exactly k h some run = go (fits k h some run)
    where
      l : FlagLane M
      l = lane_after (flag_words M) k h

      go : Fits k l → sender_finds (flag_words M) k h ≡ Full ↔ length (waiting l.traffic) ≡ k
      go f = by (word_cases k l some f)
        where
          by : (l.sender.put < l.receiver.taken + k) ⊎ (l.sender.put ≡ l.receiver.taken + k) → sender_finds (flag_words M) k h ≡ Full ↔ length (waiting l.traffic) ≡ k
          by (inl less) = subst (λ b. cond b Full Vacant ≡ Full ↔ length (waiting l.traffic) ≡ k) (sym (word_open k l some f less)) ((λ (no : Vacant ≡ Full). cc), (λ many. absurd (omega (arith, count_waiting l.traffic))))
          by (inr e) = subst (λ b. cond b Full Vacant ≡ Full ↔ length (waiting l.traffic) ≡ k) (sym (word_full k l some f e)) ((λ yes. omega (arith, count_waiting l.traffic)), (λ many. refl))

  -- A receiver or a sender that continues alone.

  receiver_claimed : (k : ℕ) (h : List (Step M)) → 1 ≤ k → IsRun (flag_words M) k h → (traffic_of (flag_words M) k h).emptying ≡ [] → receiver_keeps (flag_words M) k h ≡ true → 0 < length (waiting (traffic_of (flag_words M) k h))
  receiver_claimed k h some run hand e =
      let f = fits k h some run in
      let r = (lane_after (flag_words M) k h).receiver in
      omega (arith, count_waiting (traffic_of (flag_words M) k h), f.receiver_claims (and_parts r.claims (not r.emptied) e).0)

  receiver_loaded_claims : (k : ℕ) (h : List (Step M)) → 1 ≤ k → IsRun (flag_words M) k h → (traffic_of (flag_words M) k h).emptying ≡ [] → 0 < length (waiting (traffic_of (flag_words M) k h)) → receiver_keeps (flag_words M) k (Receiver_loads ∷ h) ≡ true
  receiver_loaded_claims k h some run hand more =
      let l = lane_after (flag_words M) k h in
      let f = fits k h some run in
      let claims : (receiver_word l).full ≡ true = word_waits k l some f ∙ lt-ltb l.receiver.taken l.sender.put (omega (arith, count_waiting (traffic_of (flag_words M) k h))) in
      let fresh : l.receiver.emptied ≡ false = no_hand l.receiver.emptied (f.emptied ∙ ap length hand) in
      ap (λ b. b && not l.receiver.emptied) claims ∙ ap not fresh

  receiver_takes : (k : ℕ) (h : List (Step M)) → 1 ≤ k → IsRun (flag_words M) k h → (traffic_of (flag_words M) k h).emptying ≡ [] → receiver_keeps (flag_words M) k h ≡ true → IsRun (flag_words M) k (Frees ∷ Takes ∷ h) × ((m : M) × Took (traffic_of (flag_words M) k h) (traffic_of (flag_words M) k (Frees ∷ Takes ∷ h)) m)
  receiver_takes k h some run hand e =
      let l = lane_after (flag_words M) k h in
      let f = fits k h some run in
      let claims : l.receiver.claims ≡ true = (and_parts l.receiver.claims (not l.receiver.emptied) e).0 in
      let fresh : l.receiver.emptied ≡ false = no_hand l.receiver.emptied (f.emptied ∙ ap length hand) in
      let next = has_next k l.traffic f.holds (receiver_slot l.receiver) (next_there k l some f claims fresh) (next_slot k l some f fresh) in
      ((refl, ((claims, fresh), run)), (next.0, took l.traffic (receiver_slot l.receiver) next.0 hand next.1))

  pub receiver_goes_on : ReceiverAlone (flag_words M)
  receiver_goes_on = receiver_alone (flag_words M) in_order found_exactly receiver_claimed (λ k h run. ((tt, run), refl)) receiver_loaded_claims receiver_takes

  sender_claimed : (k : ℕ) (h : List (Step M)) → 1 ≤ k → IsRun (flag_words M) k h → (traffic_of (flag_words M) k h).filling ≡ [] → sender_keeps (flag_words M) k h ≡ true → length (waiting (traffic_of (flag_words M) k h)) < k
  sender_claimed k h some run hand e =
      let f = fits k h some run in
      let s = (lane_after (flag_words M) k h).sender in
      omega (arith, count_waiting (traffic_of (flag_words M) k h), f.sender_claims (and_parts s.claims (not s.filled) e).0)

  sender_loaded_claims : (k : ℕ) (h : List (Step M)) → 1 ≤ k → IsRun (flag_words M) k h → (traffic_of (flag_words M) k h).filling ≡ [] → length (waiting (traffic_of (flag_words M) k h)) < k → sender_keeps (flag_words M) k (Sender_loads ∷ h) ≡ true
  sender_loaded_claims k h some run hand less =
      let l = lane_after (flag_words M) k h in
      let f = fits k h some run in
      let claims : not (sender_word l).full ≡ true = ap not (word_open k l some f (omega (arith, count_waiting (traffic_of (flag_words M) k h)))) in
      let fresh : l.sender.filled ≡ false = no_hand l.sender.filled (f.filled ∙ ap length hand) in
      ap (λ b. b && not l.sender.filled) claims ∙ ap not fresh

  sender_gives : (k : ℕ) (h : List (Step M)) (m : M) → 1 ≤ k → IsRun (flag_words M) k h → (traffic_of (flag_words M) k h).filling ≡ [] → (traffic_of (flag_words M) k h).closed ≡ false → sender_keeps (flag_words M) k h ≡ true → IsRun (flag_words M) k (Publishes ∷ Fills m ∷ h) × Gave (traffic_of (flag_words M) k h) (traffic_of (flag_words M) k (Publishes ∷ Fills m ∷ h)) m
  sender_gives k h m some run hand opened e =
      let l = lane_after (flag_words M) k h in
      let f = fits k h some run in
      let claims : l.sender.claims ≡ true = (and_parts l.sender.claims (not l.sender.filled) e).0 in
      let fresh : l.sender.filled ≡ false = no_hand l.sender.filled (f.filled ∙ ap length hand) in
      (((f.closed ∙ opened, refl), ((claims, fresh), run)), gave l.traffic (sender_slot l.sender) m hand)

  pub sender_goes_on : SenderAlone (flag_words M)
  sender_goes_on = sender_alone (flag_words M) in_order bounded full_exactly sender_claimed (λ k h run. ((tt, run), refl)) sender_loaded_claims sender_gives
