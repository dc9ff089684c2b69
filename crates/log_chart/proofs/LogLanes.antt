-- The lanes of a log's lines, as lists.
use Rattle.std.proofs.Common.{◌≡◌, ℕ, ◌==◌, ◌&&◌, not, Bool, true, false, cond, List, [], ◌∷◌, Option, None, Some, filter, refl, sym, ap, ap₂, ◌∙◌, eqb-true, eq-eqb}
use Rattle.std.specs.Prelude.{unwrap_or}
use Rattle.std.proofs.lemmas.Bool.{and_parts, false≢true}
use Rattle.log_chart.specs.Entries.{is_send}
use Rattle.log_chart.specs.Fates.{sender_of, receiver_of, is_on, earlier, first_sent, later_one, last_sent, overtaking, is_sent_at, message_fate, unreceived, receive_fate, fate_of, stays}
use Rattle.log_chart.specs.declared.fate.Fate.TheVariants.{Stays}
use Rattle.log_chart.specs.declared.matching.LogLine.{LogLine}
use Rattle.log_chart.proofs.LaneLists.{Taking, lane_first, lane_last, lane_fate, taken_fate, sent_fate}

-- the numbers of the lane's sends
abbrev pub sends_on : ℕ → ℕ → List LogLine → List ℕ
sends_on q p [] = []
sends_on q p (x ∷ lines) = cond (is_send x.entry.kind && is_on q p x) (x.number ∷ sends_on q p lines) (sends_on q p lines)

-- the numbers of its receives
abbrev pub taking_of : LogLine → Taking
taking_of x = record { number = x.number; send = x.send }

abbrev pub takes_on : ℕ → ℕ → List LogLine → List Taking
takes_on q p [] = []
takes_on q p (x ∷ lines) = cond (not (is_send x.entry.kind) && is_on q p x) (taking_of x ∷ takes_on q p lines) (takes_on q p lines)

-- the lane of a line is that of its number and of the send that it takes; a send takes none
pub record LineFits (from to : ℕ → ℕ) (x : LogLine) : Type 0 where
  pub sender : sender_of x.entry ≡ from x.number
  pub receiver : receiver_of x.entry ≡ to x.number
  pub no_send : is_send x.entry.kind ≡ true → x.send ≡ None
  pub lane : (s : ℕ) → x.send ≡ Some s → (from s ≡ sender_of x.entry) × (to s ≡ receiver_of x.entry)

abbrev pub Fits : (ℕ → ℕ) → (ℕ → ℕ) → List LogLine → Type 0
Fits from to [] = Unit {0}
Fits from to (x ∷ lines) = LineFits from to x × Fits from to lines

either : {X : Type 0} (its : Bool) (x : X) → cond its x x ≡ x
either true x = refl
either false x = refl

module _ (from to : ℕ → ℕ) (q p : ℕ) where
  first_on : (lines : List LogLine) → Fits from to lines → first_sent lines q p ≡ lane_first (takes_on q p lines)
  unfolding first_sent
  first_on [] fits = refl
  first_on (x ∷ lines) fits = go (is_send x.entry.kind) refl (is_on q p x) (first_on lines fits.1)
    where
      go : (sends : Bool) → is_send x.entry.kind ≡ sends → (its : Bool) → first_sent lines q p ≡ lane_first (takes_on q p lines)
          → cond its (earlier x.send (first_sent lines q p)) (first_sent lines q p) ≡ lane_first (cond (not sends && its) (taking_of x ∷ takes_on q p lines) (takes_on q p lines))
      go true e its rest = rw (fits.0.no_send e) (either its (first_sent lines q p) ∙ rest)
      go false e true rest = ap (earlier x.send) rest
      go false e false rest = rest

  last_on : (lines : List LogLine) → Fits from to lines → last_sent lines q p ≡ lane_last (takes_on q p lines)
  unfolding last_sent
  last_on [] fits = refl
  last_on (x ∷ lines) fits = go (is_send x.entry.kind) refl (is_on q p x) (last_on lines fits.1)
    where
      go : (sends : Bool) → is_send x.entry.kind ≡ sends → (its : Bool) → last_sent lines q p ≡ lane_last (takes_on q p lines)
          → cond its (later_one x.send (last_sent lines q p)) (last_sent lines q p) ≡ lane_last (cond (not sends && its) (taking_of x ∷ takes_on q p lines) (takes_on q p lines))
      go true e its rest = rw (fits.0.no_send e) (either its (last_sent lines q p) ∙ rest)
      go false e true rest = ap (later_one x.send) rest
      go false e false rest = rest

  -- the fate of a message of this lane
  fate_on : (s : ℕ) → from s ≡ q → to s ≡ p → (lines : List LogLine) → Fits from to lines → message_fate s lines ≡ lane_fate s (takes_on q p lines)
  unfolding message_fate
  fate_on s from_q to_p [] fits = refl
  fate_on s from_q to_p (x ∷ lines) fits = go (is_sent_at s x.send) refl (fate_on s from_q to_p lines fits.1) (first_on lines fits.1)
    where
      sent : (t : Option ℕ) → is_sent_at s t ≡ true → t ≡ Some s
      sent None e = absurd (false≢true e)
      sent (Some t) e = ap (λ k. Some k) (eqb-true t s e)

      receives : is_sent_at s x.send ≡ true → (sends : Bool) → is_send x.entry.kind ≡ sends → sends ≡ false
      receives e true is = absurd (let none = fits.0.no_send is in let some = sent x.send e in cc)
      receives e false is = refl

      on_lane : is_sent_at s x.send ≡ true → is_on q p x ≡ true
      on_lane e =
          let lane = fits.0.lane s (sent x.send e) in
          ap₂ (λ a b. a && b) (eq-eqb (sender_of x.entry) q (sym lane.0 ∙ from_q)) (eq-eqb (receiver_of x.entry) p (sym lane.1 ∙ to_p))

      kept : (its : Bool) → lane_fate s (cond its (taking_of x ∷ takes_on q p lines) (takes_on q p lines)) ≡ cond its (cond (is_sent_at s x.send) (Some (overtaking (lane_first (takes_on q p lines)) s)) (lane_fate s (takes_on q p lines))) (lane_fate s (takes_on q p lines))
      kept true = refl
      kept false = refl

      go : (its : Bool) → is_sent_at s x.send ≡ its → message_fate s lines ≡ lane_fate s (takes_on q p lines) → first_sent lines q p ≡ lane_first (takes_on q p lines)
          → cond its (Some (overtaking (first_sent lines (sender_of x.entry) (receiver_of x.entry)) s)) (message_fate s lines)
          ≡ lane_fate s (cond (not (is_send x.entry.kind) && is_on q p x) (taking_of x ∷ takes_on q p lines) (takes_on q p lines))
      go true e rest first =
          let lane = fits.0.lane s (sent x.send e) in
          let own : first_sent lines (sender_of x.entry) (receiver_of x.entry) ≡ lane_first (takes_on q p lines) = ap₂ (first_sent lines) (sym lane.0 ∙ from_q) (sym lane.1 ∙ to_p) ∙ first in
          let here : (not (is_send x.entry.kind) && is_on q p x) ≡ true = ap₂ (λ a b. not a && b) (receives e (is_send x.entry.kind) refl) (on_lane e) in
          ap (λ f. Some (overtaking f s)) own
          ∙ sym (ap (λ b. lane_fate s (cond b (taking_of x ∷ takes_on q p lines) (takes_on q p lines))) here ∙ ap (λ b. cond b (Some (overtaking (lane_first (takes_on q p lines)) s)) (lane_fate s (takes_on q p lines))) e)
      go false e rest first =
          rest ∙ sym (kept (not (is_send x.entry.kind) && is_on q p x) ∙ ap (λ b. cond (not (is_send x.entry.kind) && is_on q p x) (cond b (Some (overtaking (lane_first (takes_on q p lines)) s)) (lane_fate s (takes_on q p lines))) (lane_fate s (takes_on q p lines))) e
          ∙ either (not (is_send x.entry.kind) && is_on q p x) (lane_fate s (takes_on q p lines)))

  -- the ends of the lane
  ends_on : (x : LogLine) → is_on q p x ≡ true → (sender_of x.entry ≡ q) × (receiver_of x.entry ≡ p)
  ends_on x its =
      let ends = and_parts (sender_of x.entry == q) (receiver_of x.entry == p) its in
      (eqb-true (sender_of x.entry) q ends.0, eqb-true (receiver_of x.entry) p ends.1)

  -- the sends that stay, and the receives that stay
  module _ (all : List LogLine) (all_fit : Fits from to all) where
    sent_here : (x : LogLine) → LineFits from to x → is_send x.entry.kind ≡ true → is_on q p x ≡ true → fate_of all x ≡ sent_fate (takes_on q p all) x.number
    sent_here x fits sends its =
        let ends = ends_on x its in
        let last : last_sent all (sender_of x.entry) (receiver_of x.entry) ≡ lane_last (takes_on q p all) = ap₂ (last_sent all) ends.0 ends.1 ∙ last_on all all_fit in
        let fate = fate_on x.number (sym fits.sender ∙ ends.0) (sym fits.receiver ∙ ends.1) all all_fit in
        ap (λ b. cond b (unwrap_or (message_fate x.number all) (unreceived x.number (last_sent all (sender_of x.entry) (receiver_of x.entry)))) (receive_fate all x.send)) sends
        ∙ ap₂ (λ f l. unwrap_or f (unreceived x.number l)) fate last

    taken_here : (x : LogLine) → LineFits from to x → is_send x.entry.kind ≡ false → is_on q p x ≡ true → fate_of all x ≡ taken_fate (takes_on q p all) x.send
    taken_here x fits receives its =
        let ends = ends_on x its in
        ap (λ b. cond b (unwrap_or (message_fate x.number all) (unreceived x.number (last_sent all (sender_of x.entry) (receiver_of x.entry)))) (receive_fate all x.send)) receives
        ∙ go x.send refl ends
      where
        go : (t : Option ℕ) → x.send ≡ t → (sender_of x.entry ≡ q) × (receiver_of x.entry ≡ p) → receive_fate all t ≡ taken_fate (takes_on q p all) t
        go None e ends = refl
        go (Some s) e ends = let lane = fits.lane s e in ap (λ f. unwrap_or f Stays) (fate_on s (lane.0 ∙ ends.0) (lane.1 ∙ ends.1) all all_fit)

    pub sends_left : (lines : List LogLine) → Fits from to lines → sends_on q p (filter (λ x. stays (fate_of all x)) lines) ≡ filter (λ s. stays (sent_fate (takes_on q p all) s)) (sends_on q p lines)
    sends_left [] fits = refl
    sends_left (x ∷ lines) fits = go (is_send x.entry.kind && is_on q p x) refl (stays (fate_of all x)) refl (sends_left lines fits.1)
      where
        test : LogLine → Bool
        test y = stays (fate_of all y)

        own : ℕ → Bool
        own s = stays (sent_fate (takes_on q p all) s)

        go : (its : Bool) → (is_send x.entry.kind && is_on q p x) ≡ its → (stay : Bool) → stays (fate_of all x) ≡ stay
            → sends_on q p (filter (λ y. stays (fate_of all y)) lines) ≡ filter (λ s. stays (sent_fate (takes_on q p all) s)) (sends_on q p lines)
            → sends_on q p (cond stay (x ∷ filter (λ y. stays (fate_of all y)) lines) (filter (λ y. stays (fate_of all y)) lines))
            ≡ filter (λ s. stays (sent_fate (takes_on q p all) s)) (cond its (x.number ∷ sends_on q p lines) (sends_on q p lines))
        go true e stay f rest =
            let parts = and_parts (is_send x.entry.kind) (is_on q p x) e in
            let same : stays (sent_fate (takes_on q p all) x.number) ≡ stay = ap stays (sym (sent_here x fits.0 parts.0 parts.1)) ∙ f in
            by_stay stay e same rest
          where
            by_stay : (b : Bool) → (is_send x.entry.kind && is_on q p x) ≡ true → stays (sent_fate (takes_on q p all) x.number) ≡ b
                → sends_on q p (filter (λ y. stays (fate_of all y)) lines) ≡ filter (λ s. stays (sent_fate (takes_on q p all) s)) (sends_on q p lines)
                → sends_on q p (cond b (x ∷ filter (λ y. stays (fate_of all y)) lines) (filter (λ y. stays (fate_of all y)) lines))
                ≡ filter (λ s. stays (sent_fate (takes_on q p all) s)) (x.number ∷ sends_on q p lines)
            by_stay true on same' rest' = rw (on, same') (ap (λ l. x.number ∷ l) rest')
            by_stay false on same' rest' = rw same' rest'
        go false e true f rest = rw e rest
        go false e false f rest = rest

    pub takes_left : (lines : List LogLine) → Fits from to lines → takes_on q p (filter (λ x. stays (fate_of all x)) lines) ≡ filter (λ r. stays (taken_fate (takes_on q p all) r.send)) (takes_on q p lines)
    takes_left [] fits = refl
    takes_left (x ∷ lines) fits = go (is_send x.entry.kind) refl (is_on q p x) refl (stays (fate_of all x)) refl (takes_left lines fits.1)
      where
        Rest : Type 0
        Rest = takes_on q p (filter (λ y. stays (fate_of all y)) lines) ≡ filter (λ r. stays (taken_fate (takes_on q p all) r.send)) (takes_on q p lines)

        skipped : (not (is_send x.entry.kind) && is_on q p x) ≡ false → (stay : Bool) → Rest
            → takes_on q p (cond stay (x ∷ filter (λ y. stays (fate_of all y)) lines) (filter (λ y. stays (fate_of all y)) lines)) ≡ filter (λ r. stays (taken_fate (takes_on q p all) r.send)) (takes_on q p lines)
        skipped e true rest = rw e rest
        skipped e false rest = rest

        by_stay : (b : Bool) → (not (is_send x.entry.kind) && is_on q p x) ≡ true → stays (taken_fate (takes_on q p all) x.send) ≡ b → Rest
            → takes_on q p (cond b (x ∷ filter (λ y. stays (fate_of all y)) lines) (filter (λ y. stays (fate_of all y)) lines))
            ≡ filter (λ r. stays (taken_fate (takes_on q p all) r.send)) (taking_of x ∷ takes_on q p lines)
        by_stay true on same rest = rw (on, same) (ap (λ l. taking_of x ∷ l) rest)
        by_stay false on same rest = rw same rest

        go : (sends : Bool) → is_send x.entry.kind ≡ sends → (its : Bool) → is_on q p x ≡ its → (stay : Bool) → stays (fate_of all x) ≡ stay → Rest
            → takes_on q p (cond stay (x ∷ filter (λ y. stays (fate_of all y)) lines) (filter (λ y. stays (fate_of all y)) lines))
            ≡ filter (λ r. stays (taken_fate (takes_on q p all) r.send)) (cond (not sends && its) (taking_of x ∷ takes_on q p lines) (takes_on q p lines))
        go true e its f stay g rest = skipped (ap (λ b. not b && is_on q p x) e) stay rest
        go false e false f stay g rest = skipped (ap₂ (λ a b. not a && b) e f) stay rest
        go false e true f stay g rest = by_stay stay (ap₂ (λ a b. not a && b) e f) (ap stays (sym (taken_here x fits.0 e f)) ∙ g) rest
