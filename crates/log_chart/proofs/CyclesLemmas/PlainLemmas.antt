-- A lane with one stream, which no other lane has: each of its lines stays.
use Rattle.std.proofs.Common.{◌≡◌, ℕ, zero, suc, ◌+◌, ◌≤◌, ◌==◌, ◌&&◌, ◌⊎◌, inl, inr, Bool, true, false, cond, List, [], ◌∷◌, Option, None, Some, drop, refl, sym, ap, ap₂, ◌∙◌, subst, arith, eqb-true}
use Rattle.std.specs.Prelude.{All, Contains, unwrap_or}
use Rattle.std.proofs.lemmas.Bool.{ne_eqb, eq-eqb, false≢true, and_parts, and_from, le-ltb}
use Rattle.std.proofs.lemmas.List.Elements.{All-head, All-tail}
use Rattle.log_chart.specs.BegunTables.{IsRising}
use Rattle.log_chart.specs.Chains.{IsBelow, first_of}
use Rattle.log_chart.specs.Entries.{is_send, takes}
use Rattle.log_chart.specs.Fates.{sender_of, receiver_of, earlier, later_one, first_sent, last_sent, overtaking, is_sent_at, message_fate, unreceived, receive_fate, fate_of, stays}
use Rattle.log_chart.specs.Matching.{sends_from, send_for, left_after, matched_from}
use Rattle.log_chart.specs.declared.entry.Entry.{Entry}
use Rattle.log_chart.specs.declared.fate.Fate.{Fate}
use Rattle.log_chart.specs.declared.fate.Fate.TheVariants.{Stays}
use Rattle.log_chart.specs.declared.matching.LogLine.{LogLine}
use Rattle.log_chart.proofs.LaneLists.{Has}
use Rattle.log_chart.proofs.RisingLists.{below_has}
use Rattle.log_chart.proofs.TakenLanes.{AreLeft, left_then, first_has, took}

-- the line is of the stream exactly if it is on the lane
pub record IsAlone (c q p : ℕ) (e : Entry) : Type 0 where
  pub sender : e.stream ≡ c → sender_of e ≡ q
  pub receiver : e.stream ≡ c → receiver_of e ≡ p
  pub stream : sender_of e ≡ q → receiver_of e ≡ p → e.stream ≡ c

-- there is no such send, or it is the first of these
abbrev IsFirstOf : Option ℕ → List ℕ → Type 0
IsFirstOf r xs = (r ≡ None) ⊎ (r ≡ first_of xs)

abbrev IsUpTo : ℕ → Option ℕ → Type 0
IsUpTo s None = Unit {0}
IsUpTo s (Some t) = t ≤ s

module _ (stream : ℕ → ℕ) (c q p : ℕ) where
  on_lane : (e : Entry) → IsAlone c q p e → e.stream ≡ c → (sender_of e == q && receiver_of e == p) ≡ true
  on_lane e alone its = and_from (sender_of e == q) (receiver_of e == p) (eq-eqb (sender_of e) q (alone.sender its)) (eq-eqb (receiver_of e) p (alone.receiver its))

  of_stream : (e : Entry) → IsAlone c q p e → (sender_of e == q && receiver_of e == p) ≡ true → e.stream ≡ c
  of_stream e alone its =
      let ends = and_parts (sender_of e == q) (receiver_of e == p) its in
      alone.stream (eqb-true (sender_of e) q ends.0) (eqb-true (receiver_of e) p ends.1)

  off_lane : (e : Entry) → IsAlone c q p e → (sender_of e == q && receiver_of e == p) ≡ false → (e.stream == c) ≡ false
  off_lane e alone off = ne_eqb e.stream c (λ its. false≢true (sym off ∙ on_lane e alone its))

  -- what remains of the stream after a line of another one
  left_same : (left : ℕ → List ℕ) (e : Entry) → (e.stream == c) ≡ false → left_after left e c ≡ left c
  left_same left e other = rw other (none (takes e.kind) (left c))
    where
      none : (b : Bool) (l : List ℕ) → cond (b && false) (drop 1 l) l ≡ l
      none true l = refl
      none false l = refl

  least : (t : ℕ) (rest : List ℕ) (r : Option ℕ) → IsBelow t rest → IsFirstOf r rest → earlier (Some t) r ≡ Some t
  least t rest None below its = refl
  least t rest (Some u) below (inl none) = absurd (cc none)
  least t [] (Some u) below (inr is) = absurd (cc is)
  least t (v ∷ rest) (Some u) below (inr is) = let same : u ≡ v = cc is in ap Some (grind (arith, below.0, same))

  first_plain : (left : ℕ → List ℕ) (n : ℕ) (log : List Entry) → AreLeft stream left → All (IsAlone c q p) log → IsFirstOf (first_sent (matched_from left n log) q p) (left c)
  unfolding matched_from first_sent
  first_plain left n [] are alone = inl refl
  first_plain left n (e ∷ log) are alone =
      go (sender_of e == q && receiver_of e == p) refl (takes e.kind) refl (first_plain (left_after left e) (n + 1) log (left_then stream left e are) (All-tail (IsAlone c q p) e log alone))
    where
      here : IsAlone c q p e
      here = All-head (IsAlone c q p) e log alone

      later : Option ℕ
      later = first_sent (matched_from (left_after left e) (n + 1) log) q p

      by_left : (l : List ℕ) → IsRising l → IsFirstOf later (drop 1 l) → IsFirstOf (earlier (first_of l) later) l
      by_left [] rising rest = rest
      by_left (t ∷ l) rising rest = inr (least t l later rising.0 rest)

      go : (on : Bool) → (sender_of e == q && receiver_of e == p) ≡ on → (one : Bool) → takes e.kind ≡ one → IsFirstOf later (left_after left e c)
          → IsFirstOf (cond on (earlier (cond one (first_of (left e.stream)) None) later) later) (left c)
      go false f one g rest = subst (IsFirstOf later) (left_same left e (off_lane e here f)) rest
      go true f true g rest =
          let its = of_stream e here f in
          subst (λ d. IsFirstOf (earlier (first_of (left d)) later) (left c)) (sym its)
          (by_left (left c) (are.rising c) (subst (λ b. IsFirstOf later (cond b (drop 1 (left c)) (left c))) (ap₂ (λ a b. a && b) g (eq-eqb e.stream c its)) rest))
      go true f false g rest = subst (λ b. IsFirstOf later (cond (b && e.stream == c) (drop 1 (left c)) (left c))) g rest

  -- a message of the lane overtakes none
  overtakes_none : (s : ℕ) (rest : List ℕ) (r : Option ℕ) → IsBelow s rest → IsFirstOf r rest → overtaking r s ≡ Stays
  overtakes_none s rest None below its = refl
  overtakes_none s rest (Some u) below (inl none) = absurd (cc none)
  overtakes_none s [] (Some u) below (inr is) = absurd (cc is)
  overtakes_none s (v ∷ rest) (Some u) below (inr is) = let same : u ≡ v = cc is in rw (le-ltb u s (omega (arith, below.0, same))) refl

  sent_at : (s : ℕ) (t : Option ℕ) → is_sent_at s t ≡ true → t ≡ Some s
  sent_at s None e = absurd (false≢true e)
  sent_at s (Some t) e = ap (λ k. Some k) (eqb-true t s e)

  fate_plain : (left : ℕ → List ℕ) (n : ℕ) (log : List Entry) → AreLeft stream left → All (IsAlone c q p) log → (s : ℕ) → stream s ≡ c
      → (message_fate s (matched_from left n log) ≡ None) ⊎ (message_fate s (matched_from left n log) ≡ Some Stays)
  unfolding matched_from message_fate
  fate_plain left n [] are alone s its = inl refl
  fate_plain left n (e ∷ log) are alone s its =
      go (is_sent_at s (send_for left e)) refl (fate_plain (left_after left e) (n + 1) log (left_then stream left e are) (All-tail (IsAlone c q p) e log alone) s its)
    where
      rest : List LogLine
      rest = matched_from (left_after left e) (n + 1) log

      stays_here : send_for left e ≡ Some s → overtaking (first_sent rest (sender_of e) (receiver_of e)) s ≡ Stays
      stays_here is =
          let t = took left e s is in
          let stream_is : e.stream ≡ c = sym (are.own e.stream s (first_has (left e.stream) s t.1)) ∙ its in
          let here = All-head (IsAlone c q p) e log alone in
          let first = first_plain (left_after left e) (n + 1) log (left_then stream left e are) (All-tail (IsAlone c q p) e log alone) in
          let head : first_of (left c) ≡ Some s = ap (λ d. first_of (left d)) (sym stream_is) ∙ t.1 in
          let first' : IsFirstOf (first_sent rest q p) (drop 1 (left c)) = subst (λ b. IsFirstOf (first_sent rest q p) (cond b (drop 1 (left c)) (left c))) (ap₂ (λ a b. a && b) t.0 (eq-eqb e.stream c stream_is)) first in
          ap₂ (λ a b. overtaking (first_sent rest a b) s) (here.sender stream_is) (here.receiver stream_is) ∙ by_left (left c) head (are.rising c) first'
        where
          by_left : (l : List ℕ) → first_of l ≡ Some s → IsRising l → IsFirstOf (first_sent rest q p) (drop 1 l) → overtaking (first_sent rest q p) s ≡ Stays
          by_left [] head rising first = absurd (cc head)
          by_left (t ∷ l) head rising first = let same : t ≡ s = cc head in overtakes_none s l (first_sent rest q p) (subst (λ k. IsBelow k l) same rising.0) first

      go : (sent : Bool) → is_sent_at s (send_for left e) ≡ sent → (message_fate s rest ≡ None) ⊎ (message_fate s rest ≡ Some Stays)
          → (cond sent (Some (overtaking (first_sent rest (sender_of e) (receiver_of e)) s)) (message_fate s rest) ≡ None)
          ⊎ (cond sent (Some (overtaking (first_sent rest (sender_of e) (receiver_of e)) s)) (message_fate s rest) ≡ Some Stays)
      go true f more = inr (ap Some (stays_here (sent_at s (send_for left e) f)))
      go false f more = more

  -- the sends of the lane that are taken are its first ones
  last_plain : (left : ℕ → List ℕ) (n : ℕ) (log : List Entry) → AreLeft stream left → All (IsAlone c q p) log → (s : ℕ) → Has (left c) s → message_fate s (matched_from left n log) ≡ None
      → IsUpTo s (last_sent (matched_from left n log) q p)
  unfolding matched_from message_fate last_sent
  last_plain left n [] are alone s has none = tt
  last_plain left n (e ∷ log) are alone s has none =
      go (sender_of e == q && receiver_of e == p) refl (takes e.kind) refl
      (λ has_too none_too. last_plain (left_after left e) (n + 1) log (left_then stream left e are) (All-tail (IsAlone c q p) e log alone) s has_too none_too)
    where
      here : IsAlone c q p e
      here = All-head (IsAlone c q p) e log alone

      rest : List LogLine
      rest = matched_from (left_after left e) (n + 1) log

      last : Option ℕ
      last = last_sent rest q p

      unsent : (is_sent_at s (send_for left e) ≡ true → ⊥) × (message_fate s rest ≡ None)
      unsent = by_sent (is_sent_at s (send_for left e)) refl none
        where
          by_sent : (sent : Bool) → is_sent_at s (send_for left e) ≡ sent → cond sent (Some (overtaking (first_sent rest (sender_of e) (receiver_of e)) s)) (message_fate s rest) ≡ None
              → (is_sent_at s (send_for left e) ≡ true → ⊥) × (message_fate s rest ≡ None)
          by_sent true f its = absurd (cc its)
          by_sent false f its = (λ g. false≢true (sym f ∙ g), its)

      most : (t : ℕ) (r : Option ℕ) → t ≤ s → IsUpTo s r → IsUpTo s (later_one (Some t) r)
      most t None less up = less
      most t (Some u) less up = grind (arith, less, up)

      by_left : (l : List ℕ) → IsRising l → Has l s → (first_of l ≡ Some s → ⊥) → (Has (drop 1 l) s → IsUpTo s last) → IsUpTo s (later_one (first_of l) last)
      by_left [] rising its differs more = absurd its
      by_left (t ∷ l) rising (inl same) differs more = absurd (differs (ap Some same))
      by_left (t ∷ l) rising (inr its) differs more = most t last (let less = below_has t s l rising.0 its in omega (arith, less)) (more its)

      Rest : Type 0
      Rest = Has (left_after left e c) s → message_fate s rest ≡ None → IsUpTo s last

      go : (on : Bool) → (sender_of e == q && receiver_of e == p) ≡ on → (one : Bool) → takes e.kind ≡ one → Rest
          → IsUpTo s (cond on (later_one (cond one (first_of (left e.stream)) None) last) last)
      go false f one g more = more (subst (λ l. Has l s) (sym (left_same left e (off_lane e here f))) has) unsent.1
      go true f true g more =
          let its = of_stream e here f in
          let differs : first_of (left c) ≡ Some s → ⊥ =
          λ first. unsent.0 (ap (is_sent_at s) (ap (λ b. cond b (first_of (left e.stream)) None) g ∙ ap (λ d. first_of (left d)) its ∙ first) ∙ eq-eqb s s refl) in
          let after : left_after left e c ≡ drop 1 (left c) = ap (λ b. cond b (drop 1 (left c)) (left c)) (ap₂ (λ a b. a && b) g (eq-eqb e.stream c its)) in
          subst (λ d. IsUpTo s (later_one (first_of (left d)) last)) (sym its)
          (by_left (left c) (are.rising c) has differs (λ there. more (subst (λ l. Has l s) (sym after) there) unsent.1))
      go true f false g more =
          let after : left_after left e c ≡ left c = ap (λ b. cond (b && e.stream == c) (drop 1 (left c)) (left c)) g in
          more (subst (λ l. Has l s) (sym after) has) unsent.1

  -- a send of the stream is among its sends
  pub has_send : (left : ℕ → List ℕ) (n : ℕ) (log : List Entry) (x : LogLine) → Contains (matched_from left n log) x → is_send x.entry.kind ≡ true → x.entry.stream ≡ c → Has (sends_from n log c) x.number
  unfolding matched_from sends_from
  has_send left n [] x has sends its = absurd (omega (arith, has.1))
  has_send left n (e ∷ log) x (zero, less, is) sends its =
      rw (ap (λ (y : LogLine). is_send y.entry.kind) is ∙ sends, eq-eqb e.stream c (ap (λ (y : LogLine). y.entry.stream) is ∙ its)) (inl (ap (λ (y : LogLine). y.number) is))
  has_send left n (e ∷ log) x (suc i, less, is) sends its = more (is_send e.kind && e.stream == c) (has_send (left_after left e) (n + 1) log x (i, omega (arith, less), is) sends its)
    where
      more : (b : Bool) → Has (sends_from (n + 1) log c) x.number → Has (cond b (n ∷ sends_from (n + 1) log c) (sends_from (n + 1) log c)) x.number
      more true there = inr there
      more false there = there

  -- a line of the lane stays
  pub plain_stays : (left : ℕ → List ℕ) (log : List Entry) (x : LogLine) → AreLeft stream left → All (IsAlone c q p) log → stream x.number ≡ c → ((s : ℕ) → x.send ≡ Some s → stream s ≡ c)
      → sender_of x.entry ≡ q → receiver_of x.entry ≡ p → (is_send x.entry.kind ≡ true → Has (left c) x.number) → stays (fate_of (matched_from left 0 log) x) ≡ true
  plain_stays left log x are alone own takes_own sender receiver among = go (is_send x.entry.kind) refl
    where
      lines : List LogLine
      lines = matched_from left 0 log

      up_to : (last : Option ℕ) → IsUpTo x.number last → stays (unreceived x.number last) ≡ true
      up_to None up = refl
      up_to (Some t) up = rw (le-ltb x.number t up) refl

      by_fate : (fate : Option Fate) → message_fate x.number lines ≡ fate → (fate ≡ None) ⊎ (fate ≡ Some Stays) → is_send x.entry.kind ≡ true
          → stays (unwrap_or fate (unreceived x.number (last_sent lines (sender_of x.entry) (receiver_of x.entry)))) ≡ true
      by_fate None f its sends =
          ap₂ (λ a b. stays (unreceived x.number (last_sent lines a b))) sender receiver ∙ up_to (last_sent lines q p) (last_plain left 0 log are alone x.number (among sends) f)
      by_fate (Some fate) f (inl none) sends = absurd (cc none)
      by_fate (Some fate) f (inr its) sends = let same : fate ≡ Stays = cc its in ap stays same

      by_receive : (send : Option ℕ) → x.send ≡ send → stays (receive_fate lines send) ≡ true
      by_receive None f = refl
      by_receive (Some s) f = by_taken (message_fate s lines) (fate_plain left 0 log are alone s (takes_own s f))
        where
          by_taken : (fate : Option Fate) → (fate ≡ None) ⊎ (fate ≡ Some Stays) → stays (unwrap_or fate Stays) ≡ true
          by_taken None its = refl
          by_taken (Some fate) (inl none) = absurd (cc none)
          by_taken (Some fate) (inr its) = let same : fate ≡ Stays = cc its in ap stays same

      go : (sends : Bool) → is_send x.entry.kind ≡ sends
          → stays (cond sends (unwrap_or (message_fate x.number lines) (unreceived x.number (last_sent lines (sender_of x.entry) (receiver_of x.entry)))) (receive_fate lines x.send)) ≡ true
      go true f = by_fate (message_fate x.number lines) refl (fate_plain left 0 log are alone x.number own) f
      go false f = by_receive x.send refl
