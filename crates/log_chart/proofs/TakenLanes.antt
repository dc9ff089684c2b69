-- The sends that the receives of a lane take are sends of the lane, and no two receives take the same.
use Rattle.std.proofs.Common.{◌≡◌, ℕ, zero, suc, ◌+◌, inl, inr, ◌==◌, ◌&&◌, not, Bool, true, false, cond, List, [], ◌∷◌, Option, None, Some, drop, filter, refl, sym, ap, ap₂, ◌∙◌, subst, arith, eqb-true, eq-eqb, add-one}
use Rattle.std.proofs.lemmas.Bool.{and_parts, false≢true}
use Rattle.std.proofs.lemmas.List.Elements.{All-head, All-tail}
use Rattle.log_chart.specs.BegunTables.{IsRising}
use Rattle.log_chart.specs.Chains.{IsBelow, first_of}
use Rattle.log_chart.specs.Entries.{is_send, takes}
use Rattle.log_chart.specs.Fates.{sender_of, receiver_of, is_on}
use Rattle.log_chart.specs.Laws.{AreOfLanes}
use Rattle.log_chart.specs.Matching.{sends_from, send_for, left_after, matched_from, matched}
use Rattle.log_chart.specs.declared.entry.Entry.{Entry}
use Rattle.log_chart.specs.declared.entry.Kind.{Kind}
use Rattle.log_chart.specs.declared.entry.Kind.TheVariants.{Send, Receive, Freed}
use Rattle.log_chart.specs.declared.matching.LogLine.{LogLine}
use Rattle.log_chart.proofs.LaneLists.{sends_of, Has, AreApart}
use Rattle.log_chart.proofs.LogLanes.{Fits, sends_on, takes_on}
use Rattle.log_chart.proofs.MatchingLemmas.{sends_above}
use Rattle.log_chart.proofs.OrderLemmas.{IsAbove, Rises}

-- the stream of each line
abbrev pub stream_at : List Entry → ℕ → ℕ
stream_at [] n = 0
stream_at (e ∷ log) zero = e.stream
stream_at (e ∷ log) (suc n) = stream_at log n

abbrev pub AreStreams : (ℕ → ℕ) → ℕ → List Entry → Type 0
AreStreams stream k [] = Unit {0}
AreStreams stream k (e ∷ log) = (stream k ≡ e.stream) × AreStreams stream (k + 1) log

streams_same : (f g : ℕ → ℕ) → ((n : ℕ) → f n ≡ g n) → (k : ℕ) (log : List Entry) → AreStreams f k log → AreStreams g k log
streams_same f g same k [] streams = tt
streams_same f g same k (e ∷ log) streams = (sym (same k) ∙ streams.0, streams_same f g same (k + 1) log streams.1)

streams_later : (f : ℕ → ℕ) (k : ℕ) (log : List Entry) → AreStreams (λ n. f (n + 1)) k log → AreStreams f (k + 1) log
streams_later f k [] streams = tt
streams_later f k (e ∷ log) streams = (streams.0, streams_later f (k + 1) log streams.1)

pub streams_all : (log : List Entry) → AreStreams (stream_at log) 0 log
streams_all [] = tt
streams_all (e ∷ log) = (refl, streams_later (stream_at (e ∷ log)) 0 log (streams_same (stream_at log) (λ n. stream_at (e ∷ log) (n + 1)) (λ n. rw (add-one n) refl) 0 log (streams_all log)))

-- the remaining sends of each stream: its own ones, in their order
pub record AreLeft (stream : ℕ → ℕ) (left : ℕ → List ℕ) : Type 0 where
  pub own : (c s : ℕ) → Has (left c) s → stream s ≡ c
  pub rising : (c : ℕ) → IsRising (left c)

sends_own : (stream : ℕ → ℕ) (k : ℕ) (log : List Entry) → AreStreams stream k log → (c s : ℕ) → Has (sends_from k log c) s → stream s ≡ c
unfolding sends_from
sends_own stream k [] streams c s has = absurd has
sends_own stream k (e ∷ log) streams c s has = go (is_send e.kind) (e.stream == c) refl has (sends_own stream (k + 1) log streams.1 c s)
  where
    go : (sends its : Bool) → (e.stream == c) ≡ its → Has (cond (sends && its) (k ∷ sends_from (k + 1) log c) (sends_from (k + 1) log c)) s → (Has (sends_from (k + 1) log c) s → stream s ≡ c) → stream s ≡ c
    go true true f (inl same) rest = ap stream (sym same) ∙ streams.0 ∙ eqb-true e.stream c f
    go true true f (inr there) rest = rest there
    go true false f there rest = rest there
    go false its f there rest = rest there

sends_rise : (k : ℕ) (log : List Entry) (c : ℕ) → IsRising (sends_from k log c)
unfolding sends_from
sends_rise k [] c = tt
sends_rise k (e ∷ log) c = go (is_send e.kind && e.stream == c) (sends_rise (k + 1) log c)
  where
    go : (its : Bool) → IsRising (sends_from (k + 1) log c) → IsRising (cond its (k ∷ sends_from (k + 1) log c) (sends_from (k + 1) log c))
    go true rest = (sends_above k (k + 1) log c (omega arith), rest)
    go false rest = rest

pub all_left : (log : List Entry) → AreLeft (stream_at log) (sends_from 0 log)
all_left log = record { own = sends_own (stream_at log) 0 log (streams_all log); rising = sends_rise 0 log }

pub rest_has : (xs : List ℕ) (s : ℕ) → Has (drop 1 xs) s → Has xs s
rest_has [] s has = has
rest_has (x ∷ xs) s has = inr has

pub after_has : (left : ℕ → List ℕ) (e : Entry) (c s : ℕ) → Has (left_after left e c) s → Has (left c) s
after_has left e c s has = go (takes e.kind && e.stream == c) has
  where
    go : (its : Bool) → Has (cond its (drop 1 (left c)) (left c)) s → Has (left c) s
    go true there = rest_has (left c) s there
    go false there = there

rest_rises : (xs : List ℕ) → IsRising xs → IsRising (drop 1 xs)
rest_rises [] rising = tt
rest_rises (x ∷ xs) rising = rising.1

pub left_then : (stream : ℕ → ℕ) (left : ℕ → List ℕ) (e : Entry) → AreLeft stream left → AreLeft stream (left_after left e)
left_then stream left e are = record {
  own = λ c s has. are.own c s (after_has left e c s has);
  rising = λ c. go (takes e.kind && e.stream == c) c (are.rising c);
}
  where
    go : (its : Bool) (c : ℕ) → IsRising (left c) → IsRising (cond its (drop 1 (left c)) (left c))
    go true c rises = rest_rises (left c) rises
    go false c rises = rises

-- the send that a line takes is the first of its stream
pub first_has : (xs : List ℕ) (s : ℕ) → first_of xs ≡ Some s → Has xs s
first_has [] s is = absurd (cc is)
first_has (x ∷ xs) s is = inl (cc is)

pub took : (left : ℕ → List ℕ) (e : Entry) (s : ℕ) → send_for left e ≡ Some s → (takes e.kind ≡ true) × (first_of (left e.stream) ≡ Some s)
took left e s is = go (takes e.kind) refl is
  where
    go : (its : Bool) → takes e.kind ≡ its → cond its (first_of (left e.stream)) None ≡ Some s → (takes e.kind ≡ true) × (first_of (left e.stream) ≡ Some s)
    go true f same = (f, same)
    go false f same = absurd (cc same)

-- what the receives of a lane take remained before
module _ (stream : ℕ → ℕ) (q p : ℕ) where
  taken_left : (left : ℕ → List ℕ) (k : ℕ) (log : List Entry) → AreLeft stream left → (s : ℕ) → Has (sends_of (takes_on q p (matched_from left k log))) s → Has (left (stream s)) s
  unfolding matched_from
  taken_left left k [] are s has = absurd has
  taken_left left k (e ∷ log) are s has = go (not (is_send e.kind) && (sender_of e == q && receiver_of e == p)) (send_for left e) refl has
      (λ there. after_has left e (stream s) s (taken_left (left_after left e) (k + 1) log (left_then stream left e are) s there))
    where
      go : (its : Bool) (send : Option ℕ) → send_for left e ≡ send
          → Has (sends_of (cond its (record { number = k; send = send } ∷ takes_on q p (matched_from (left_after left e) (k + 1) log)) (takes_on q p (matched_from (left_after left e) (k + 1) log)))) s
          → (Has (sends_of (takes_on q p (matched_from (left_after left e) (k + 1) log))) s → Has (left (stream s)) s) → Has (left (stream s)) s
      go true None f there rest = rest there
      go true (Some t) f (inl same) rest =
          let first = took left e t f in
          let its = first_has (left e.stream) t first.1 in
          subst (λ x. Has (left (stream x)) x) same (subst (λ c. Has (left c) t) (sym (are.own e.stream t its)) its)
      go true (Some t) f (inr there) rest = rest there
      go false send f there rest = rest there

  -- a send that is taken doesn't remain
  gone : (left : ℕ → List ℕ) (e : Entry) (s : ℕ) → AreLeft stream left → send_for left e ≡ Some s → Has (left_after left e (stream s)) s → ⊥
  gone left e s are is has =
      let first = took left e s is in
      let own = are.own e.stream s (first_has (left e.stream) s first.1) in
      let its : (takes e.kind && e.stream == stream s) ≡ true = ap₂ (λ a b. a && b) first.0 (eq-eqb e.stream (stream s) (sym own)) in
      behind (left (stream s)) (are.rising (stream s)) (ap (λ c. first_of (left c)) own ∙ first.1) (subst (λ b. Has (cond b (drop 1 (left (stream s))) (left (stream s))) s) its has)
    where
      below : (n : ℕ) (xs : List ℕ) → IsBelow n xs → Has xs n → ⊥
      below n [] less has = has
      below n (x ∷ xs) less (inl e) = omega (arith, less.0, e)
      below n (x ∷ xs) less (inr has) = below n xs less.1 has

      behind : (xs : List ℕ) → IsRising xs → first_of xs ≡ Some s → Has (drop 1 xs) s → ⊥
      behind [] rises f there = there
      behind (x ∷ xs) rises f there = let same : x ≡ s = cc f in below x xs rises.0 (subst (Has xs) (sym same) there)

  pub taken_apart : (left : ℕ → List ℕ) (k : ℕ) (log : List Entry) → AreLeft stream left → AreApart (takes_on q p (matched_from left k log))
  unfolding matched_from
  taken_apart left k [] are = tt
  taken_apart left k (e ∷ log) are =
      go (not (is_send e.kind) && (sender_of e == q && receiver_of e == p)) (send_for left e) refl (taken_apart (left_after left e) (k + 1) log (left_then stream left e are))
    where
      go : (its : Bool) (send : Option ℕ) → send_for left e ≡ send → AreApart (takes_on q p (matched_from (left_after left e) (k + 1) log))
          → AreApart (cond its (record { number = k; send = send } ∷ takes_on q p (matched_from (left_after left e) (k + 1) log)) (takes_on q p (matched_from (left_after left e) (k + 1) log)))
      go true None f rest = (tt, rest)
      go true (Some t) f rest = (λ has. gone left e t are f (taken_left (left_after left e) (k + 1) log (left_then stream left e are) t has), rest)
      go false send f rest = rest

-- lines are on the lanes of their streams
pub sends_nothing : (left : ℕ → List ℕ) (e : Entry) → is_send e.kind ≡ true → send_for left e ≡ None
sends_nothing left e sends = go e.kind sends
  where
    go : (kind : Kind) → is_send kind ≡ true → cond (takes kind) (first_of (left e.stream)) None ≡ None
    go Send its = refl
    go Receive its = absurd (false≢true its)
    go Freed its = absurd (false≢true its)

module _ (stream from to : ℕ → ℕ) where
  fits_from : (left : ℕ → List ℕ) (k : ℕ) (log : List Entry) → AreLeft stream left → AreStreams stream k log → AreOfLanes from to log
      → Fits (λ n. from (stream n)) (λ n. to (stream n)) (matched_from left k log)
  unfolding matched_from
  fits_from left k [] are streams lanes = tt
  fits_from left k (e ∷ log) are streams lanes = (
    record {
      sender = here.0 ∙ ap from (sym streams.0);
      receiver = here.1 ∙ ap to (sym streams.0);
      no_send = sends_nothing left e;
      lane = λ s is.
          let own = are.own e.stream s (first_has (left e.stream) s (took left e s is).1) in
          (ap from own ∙ sym here.0, ap to own ∙ sym here.1);
    },
    fits_from (left_after left e) (k + 1) log (left_then stream left e are) streams.1 (All-tail (λ x. (sender_of x ≡ from x.stream) × (receiver_of x ≡ to x.stream)) e log lanes),
  )
    where
      here : (sender_of e ≡ from e.stream) × (receiver_of e ≡ to e.stream)
      here = All-head (λ x. (sender_of x ≡ from x.stream) × (receiver_of x ≡ to x.stream)) e log lanes

pub matched_fit : (from to : ℕ → ℕ) (log : List Entry) → AreOfLanes from to log → Fits (λ n. from (stream_at log n)) (λ n. to (stream_at log n)) (matched log)
matched_fit from to log lanes = fits_from (stream_at log) from to (sends_from 0 log) 0 log (all_left log) (streams_all log) lanes

-- a send of the lane is among its sends
module _ (from to : ℕ → ℕ) (q p s c : ℕ) (sender : from s ≡ q) (receiver : to s ≡ p) where
  send_on : (left : ℕ → List ℕ) (k : ℕ) (log : List Entry) → Fits from to (matched_from left k log) → Has (sends_from k log c) s → Has (sends_on q p (matched_from left k log)) s
  unfolding matched_from sends_from
  send_on left k [] fits has = absurd has
  send_on left k (e ∷ log) fits has = go (is_send e.kind) refl (e.stream == c) has (send_on (left_after left e) (k + 1) log fits.1)
    where
      more : (its : Bool) → Has (sends_on q p (matched_from (left_after left e) (k + 1) log)) s
          → Has (cond its (k ∷ sends_on q p (matched_from (left_after left e) (k + 1) log)) (sends_on q p (matched_from (left_after left e) (k + 1) log))) s
      more true there = inr there
      more false there = there

      go : (sends : Bool) → is_send e.kind ≡ sends → (its : Bool) → Has (cond (sends && its) (k ∷ sends_from (k + 1) log c) (sends_from (k + 1) log c)) s
          → (Has (sends_from (k + 1) log c) s → Has (sends_on q p (matched_from (left_after left e) (k + 1) log)) s)
          → Has (cond (is_send e.kind && (sender_of e == q && receiver_of e == p)) (k ∷ sends_on q p (matched_from (left_after left e) (k + 1) log)) (sends_on q p (matched_from (left_after left e) (k + 1) log))) s
      go true f true (inl same) rest =
          let on : (is_send e.kind && (sender_of e == q && receiver_of e == p)) ≡ true =
          ap₂ (λ a b. a && b) f (ap₂ (λ a b. a && b) (eq-eqb (sender_of e) q (fits.0.sender ∙ ap from same ∙ sender)) (eq-eqb (receiver_of e) p (fits.0.receiver ∙ ap to same ∙ receiver))) in
          rw on (inl same)
      go true f true (inr there) rest = more (is_send e.kind && (sender_of e == q && receiver_of e == p)) (rest there)
      go true f false there rest = more (is_send e.kind && (sender_of e == q && receiver_of e == p)) (rest there)
      go false f its there rest = more (is_send e.kind && (sender_of e == q && receiver_of e == p)) (rest there)

-- a send that a receive of the lane takes is of the lane
pub taken_lane : (from to : ℕ → ℕ) (q p : ℕ) (lines : List LogLine) → Fits from to lines → (s : ℕ) → Has (sends_of (takes_on q p lines)) s → (from s ≡ q) × (to s ≡ p)
taken_lane from to q p [] fits s has = absurd has
taken_lane from to q p (x ∷ lines) fits s has = go (is_send x.entry.kind) (is_on q p x) refl x.send refl has (taken_lane from to q p lines fits.1 s)
  where
    go : (sends its : Bool) → is_on q p x ≡ its → (send : Option ℕ) → x.send ≡ send
        → Has (sends_of (cond (not sends && its) (record { number = x.number; send = send } ∷ takes_on q p lines) (takes_on q p lines))) s
        → (Has (sends_of (takes_on q p lines)) s → (from s ≡ q) × (to s ≡ p)) → (from s ≡ q) × (to s ≡ p)
    go true its e send f there rest = rest there
    go false false e send f there rest = rest there
    go false true e None f there rest = rest there
    go false true e (Some t) f (inl same) rest =
        let ends = and_parts (sender_of x.entry == q) (receiver_of x.entry == p) e in
        let lane = fits.0.lane s (f ∙ ap (λ k. Some k) same) in
        (lane.0 ∙ eqb-true (sender_of x.entry) q ends.0, lane.1 ∙ eqb-true (receiver_of x.entry) p ends.1)
    go false true e (Some t) f (inr there) rest = rest there

pub taken_logged : (from to : ℕ → ℕ) (log : List Entry) → AreOfLanes from to log → (q p s : ℕ) → Has (sends_of (takes_on q p (matched log))) s → Has (sends_on q p (matched log)) s
taken_logged from to log lanes q p s has =
    let fits = matched_fit from to log lanes in
    let lane = taken_lane (λ n. from (stream_at log n)) (λ n. to (stream_at log n)) q p (matched log) fits s has in
    send_on (λ n. from (stream_at log n)) (λ n. to (stream_at log n)) q p s (stream_at log s) lane.0 lane.1 (sends_from 0 log) 0 log fits
    (taken_left (stream_at log) q p (sends_from 0 log) 0 log (all_left log) s has)

-- the lane's sends rise
sends_above_lines : (q p n : ℕ) (lines : List LogLine) → IsAbove n lines → IsBelow n (sends_on q p lines)
sends_above_lines q p n [] above = tt
sends_above_lines q p n (x ∷ lines) above = go (is_send x.entry.kind && is_on q p x) (sends_above_lines q p n lines above.1)
  where
    go : (its : Bool) → IsBelow n (sends_on q p lines) → IsBelow n (cond its (x.number ∷ sends_on q p lines) (sends_on q p lines))
    go true rest = (above.0, rest)
    go false rest = rest

pub lane_rises : (q p : ℕ) (lines : List LogLine) → Rises lines → IsRising (sends_on q p lines)
lane_rises q p [] rises = tt
lane_rises q p (x ∷ lines) rises = go (is_send x.entry.kind && is_on q p x) (lane_rises q p lines rises.1)
  where
    go : (its : Bool) → IsRising (sends_on q p lines) → IsRising (cond its (x.number ∷ sends_on q p lines) (sends_on q p lines))
    go true rest = (sends_above_lines q p x.number lines rises.0, rest)
    go false rest = rest

-- some of the lines
pub fits_some : (from to : ℕ → ℕ) (test : LogLine → Bool) (lines : List LogLine) → Fits from to lines → Fits from to (filter test lines)
fits_some from to test [] fits = tt
fits_some from to test (x ∷ lines) fits = go (test x) (fits_some from to test lines fits.1)
  where
    go : (its : Bool) → Fits from to (filter test lines) → Fits from to (cond its (x ∷ filter test lines) (filter test lines))
    go true rest = (fits.0, rest)
    go false rest = rest
