-- The turns of a legal history are those of a run of its chart.
use Rattle.std.proofs.Common.{◌≡◌, ℕ, zero, suc, ◌+◌, ◌<◌, ◌≤◌, ◌==◌, ◌⊎◌, inl, inr, Bool, true, false, cond, List, [], ◌∷◌, ◌++◌, length, take, map, Some, refl, sym, ap, ◌∙◌, subst, arith, append-nil, eq-eqb}
use Rattle.std.specs.Prelude.{slice_get, fold, option_map}
use Rattle.std.proofs.lemmas.List.{length_push, length-map}
use Rattle.std.proofs.lemmas.Option.{same_Some}
use Rattle.chart.specs.declared.event.Event.{Event}
use Rattle.chart.specs.declared.event.Event.TheVariants as events
use Rattle.chart.specs.declared.history.Occurrence.{Occurrence}
use Rattle.chart.specs.declared.history.Occurrence.TheVariants.{Send, Receive, Close}
use Rattle.chart.specs.Messages.{Content}
use Rattle.chart.specs.Charts.{Chart, Place, at, BelongsTo}
use Rattle.chart.specs.Events.{ith, tally, is_send_to, is_receive_from, send_event}
use Rattle.chart.specs.Histories.{by, waiting, receive_of, line_gets, chart_of, MayFollow, IsLegal}
use Rattle.chart.proofs.Belongs.{IsEvent-from_passes}
use Rattle.chart.proofs.Growing.{belongs_shrunk}
use Rattle.chart.proofs.Sends.{grows_by_event, received_with, sends_of}
use Rattle.chart.proofs.Steps.{line_of_other}
use Rattle.chart.proofs.Tally.{Passes, ith_at, ith_within, ith_from_append}
use Rattle.chart_layout.specs.KeptTurns.Runs.{times, IsRun}
use Rattle.diagram_laws.specs.Turns.{history_turns, HistoryTurnsLaw}

-- Turns, counted.

pub times_append : (p : ℕ) (xs ys : List ℕ) → times p (xs ++ ys) ≡ times p xs + times p ys
unfolding times
times_append p [] ys = omega arith
times_append p (x ∷ xs) ys = let rest = times_append p xs ys in omega arith

times_one : (p q : ℕ) → times p (q ∷ []) ≡ cond (q == p) 1 0
unfolding times
times_one p q = omega arith

turn_within : (turns : List ℕ) (i p : ℕ) → slice_get turns i ≡ Some p → times p (take i turns) + 1 ≤ times p turns
unfolding times
turn_within [] i p is = absurd (cc is)
turn_within (q ∷ turns) zero p is = let own = eq-eqb q p (same_Some q p is) in omega (arith, ap {B = ℕ} (λ b. cond b 1 0) own)
turn_within (q ∷ turns) (suc i) p is = omega (arith, turn_within turns i p is)

pushed : (turns : List ℕ) (a i p : ℕ) → slice_get (turns ++ a ∷ []) i ≡ Some p
    → ((slice_get turns i ≡ Some p) × (take i (turns ++ a ∷ []) ≡ take i turns)) ⊎ ((a ≡ p) × (take i (turns ++ a ∷ []) ≡ turns))
pushed [] a zero p is = inr (same_Some a p is, refl)
pushed [] a (suc i) p is = absurd (cc is)
pushed (t ∷ turns) a zero p is = inl (is, refl)
pushed (t ∷ turns) a (suc i) p is = elim (pushed turns a i p is) [
  | inl w ↦ inl (w.0, ap (λ l. t ∷ l) w.1)
  | inr w ↦ inr (w.0, ap (λ l. t ∷ l) w.1)
]

-- one for each event
pub history_times : (n k : ℕ) (h : List Occurrence) → IsLegal n k h → (p : ℕ) → times p (history_turns h) ≡ length (chart_of h p)
unfolding times history_turns
history_times n k [] legal p = refl
history_times n k (Send a b m ∷ h) legal p = times_append p (history_turns h) (a ∷ []) ∙ go (a == p) (history_times n k h legal.1 p)
  where
    go : (its : Bool) → times p (history_turns h) ≡ length (chart_of h p) → times p (history_turns h) + (cond its 1 0 + 0) ≡ length (chart_of h p ++ cond its (send_event b m.name ∷ []) [])
    go true rest = omega (arith, rest, length_push (chart_of h p) (send_event b m.name))
    go false rest = omega (arith, rest, ap length (append-nil (chart_of h p)))
history_times n k (Receive a b c ∷ h) legal p = times_append p (history_turns h) (a ∷ []) ∙ go (a == p) (waiting h b a) legal.0.1 (history_times n k h legal.1 p)
  where
    go : (its : Bool) (ms : List Content) → 0 < length ms → times p (history_turns h) ≡ length (chart_of h p) → times p (history_turns h) + (cond its 1 0 + 0) ≡ length (chart_of h p ++ cond its (receive_of ms b c) [])
    go its [] some rest = absurd (omega (arith, some))
    go true (m ∷ ms) some rest = omega (arith, rest, length_push (chart_of h p) (events.Receive b m.name c))
    go false (m ∷ ms) some rest = omega (arith, rest, ap length (append-nil (chart_of h p)))
history_times n k (Close a b ∷ h) legal p = history_times n k h legal.1 p ∙ ap length (sym (append-nil (chart_of h p)))

-- no receive before its send
abbrev Sent : List Occurrence → List ℕ → ℕ → Type 0
Sent h before p = (s : Place) → BelongsTo (chart_of h) s (at p (times p before + 1)) → s.index ≤ times s.instance before

older : (n k : ℕ) (e : Occurrence) (h : List Occurrence) → IsLegal n k (e ∷ h) → (i p : ℕ) → slice_get (history_turns h) i ≡ Some p → Sent h (take i (history_turns h)) p → Sent (e ∷ h) (take i (history_turns h)) p
older n k e h legal i p is before s b =
    before s (belongs_shrunk (chart_of h) (chart_of (e ∷ h)) (grows_by_event h e) (sends_of n k h legal.1) s (at p (times p (take i (history_turns h)) + 1))
    (omega arith, omega (arith, turn_within (history_turns h) i p is, history_times n k h legal.1 p)) b)

newest : (n k : ℕ) (e : Occurrence) (h : List Occurrence) → IsLegal n k (e ∷ h) → (p : ℕ) → by e ≡ p → Sent (e ∷ h) (history_turns h) p
newest n k e h legal p own s b =
    let many = history_times n k h legal.1 p in
    elim (ith_from_append (chart_of h p) (line_gets h p e) (times p (history_turns h) + 1) b.received.0 b.received.1) [
      | inl old ↦ absurd (omega (arith, many, (ith_within (chart_of h p) (times p (history_turns h) + 1) b.received.0 old).1))
      | inr new ↦
          let w = received_with h p s.instance e new.0 b.received.0 new.2 b.received.2 in
          let two = (subst (MayFollow n k h) w.3 legal.0).0 in
          let line = line_of_other h e s.instance (λ same. two.4 (sym own ∙ same)) in
          let there = IsEvent-from_passes (chart_of (e ∷ h)) (is_send_to p) s b.sent in
          omega (arith, there.1, ap length line, history_times n k h legal.1 s.instance)
    ]

one_more : (n k : ℕ) (e : Occurrence) (h : List Occurrence) → IsLegal n k (e ∷ h) → (a : ℕ) → by e ≡ a → ((i p : ℕ) → slice_get (history_turns h) i ≡ Some p → Sent h (take i (history_turns h)) p)
    → (i p : ℕ) → slice_get (history_turns h ++ a ∷ []) i ≡ Some p → Sent (e ∷ h) (take i (history_turns h ++ a ∷ [])) p
one_more n k e h legal a own rest i p is = elim (pushed (history_turns h) a i p is) [
  | inl w ↦ subst (λ l. Sent (e ∷ h) l p) (sym w.1) (older n k e h legal i p w.0 (rest i p w.0))
  | inr w ↦ subst (λ l. Sent (e ∷ h) l p) (sym w.1) (newest n k e h legal p (own ∙ w.0))
]

history_sent : (n k : ℕ) (h : List Occurrence) → IsLegal n k h → (i p : ℕ) → slice_get (history_turns h) i ≡ Some p → Sent h (take i (history_turns h)) p
unfolding history_turns
history_sent n k [] legal i p is = absurd (cc is)
history_sent n k (Send a b m ∷ h) legal i p is = one_more n k (Send a b m) h legal a refl (history_sent n k h legal.1) i p is
history_sent n k (Receive a b c ∷ h) legal i p is = one_more n k (Receive a b c) h legal a refl (history_sent n k h legal.1) i p is
history_sent n k (Close a b ∷ h) legal i p is = older n k (Close a b) h legal i p is (history_sent n k h legal.1 i p is)

pub history_run : HistoryTurnsLaw
history_run n k h legal = record { all = history_times n k h legal; after = λ i p s is b. history_sent n k h legal i p is s b }

-- The same for charts that differ in names and coregions alone.

-- the event without its name and its coregion
abbrev pub bare : Event → Event
bare (events.Send to name) = events.Send to []
bare (events.Receive from name region) = events.Receive from [] 0

abbrev pub AreAlike : Chart → Chart → Type 0
AreAlike c d = (p : ℕ) → map bare (c p) ≡ map bare (d p)

ith_bare : (xs : List Event) (i : ℕ) → ith (map bare xs) i ≡ option_map bare (ith xs i)
ith_bare xs zero = refl
ith_bare [] (suc i) = refl
ith_bare (x ∷ xs) (suc zero) = refl
ith_bare (x ∷ xs) (suc (suc i)) = ith_bare xs (suc i)

module _ (test : Event → Bool) (blind : (m : Event) → test (bare m) ≡ test m) where
  passes_bare : (xs : List Event) (i : ℕ) → Passes test xs i → Passes test (map bare xs) i
  passes_bare xs i (m, there, is) = (bare m, ith_bare xs i ∙ ap (option_map bare) there, blind m ∙ is)

  bare_passes : (xs : List Event) (i : ℕ) → Passes test (map bare xs) i → Passes test xs i
  bare_passes xs i (b, there, is) =
      let within = ith_within (map bare xs) i b there in
      let own = ith_at xs i within.0 (omega (arith, within.1, length-map xs bare)) in
      let same : bare own.0 ≡ b = same_Some (bare own.0) b (sym (ith_bare xs i ∙ ap (option_map bare) own.1) ∙ there) in
      (own.0, own.1, sym (blind own.0) ∙ ap test same ∙ is)

  tally_from : (acc : ℕ) (xs : List Event) (n : ℕ) → fold (λ a x. a + cond (test x) 1 0) acc (take n (map bare xs)) ≡ fold (λ a x. a + cond (test x) 1 0) acc (take n xs)
  tally_from acc xs zero = refl
  tally_from acc [] (suc n) = refl
  tally_from acc (x ∷ xs) (suc n) =
      ap (λ b. fold (λ a y. a + cond (test y) 1 0) (acc + cond b 1 0) (take n (map bare xs))) (blind x) ∙ tally_from (acc + cond (test x) 1 0) xs n

  passes_alike : (xs ys : List Event) → map bare xs ≡ map bare ys → (i : ℕ) → Passes test xs i → Passes test ys i
  passes_alike xs ys same i p = bare_passes ys i (subst (λ l. Passes test l i) same (passes_bare xs i p))

  tally_alike : (xs ys : List Event) → map bare xs ≡ map bare ys → (i : ℕ) → tally test xs i ≡ tally test ys i
  tally_alike xs ys same i = sym (tally_from 0 xs i) ∙ ap (λ l. tally test l i) same ∙ tally_from 0 ys i

blind_send : (q : ℕ) (m : Event) → is_send_to q (bare m) ≡ is_send_to q m
blind_send q (events.Send to name) = refl
blind_send q (events.Receive from name region) = refl

blind_receive : (q : ℕ) (m : Event) → is_receive_from q (bare m) ≡ is_receive_from q m
blind_receive q (events.Send to name) = refl
blind_receive q (events.Receive from name region) = refl

belongs_alike : (c d : Chart) → AreAlike c d → (s r : Place) → BelongsTo c s r → BelongsTo d s r
belongs_alike c d alike s r b = record {
  sent = passes_alike (is_send_to r.instance) (blind_send r.instance) (c s.instance) (d s.instance) (alike s.instance) s.index b.sent;
  received = passes_alike (is_receive_from s.instance) (blind_receive s.instance) (c r.instance) (d r.instance) (alike r.instance) r.index b.received;
  turn = sym (tally_alike (is_send_to r.instance) (blind_send r.instance) (c s.instance) (d s.instance) (alike s.instance) s.index) ∙ b.turn
      ∙ tally_alike (is_receive_from s.instance) (blind_receive s.instance) (c r.instance) (d r.instance) (alike r.instance) r.index;
}

pub run_alike : (c d : Chart) → AreAlike c d → (turns : List ℕ) → IsRun c turns → IsRun d turns
run_alike c d alike turns run = record {
  all = λ p. run.all p ∙ sym (length-map (c p) bare) ∙ ap length (alike p) ∙ length-map (d p) bare;
  after = λ i p s is b. run.after i p s is (belongs_alike d c (λ q. sym (alike q)) s (at p (times p (take i turns) + 1)) b);
}
