-- The last send that is finished before a receive, from the first of its races and what is kept for its line.
use Rattle.std.proofs.Common.{◌≡◌, ℕ, zero, suc, ◌-◌, ◌<◌, ◌≤◌, ◌⊎◌, inl, inr, false, max, List, [], ◌∷◌, length, map, get_or, All, Some, Contains, refl, sym, ap, ◌∙◌, subst, arith}
use Rattle.std.proofs.lemmas.Bool.{cases_lt, cases_eq, cases_Bool}
use Rattle.std.proofs.lemmas.List.Elements.{All-head}
use Rattle.chart.specs.declared.event.Event.{Event}
use Rattle.chart.specs.declared.instance.EventNo.{EventNo}
use Rattle.chart.specs.declared.ranges.EventRange.{EventRange}
use Rattle.chart.specs.Events.{ith, is_in, region_of}
use Rattle.chart.specs.Charts.{Chart, at, IsReceiveFrom}
use Rattle.chart.specs.Order.{Before, IsReport, region_of_event}
use Rattle.chart.specs.Order.Direct.{same_sender}
use Rattle.chart.specs.Order.Before.{direct}
use Rattle.chart.specs.Ranges.{IsRange, events_in}
use Rattle.chart.proofs.Tally.{ith_within}
use Rattle.chart.proofs.InRegions.{region_of-in, none_in}
use Rattle.chart.proofs.Reports.{before_in_line}
use Rattle.reordering.specs.Completion.Handling.{is_send, IsReceiveAt, IsSendAt, IsHandled}
use Rattle.reordering.specs.Completion.Orders.{IsFinished, IsFinishedUpTo}
use Rattle.reordering.specs.Completion.Tables.{IsFrom, IsSettled, IsLastSettled, IsAmong, IsAmongFrom, first_index}
use Rattle.reordering.proofs.CompletionLemmas.Deciding.{sorted}
use Rattle.reordering.proofs.CompletionLemmas.HandlingLemmas.{region_of_send, never_both, decide_at, decide_handled, in_one_region, none_between, later_handled}
use Rattle.reordering.proofs.CompletionLemmas.OrderLemmas.{decide_before}
use Rattle.reordering.proofs.CompletionLemmas.Possible.{IsSound}
use Rattle.reordering.proofs.CompletionLemmas.TableLemmas.{one_sender, receive_at}

-- the first event of ranges is that of the first range
pub first_of_ranges : (other : ℕ) (r : EventRange) (ranges : List EventRange) → All IsRange (r ∷ ranges) → first_index other (events_in (r ∷ ranges)) ≡ r.first.index
first_of_ranges other r ranges each = go r.count refl (All-head IsRange r ranges each).some
  where
    go : (n : ℕ) → r.count ≡ n → 0 < r.count → first_index other (events_in (r ∷ ranges)) ≡ r.first.index
    go zero is some = absurd (omega arith)
    go (suc n) is some = rw is refl

-- e is the first element of a list, or `other` if there is none
pub record IsFirstOf (other : ℕ) (xs : List ℕ) (e : ℕ) : Type 0 where
  pub least : (j : ℕ) → Contains xs j → e ≤ j
  pub one : (e ≡ other) ⊎ Contains xs e

pub first_is : (other : ℕ) (events : List EventNo) → ((i j d : ℕ) → i < j → j < length (map (λ (x : EventNo). x.index) events) → get_or (map (λ (x : EventNo). x.index) events) i d < get_or (map (λ (x : EventNo). x.index) events) j d)
    → IsFirstOf other (map (λ (x : EventNo). x.index) events) (first_index other events)
first_is other [] rising = record { least = λ j here. absurd (omega (arith, here.1)); one = inl refl }
first_is other (x ∷ xs) rising = record {
  least = λ j here. least j here;
  one = inr (0, omega arith, refl);
}
  where
    least : (j : ℕ) → Contains (map (λ (y : EventNo). y.index) (x ∷ xs)) j → x.index ≤ j
    least j (zero, within, same) = omega (arith, same)
    least j (suc k, within, same) = let l = rising 0 (suc k) j (omega arith) within in omega (arith, l, same)

module _ (c : Chart) (sound : IsSound c) (p k q : ℕ) (receive : IsReceiveFrom c q (at p (suc k))) where
  abbrev line : List Event
  line = c p

  abbrev i : ℕ
  i = suc k

  its : IsReceiveAt line i
  its = (q, receive.0, receive.1, receive.2)

  -- a send that handles only earlier receives is above
  stands_above : (s d : ℕ) → IsHandled line d s → ((e : ℕ) → IsHandled line e s → e < i) → s < i
  stands_above s d handled above = elim (cases_lt s i) [
    | inl less ↦ less
    | inr le ↦
        elim (cases_eq s i) [
          | inl same ↦ absurd (never_both line i its (subst (λ x. IsSendAt line x) same handled.sent))
          | inr differs ↦ let less = above d handled in let past = above i (later_handled line (sound.regions p) d i s handled its less (omega arith)) in absurd (omega arith)
        ]
  ]

  begun : (s d : ℕ) → IsHandled line d s → 1 ≤ d
  begun s d handled = let m = handled.received in (ith_within line d m.1 m.2).0

  -- a handled receive above the receive is outside of its coregion
  outside : (s d : ℕ) (m : Event) → IsHandled line d s → s < i → ith line d ≡ Some m → is_in (region_of_event (ith line i)) m ≡ false
  outside s d m handled less at_d = elim (cases_Bool (is_in (region_of_event (ith line i)) m)) [
    | inr out ↦ out
    | inl inside ↦
        let sent = handled.sent in
        let g = region_of_event (ith line i) in
        let mine : region_of m ≡ g = region_of-in g m inside in
        let same : region_of receive.0 ≡ region_of m = sym (ap region_of_event receive.1) ∙ sym mine in
        let more : 0 < region_of m = elim (cases_eq (region_of m) 0) [ inl none ↦ absurd (none_in g m none inside) | inr other ↦ omega arith ] in
        let region = in_one_region line (sound.regions p) d m at_d more i receive.0 receive.1 same s sent.0 handled.less less sent.1 in
        absurd (omega (arith, more, region, region_of_send sent.0 sent.2))
  ]

  module _ (report : List ℕ) (is : IsReport c (at p i) report) (n : ℕ) (first : IsFirstOf i report (suc n)) (low : suc n ≤ i) where
    -- a send that handles only receives before the first race is finished
    settled_above : (s : ℕ) → IsSettled (IsAmong n) line s → IsFinished c (at p s) (at p i)
    settled_above s settled =
        let d = settled.some.0 in
        let handled = settled.some.1 in
        let less = stands_above s d handled (λ e other. let le = settled.each e other in omega arith) in
        record {
          earlier = record { line = refl; begun = (let l = handled.less in omega arith); less = less };
          receive = (q, receive);
          handling = settled.some;
          before = λ e other.
              let w = sound.knows q (at p i) receive in
              let m = other.received in
              let le = settled.each e other in
              elim (decide_before c sound p i w.0 w.2.0 w.1 w.2.1 e (begun s e other) (omega arith)) [
                | inl before ↦ before
                | inr apart ↦
                    let there = (is.exact e).1 (omega arith, (m.1, m.2, outside s e m.1 other less m.2), apart) in
                    let past = first.least e there in
                    absurd (omega arith)
              ];
        }

    -- a send that handles only earlier receives from the sender is finished too
    settled_from : (s : ℕ) → IsSettled (IsAmongFrom line q k) line s → IsFinished c (at p s) (at p i)
    settled_from s settled =
        let d = settled.some.0 in
        let handled = settled.some.1 in
        record {
          earlier = record { line = refl; begun = (let l = handled.less in omega arith); less = stands_above s d handled (λ e other. let le = (settled.each e other).0 in omega arith) };
          receive = (q, receive);
          handling = settled.some;
          before = λ e other. let w = settled.each e other in direct (same_sender q (record { line = refl; begun = begun s e other; less = omega (arith, w.0) }) w.1 receive);
        }

    -- each finished send is one of these
    from_sender : (s h d : ℕ) → IsFinished c (at p s) (at p i) → IsHandled line h s → n < h → IsHandled line d s → IsAmongFrom line q k d
    from_sender s h d finished late above handled =
        let less = finished.earlier.less in
        let w = sound.knows q (at p i) receive in
        let splits = λ (x : ℕ) (b : 1 ≤ x) (l : x < i). before_in_line c w.0 p i x w.2.0 w.1 w.2.1 b l in
        let l = handled.less in
        elim ((splits d (begun s d handled) (omega arith)).0 (finished.before d handled)) [
          | inl from ↦ (omega arith, subst (λ x. IsFrom line x d) (one_sender line w.0.instance q i w.1.received receive) from)
          | inr le ↦ absurd (no_race le)
        ]
      where
        no_race : d ≤ (sound.knows q (at p i) receive).2.0 → ⊥
        no_race le = elim first.one [
          | inl last ↦ let l = late.less in let m = finished.earlier.less in omega arith
          | inr race ↦
              let v = (is.exact (suc n)).0 race in
              let w = sound.knows q (at p i) receive in
              let at_race = v.1 in
              let splits = before_in_line c w.0 p i (suc n) w.2.0 w.1 w.2.1 (omega arith) v.0 in
              let past : w.2.0 < suc n = elim (cases_lt w.2.0 (suc n)) [ inl x ↦ x | inr x ↦ absurd (v.2 (splits.1 (inr x))) ] in
              let l = late.less in
              elim (cases_eq (suc n) h) [
                | inl same ↦ v.2 (subst (λ x. Before c (at p x) (at p i)) (sym same) (finished.before h late))
                | inr differs ↦
                    elim (decide_at is_send line (suc n)) [
                      | inl sends ↦ none_between line (sound.regions p) d h s (suc n) handled late.received (omega arith) (omega arith) l sends
                      | inr other ↦
                          let inside = ith_within line (suc n) at_race.0 at_race.1 in
                          v.2 (finished.before (suc n) (later_handled line (sound.regions p) d (suc n) s handled (receive_at line (suc n) inside.0 inside.1 other) (omega arith) (omega arith)))
                    ]
              ]
        ]

    pub finished_up_to : (a b : ℕ) → IsLastSettled (IsAmong n) line a → IsLastSettled (IsAmongFrom line q k) line b → IsFinishedUpTo c (at p i) (max a b)
    finished_up_to a b within from = record {
      attained = elim (cases_lt a b) [
        | inl less ↦
            let e : b ≡ max a b = omega arith in
            elim from.attained [
              | inl none ↦ absurd (omega arith)
              | inr settled ↦ inr (subst (λ x. IsFinished c (at p x) (at p i)) e (settled_from b settled))
            ]
        | inr le ↦
            let e : a ≡ max a b = omega arith in
            elim within.attained [
              | inl none ↦ inl (omega arith)
              | inr settled ↦ inr (subst (λ x. IsFinished c (at p x) (at p i)) e (settled_above a settled))
            ]
      ];
      last = λ s finished. elim (sorted (λ d. IsHandled line d s) (λ d. d ≤ n) (λ d. n < d) (λ d. decide_handled line d s) (λ d handled. elim (cases_lt n d) [ inl past ↦ inr past | inr le ↦ inl le ]) s) [
        | inl all ↦ let le = within.last s (record { some = finished.handling; each = λ d handled. all d handled.less handled }) in omega arith
        | inr w ↦ let le = from.last s (record { some = finished.handling; each = λ d handled. from_sender s w.0 d finished w.1 w.2 handled }) in omega arith
      ];
    }

-- the first race is between the first event and the receive
pub first_begun : (c : Chart) (p i : ℕ) (report : List ℕ) (e : ℕ) → IsReport c (at p i) report → 1 ≤ i → IsFirstOf i report e → (1 ≤ e) × (e ≤ i)
first_begun c p i report e is some first = elim first.one [
  | inl same ↦ (omega arith, omega arith)
  | inr race ↦ let w = (is.exact e).0 race in let m = w.1 in ((ith_within (c p) e m.0 m.1).0, omega (arith, w.0))
]

-- the result of the look-up, from the line's number and the places that were read
pub finished_query : (c : Chart) → IsSound c → (p l i q : ℕ) → IsReceiveFrom c q (at p i) → p ≡ l → (report : List ℕ) → IsReport c (at p i) report → (e : ℕ) → IsFirstOf i report e
    → (a b m : ℕ) → IsLastSettled (IsAmong (e - 1)) (c l) a → IsLastSettled (IsAmongFrom (c l) q (i - 1)) (c l) b → m ≡ max a b → IsFinishedUpTo c (at p i) m
finished_query c sound p l zero q receive same report is e first a b m within from most = absurd (let w = (ith_within (c p) 0 receive.0 receive.1).0 in omega arith)
finished_query c sound p l (suc k) q receive same report is zero first a b m within from most = absurd (let w = (first_begun c p (suc k) report 0 is (omega arith) first).0 in omega arith)
finished_query c sound p l (suc k) q receive same report is (suc n) first a b m within from most =
    let low = (first_begun c p (suc k) report (suc n) is (omega arith) first).1 in
    let less_n : suc n - 1 ≡ n = omega arith in
    let less_k : suc k - 1 ≡ k = omega arith in
    let here = subst (λ x. IsLastSettled (IsAmong n) (c x) a) (sym same) (subst (λ x. IsLastSettled (IsAmong x) (c l) a) less_n within) in
    let there = subst (λ x. IsLastSettled (IsAmongFrom (c x) q k) (c x) b) (sym same) (subst (λ x. IsLastSettled (IsAmongFrom (c l) q x) (c l) b) less_k from) in
    subst (λ x. IsFinishedUpTo c (at p (suc k)) x) (sym most) (finished_up_to c sound p k q receive report is n first low a b here there)
