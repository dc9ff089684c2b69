-- Receives of a line and the sends that handle them; the receives of a coregion are neighbours.
use Rattle.std.proofs.Common.{◌≡◌, ℕ, zero, suc, ◌<◌, ◌≤◌, inl, inr, Bool, true, List, [], ◌∷◌, take, Option, Some, None, refl, sym, ap, ◌∙◌, subst, arith}
use Rattle.std.proofs.lemmas.Bool.{cases_lt, cases_eq, cases_Bool, false≢true, eq-eqb, or_cases}
use Rattle.std.proofs.lemmas.Option.{none-some, same_Some}
use Rattle.chart.specs.declared.event.Event.{Event}
use Rattle.chart.specs.declared.event.Event.TheVariants.{Send, Receive}
use Rattle.chart.specs.Events.{ith, is_send_to, is_receive_from, is_in, region_of, greatest_region, last_region, HasRegionsInOrder}
use Rattle.chart.specs.Order.{region_of_event}
use Rattle.chart.proofs.Tally.{ith_within, ith_at, ith-take}
use Rattle.chart.proofs.InRegions.{region_of-in, none_in}
use Rattle.reordering.specs.Completion.Handling.{is_send, may_follow, IsReceiveAt, IsSendAt, IsHandled}
use Rattle.reordering.proofs.CompletionLemmas.Deciding.{Decided, each_or_one}

-- Sends and receives.

pub region_of_send : (m : Event) → is_send m ≡ true → region_of m ≡ 0
region_of_send (Send to name) sends = refl
region_of_send (Receive from name region) sends = absurd (false≢true sends)

pub no_send : (q : ℕ) (m : Event) → is_receive_from q m ≡ true → is_send m ≡ true → ⊥
no_send q (Send to name) receives sends = false≢true receives
no_send q (Receive from name region) receives sends = false≢true sends

pub to_whom : (m : Event) → is_send m ≡ true → (q : ℕ) × (is_send_to q m ≡ true)
to_whom (Send to name) sends = (to, eq-eqb to to refl)
to_whom (Receive from name region) sends = absurd (false≢true sends)

-- no place has a send and a receive
pub never_both : (line : List Event) (j : ℕ) → IsReceiveAt line j → IsSendAt line j → ⊥
never_both line j (q, m, at_j, from) (n, there, sends) = no_send q n (subst (λ x. is_receive_from q x ≡ true) (same_Some m n (sym at_j ∙ there)) from) sends

-- Tests of a place are decided.

pub decide_at : (test : Event → Bool) (line : List Event) (j : ℕ) → Decided ((m : Event) × (ith line j ≡ Some m) × (test m ≡ true))
decide_at test line j = go (ith line j) refl
  where
    go : (o : Option Event) → ith line j ≡ o → Decided ((m : Event) × (ith line j ≡ Some m) × (test m ≡ true))
    go None is = inr (λ w. none-some w.0 (sym is ∙ w.1))
    go (Some m) is = elim (cases_Bool (test m)) [
      | inl passes ↦ inl (m, is, passes)
      | inr fails ↦ inr (λ w. false≢true (sym fails ∙ subst (λ x. test x ≡ true) (same_Some w.0 m (sym w.1 ∙ is)) w.2))
    ]

pub decide_receive : (line : List Event) (j : ℕ) → Decided (IsReceiveAt line j)
decide_receive line j = go (ith line j) refl
  where
    go : (o : Option Event) → ith line j ≡ o → Decided (IsReceiveAt line j)
    go None is = inr (λ w. none-some w.1 (sym is ∙ w.2))
    go (Some (Receive from name region)) is = inl (from, Receive from name region, is, eq-eqb from from refl)
    go (Some (Send to name)) is = inr (λ w. never_both line j w (Send to name, is, refl))

decide_between : (line : List Event) (d s j : ℕ) → Decided ((m : Event) → d < j → j < s → ith line j ≡ Some m → may_follow (region_of_event (ith line d)) m ≡ true)
decide_between line d s j = elim (cases_lt d j) [
  | inr not_below ↦ inl (λ m low high at_j. absurd (omega arith))
  | inl low ↦
      elim (cases_lt j s) [
        | inr not_above ↦ inl (λ m low high at_j. absurd (omega arith))
        | inl high ↦ go low high (ith line j) refl
      ]
]
  where
    go : d < j → j < s → (o : Option Event) → ith line j ≡ o → Decided ((m : Event) → d < j → j < s → ith line j ≡ Some m → may_follow (region_of_event (ith line d)) m ≡ true)
    go low high None is = inl (λ m low high at_j. absurd (none-some m (sym is ∙ at_j)))
    go low high (Some n) is = elim (cases_Bool (may_follow (region_of_event (ith line d)) n)) [
      | inl passes ↦ inl (λ m low high at_j. subst (λ x. may_follow (region_of_event (ith line d)) x ≡ true) (same_Some n m (sym is ∙ at_j)) passes)
      | inr fails ↦ inr (λ all. false≢true (sym fails ∙ all n low high is))
    ]

-- whether a send handles a receive is decided
pub decide_handled : (line : List Event) (d s : ℕ) → Decided (IsHandled line d s)
decide_handled line d s = elim (cases_lt d s) [
  | inr past ↦ inr (λ h. let l = h.less in omega arith)
  | inl less ↦
      elim (decide_receive line d) [
        | inr none ↦ inr (λ h. none h.received)
        | inl received ↦
            elim (decide_at is_send line s) [
              | inr none ↦ inr (λ h. none h.sent)
              | inl sent ↦
                  elim (each_or_one (λ j. (m : Event) → d < j → j < s → ith line j ≡ Some m → may_follow (region_of_event (ith line d)) m ≡ true) (decide_between line d s) s) [
                    | inr w ↦ inr (λ h. w.1 (h.between w.0))
                    | inl all ↦ inl (record { less = less; received = received; sent = sent; between = λ j m low high at_j. all j high m low high at_j })
                  ]
            ]
      ]
]

-- Coregions.

region_small : (line : List Event) (i : ℕ) (m : Event) → ith line i ≡ Some m → region_of m ≤ greatest_region line
region_small line zero m at_i = absurd (none-some m at_i)
region_small [] (suc i) m at_i = absurd (none-some m at_i)
region_small (x ∷ line) (suc zero) m at_i = let same : x ≡ m = same_Some x m at_i in omega (arith, ap region_of same)
region_small (x ∷ line) (suc (suc i)) m at_i = let w = region_small line (suc i) m at_i in omega arith

last_region_at : (line : List Event) (n : ℕ) (m : Event) → ith line n ≡ Some m → last_region (take n line) ≡ region_of m
last_region_at line zero m at_n = absurd (none-some m at_n)
last_region_at [] (suc n) m at_n = absurd (none-some m at_n)
last_region_at (x ∷ line) (suc zero) m at_n = ap region_of (same_Some x m at_n)
last_region_at (x ∷ []) (suc (suc n)) m at_n = absurd (none-some m at_n)
last_region_at (x ∷ y ∷ line) (suc (suc n)) m at_n = last_region_at (y ∷ line) (suc n) m at_n

-- an event whose coregion has an earlier one comes directly after one of it
goes_on : (line : List Event) → HasRegionsInOrder line → (i k : ℕ) (a b : Event) → i ≤ k → ith line i ≡ Some a → ith line (suc k) ≡ Some b → region_of a ≡ region_of b → 0 < region_of b → (m : Event) × (ith line k ≡ Some m) × (region_of m ≡ region_of b)
goes_on line regions i k a b le at_i at_k same some = elim (regions k b at_k) [
  | inl none ↦ absurd (omega arith)
  | inr may ↦
      elim may [
        | inl next ↦ let small = region_small (take k line) i a (ith-take k line i le ∙ at_i) in absurd (omega arith)
        | inr same_one ↦
            let inside = ith_within line (suc k) b at_k in
            let begun = ith_within line i a at_i in
            let m = ith_at line k (omega arith) (omega arith) in
            (m.0, m.1, sym (last_region_at line k m.0 m.1) ∙ sym same_one.2)
      ]
]

-- events between two of one coregion are in it
pub in_one_region : (line : List Event) → HasRegionsInOrder line → (i : ℕ) (a : Event) → ith line i ≡ Some a → 0 < region_of a → (k : ℕ) (b : Event) → ith line k ≡ Some b → region_of b ≡ region_of a → (j : ℕ) (m : Event) → i < j → j < k → ith line j ≡ Some m → region_of m ≡ region_of a
in_one_region line regions i a at_i some zero b at_k same j m low high at_j = absurd (omega arith)
in_one_region line regions i a at_i some (suc k) b at_k same j m low high at_j =
    let w = goes_on line regions i k a b (omega arith) at_i at_k (sym same) (omega arith) in
    elim (cases_eq j k) [
      | inl e ↦ ap region_of (same_Some m w.0 (sym at_j ∙ ap (ith line) e ∙ w.1)) ∙ w.2 ∙ same
      | inr differs ↦ in_one_region line regions i a at_i some k w.0 w.1 (w.2 ∙ same) j m low (omega arith) at_j
    ]

-- A line whose coregions are in order.
module _ (line : List Event) (regions : HasRegionsInOrder line) where
  -- a receive between a handled one and the send is in its coregion
  pub same_region : (d e s : ℕ) (a b : Event) → IsHandled line d s → ith line d ≡ Some a → ith line e ≡ Some b → IsReceiveAt line e → d < e → e < s → (region_of b ≡ region_of a) × (0 < region_of a)
  same_region d e s a b handled at_d at_e received low high =
      elim (or_cases (is_send b) (is_in (region_of_event (ith line d)) b) (handled.between e b low high at_e)) [
        | inl sends ↦ absurd (never_both line e received (b, at_e, sends))
        | inr inside ↦
            let same : region_of b ≡ region_of a = region_of-in (region_of_event (ith line d)) b inside ∙ ap region_of_event at_d in
            (same, elim (cases_eq (region_of b) 0) [ inl none ↦ absurd (none_in (region_of_event (ith line d)) b none inside) | inr some ↦ omega arith ])
      ]

  -- no send is between two receives that are handled by the same send
  pub none_between : (d e s t : ℕ) → IsHandled line d s → IsReceiveAt line e → d < t → t < e → e < s → IsSendAt line t → ⊥
  none_between d e s t handled received low middle high sends =
      let a = handled.received in
      let b = received in
      let w = same_region d e s a.1 b.1 handled a.2 b.2 received (omega arith) high in
      let same = in_one_region line regions d a.1 a.2 w.1 e b.1 b.2 w.0 t sends.0 low middle sends.1 in
      omega (arith, w.1, same, region_of_send sends.0 sends.2)

  -- a receive between a handled one and the send is handled by it too
  pub later_handled : (d e s : ℕ) → IsHandled line d s → IsReceiveAt line e → d < e → e < s → IsHandled line e s
  later_handled d e s handled received low high =
      let a = handled.received in
      let b = received in
      let w = same_region d e s a.1 b.1 handled a.2 b.2 received low high in
      let same : region_of_event (ith line d) ≡ region_of_event (ith line e) = ap region_of_event a.2 ∙ sym w.0 ∙ sym (ap region_of_event b.2) in
      record {
        less = high;
        received = received;
        sent = handled.sent;
        between = λ j m above below at_j. subst (λ x. may_follow x m ≡ true) same (handled.between j m (omega arith) below at_j);
      }

-- an earlier send after the receive handles it too
pub handled_sooner : (line : List Event) (d s t : ℕ) → IsHandled line d s → IsSendAt line t → d < t → t ≤ s → IsHandled line d t
handled_sooner line d s t handled sends low high = record {
  less = low;
  received = handled.received;
  sent = sends;
  between = λ j m above below at_j. handled.between j m above (omega arith) at_j;
}
