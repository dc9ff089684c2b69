-- The events of a line that a send knows are the first ones of this line.
use Rattle.std.proofs.Common.{◌≡◌, ℕ, ◌+◌, ◌≤◌, ◌↔◌, ◌⊎◌, inl, inr, max, length, refl, sym, ap, subst, arith}
use Rattle.std.proofs.lemmas.Bool.{cases_lt, cases_eq}
use Rattle.chart.specs.Events.{is_send_to, is_receive_from}
use Rattle.chart.specs.Charts.{Chart, Place, at, IsSendTo, IsReceiveFrom, BelongsTo}
use Rattle.chart.specs.Order.{IsCyclic}
use Rattle.chart.specs.Order.Direct.{to_send}
use Rattle.chart.specs.Order.Before.{direct, through}
use Rattle.chart.specs.Knowing.{IsUpTo, IsKnown, IsGreatestHeard}
use Rattle.chart.specs.Places.{IsEvent}
use Rattle.chart.proofs.Belongs.{IsEvent-from_passes, not_both, same_send}
use Rattle.chart.proofs.Chains.{chain_of, before_events, before_from_above, before_its_receive, heard_from}
use Rattle.chart.proofs.Counts.{IsFront, count-le, front_from_count, count_from_front}

-- a place that is s or before it has an event
pub up_to_event : (c : Chart) (s e : Place) → IsEvent c s → IsUpTo c s e → IsEvent c e
up_to_event c s e is_event (inl same) = subst (λ x. IsEvent c x) (sym same) is_event
up_to_event c s e is_event (inr before) = (before_events before).0

-- a send knows an event of a line exactly if the event's number is at most the known number
pub known_front : (c : Chart) (q : ℕ) (s : Place) (p k : ℕ) → IsSendTo c q s → IsKnown c s p k → (j : ℕ) → 1 ≤ j → IsUpTo c s (at p j) ↔ (j ≤ k)
known_front c q s p k sends known j low =
    let front : IsFront (λ i. IsUpTo c s (at p i)) (length (c p)) k = front_from_count (λ h i first less here. inr (before_from_above c q s (at p h) (at p i) sends (record { line = refl; begun = first; less = less }) here)) known in
    let bound = count-le known in
    (λ here. (front j low (up_to_event c s (at p j) (IsEvent-from_passes c (is_send_to q) s sends) here).1).0 here, λ le. (front j low (omega arith)).1 le)

-- a send knows the events of its line up to itself
up_to_itself : (c : Chart) (a p i j : ℕ) → IsSendTo c a (at p i) → 1 ≤ j → j ≤ i → IsUpTo c (at p i) (at p j)
up_to_itself c a p i j sends low high =
    elim (cases_eq j i) [
      | inl same ↦ inl (ap (λ x. at p x) same)
      | inr differs ↦ inr (direct (to_send a (record { line = refl; begun = low; less = omega arith }) sends))
    ]

-- a send that is the last of its line, or in a chart without cycles, knows of its line exactly the events up to itself
pub known_own : (c : Chart) (a p i : ℕ) → IsSendTo c a (at p i) → (length (c p) ≡ i) ⊎ (IsCyclic c → ⊥) → IsKnown c (at p i) p i
known_own c a p i sends h =
    let within : IsEvent c (at p i) = IsEvent-from_passes c (is_send_to a) (at p i) sends in
    count_from_front (λ j. IsUpTo c (at p i) (at p j)) (length (c p)) i within.1
    (λ j low high. (
      λ here. elim h [
        | inl last ↦ omega arith
        | inr acyclic ↦
            elim (cases_lt i j) [
              | inl above ↦ absurd (acyclic (at p i, before_from_above c a (at p i) (at p i) (at p j) sends (record { line = refl; begun = within.0; less = above }) here))
              | inr le ↦ le
            ]
      ],
      λ le. up_to_itself c a p i j sends low le,
    ))

-- of another line a send knows the greatest heard
pub known_other : (c : Chart) (a p i q k : ℕ) → IsSendTo c a (at p (i + 1)) → (q ≡ p → ⊥) → IsGreatestHeard c p i q k → IsKnown c (at p (i + 1)) q k
known_other c a p i q k sends other heard =
    count_from_front (λ j. IsUpTo c (at p (i + 1)) (at q j)) (length (c q)) k
    (elim heard.attained [ inl none ↦ omega arith | inr w ↦ count-le w.4 ])
    (λ j low high. (λ here. was_heard j low here, λ le. is_known j low le))
  where
    was_heard : (j : ℕ) → 1 ≤ j → IsUpTo c (at p (i + 1)) (at q j) → j ≤ k
    was_heard j low (inl same) = absurd (other (ap (λ x. x.instance) same))
    was_heard j low (inr before) =
        let w = heard_from (chain_of before) other in
        let differs : w.0 ≡ i + 1 → ⊥ = λ e. not_both c a w.1.instance (at p (i + 1)) sends (subst (λ x. IsReceiveFrom c w.1.instance (at p x)) e w.3.received) in
        let g = heard.each w.0 w.1 (omega (arith, w.2, differs)) w.3 in
        let le = (known_front c p w.1 q g.0 w.3.sent g.1 j low).0 w.4 in
        omega (arith, le, g.2)

    is_known : (j : ℕ) → 1 ≤ j → j ≤ k → IsUpTo c (at p (i + 1)) (at q j)
    is_known j low le =
        elim heard.attained [
          | inl none ↦ absurd (omega arith)
          | inr w ↦
              let known = (known_front c p w.1 q k w.3.sent w.4 j low).1 le in
              let begun = (IsEvent-from_passes c (is_receive_from w.1.instance) (at p w.0) w.3.received).0 in
              inr (through (before_its_receive c (at q j) w.1 (at p w.0) known w.3) (direct (to_send a (record { line = refl; begun = begun; less = omega (arith, w.2) }) sends)))
        ]

-- before the first event nothing is heard
pub heard_at_first : (c : Chart) (p q : ℕ) → IsGreatestHeard c p 0 q 0
heard_at_first c p q = record {
  each = λ l s le b. let begun = (IsEvent-from_passes c (is_receive_from s.instance) (at p l) b.received).0 in absurd (omega arith);
  attained = inl refl;
}

-- a receive hears what its send knows
pub heard_from_send : (c : Chart) (s : Place) (p n q k m : ℕ) → IsGreatestHeard c p n q k → BelongsTo c s (at p (n + 1)) → IsKnown c s q m → IsGreatestHeard c p (n + 1) q (max k m)
heard_from_send c s p n q k m heard b known = record {
  each = λ l t le d. elim (cases_eq l (n + 1)) [
    | inl last ↦
        let same = same_send c t s (at p (n + 1)) (subst (λ x. BelongsTo c t (at p x)) last d) b in
        (m, subst (λ x. IsKnown c x q m) (sym same) known, omega arith)
    | inr differs ↦ let g = heard.each l t (omega arith) d in (g.0, g.1, omega (arith, g.2))
  ];
  attained = elim (cases_lt k m) [
    | inl more ↦ let e : m ≡ max k m = omega arith in inr (n + 1, s, omega arith, b, subst (λ x. IsKnown c s q x) e known)
    | inr no_more ↦
        let e : k ≡ max k m = omega arith in
        elim heard.attained [
          | inl none ↦ inl (omega arith)
          | inr w ↦ inr (w.0, w.1, omega (arith, w.2), w.3, subst (λ x. IsKnown c w.1 q x) e w.4)
        ]
  ];
}

-- a send hears nothing
pub heard_at_send : (c : Chart) (a p n q k : ℕ) → IsGreatestHeard c p n q k → IsSendTo c a (at p (n + 1)) → IsGreatestHeard c p (n + 1) q k
heard_at_send c a p n q k heard sends = record {
  each = λ l t le d. elim (cases_eq l (n + 1)) [
    | inl last ↦ absurd (not_both c a t.instance (at p (n + 1)) sends (subst (λ x. IsReceiveFrom c t.instance (at p x)) last d.received))
    | inr differs ↦ heard.each l t (omega arith) d
  ];
  attained = elim heard.attained [ inl none ↦ inl none | inr w ↦ inr (w.0, w.1, omega (arith, w.2), w.3, w.4) ];
}
