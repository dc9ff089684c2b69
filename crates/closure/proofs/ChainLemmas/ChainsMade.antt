-- The links that are made along the sends that were reached are a shortest chain.
use Rattle.std.proofs.Common.{◌≡◌, ℕ, ◌+◌, ◌*◌, ◌<◌, ◌≤◌, inl, inr, List, [], ◌∷◌, ◌++◌, length, None, Some, refl, sym, ap, ◌∙◌, subst, arith}
use Rattle.std.proofs.lemmas.Bool.{cases_eq}
use Rattle.std.proofs.lemmas.List.{length-append}
use Rattle.std.proofs.lemmas.Option.{slice_get_within, same_Some}
use Rattle.chart.specs.Charts.{Chart, Place, IsReceiveFrom, BelongsTo}
use Rattle.chart.specs.Order.{IsEarlier, Before}
use Rattle.chart.specs.declared.instance.EventNo.{EventNo}
use Rattle.closure.specs.Faults.{place_of}
use Rattle.closure.specs.Searches.{IsEarlierReceive}
use Rattle.closure.specs.declared.chain.link.Rule.TheVariants.{Message, BeforeSend, SameSender}
use Rattle.closure.specs.declared.chain.link.Link.{Link}
use Rattle.closure.specs.declared.chain.reaching.Reached.{Reached}
use Rattle.closure.specs.Chain.Chains.{Lead, IsShortestChain}
use Rattle.closure.specs.Chain.Reaching.{IsAt, IsTrail, AreAll, IsUnder, AreSteps, IsNearest, IsChainBy}
use Rattle.closure.proofs.ChainLemmas.ChainLemmas.{lead_more, before_from_lead, links_of}
use Rattle.closure.proofs.ChainLemmas.Leading.{known_in}

-- links that lead to a send: with the steps of the send's way they have k steps
abbrev pub LeadsBy : Chart → Place → Reached → List Link → ℕ → Type 0
LeadsBy c e y links k = Lead c e (place_of y.send) links × (length links + 2 * y.depth + 1 ≡ k)

-- an event that is a send or above it has a number of steps
pub some_steps : (x : Reached) (e : Place) → IsUnder x e → (k : ℕ) × AreSteps x e k
some_steps x e under =
    elim (cases_eq e.index x.send.index) [
      | inl same ↦ (2 * x.depth + 1, inl (same, refl))
      | inr differs ↦ (2 * x.depth + 2, inr ((let most = under.within in omega arith), refl))
    ]

-- a message, and a step to the send that was found before
pub leads_on : (c : Chart) (r e : Place) (found : List Reached) (i : ℕ) (x z : Reached) (links : List Link) (k : ℕ) → IsTrail c r found → 0 < i → IsAt found i x → IsAt found x.next z → LeadsBy c e x links k
    → (x.next < i) × LeadsBy c e z ((links ++ record { earlier = x.send; later = x.receive; rule = Message } ∷ []) ++ record { earlier = x.receive; later = z.send; rule = BeforeSend } ∷ []) k
leads_on c r e found i x z links k trail further here next leads =
    let way = trail.each i x here in
    elim way.onward [
      | inl w ↦ absurd (omega (arith, w.0))
      | inr w ↦
          let same : w.0 ≡ z = same_Some w.0 z (sym w.2 ∙ next) in
          let above = subst (λ (y : Reached). IsEarlier (place_of x.receive) (place_of y.send)) same w.3 in
          let depth : x.depth ≡ z.depth + 1 = w.4 ∙ ap (λ (y : Reached). y.depth + 1) same in
          let sends = (trail.each x.next z next).belongs.sent in
          let a : Link = record { earlier = x.send; later = x.receive; rule = Message } in
          let b : Link = record { earlier = x.receive; later = z.send; rule = BeforeSend } in
          let first = lead_more c e (place_of x.send) (place_of x.receive) links a leads.0 refl way.belongs refl in (
            w.1,
            (
              lead_more c e (place_of x.receive) (place_of z.send) (links ++ a ∷ []) b first refl (above, ((place_of z.receive).instance, sends)) refl,
              omega (arith, length-append (links ++ a ∷ []) (b ∷ []), length-append links (a ∷ []), leads.1, depth),
            ),
          )
    ]

-- the last message leads to r
pub leads_to_end : (c : Chart) (r e : Place) (found : List Reached) (x : Reached) (links : List Link) (k : ℕ) → IsTrail c r found → IsAt found 0 x → LeadsBy c e x links k
    → Lead c e r (links ++ record { earlier = x.send; later = x.receive; rule = Message } ∷ []) × (length (links ++ record { earlier = x.send; later = x.receive; rule = Message } ∷ []) ≡ k)
leads_to_end c r e found x links k trail here leads =
    let way = trail.each 0 x here in
    let a : Link = record { earlier = x.send; later = x.receive; rule = Message } in
    elim way.onward [
      | inr w ↦ absurd (omega (arith, w.1))
      | inl w ↦ (lead_more c e (place_of x.send) r links a leads.0 refl way.belongs w.1, omega (arith, length-append links (a ∷ []), leads.1, w.2))
    ]

-- two receives of a line from the same sender have a chain of one link
pub one_is_shortest : (c : Chart) (q : ℕ) (e r : EventNo) → IsEarlierReceive c q (place_of e) (place_of r) → IsReceiveFrom c q (place_of r)
    → Before c (place_of e) (place_of r) × IsShortestChain c (place_of e) (place_of r) (record { earlier = e; later = r; rule = SameSender } ∷ [])
one_is_shortest c q e r above received =
    let lead : Lead c (place_of e) (place_of r) (record { earlier = e; later = r; rule = SameSender } ∷ []) = (refl, (above.0, (q, above.1, received)), refl) in
    (before_from_lead c (place_of e) (place_of r) (record { earlier = e; later = r; rule = SameSender } ∷ []) lead (omega arith), record { lead = lead; some = omega arith; shortest = λ others leads some. some })

module _ (c : Chart) (r s e : Place) (found : List Reached) (all : AreAll c r found) (belongs : BelongsTo c s r) (other : IsEarlierReceive c s.instance e r → ⊥) where
  -- if e is above no send that was found, it isn't before r
  pub not_before : IsNearest found e (length found) None → Before c e r → ⊥
  not_before none before =
      let w = links_of before in
      elim (known_in c r s found all belongs w.0 e w.1 w.2) [
        | inl above ↦ other above.0
        | inr (i, x, k, here, under, steps, most) ↦ none i x (slice_get_within found i x here) here under
      ]

  -- the links by the send with the fewest steps are a shortest chain
  pub by_nearest_shortest : (number least : ℕ) (links : List Link) → IsNearest found e (length found) (Some (number, least)) → IsChainBy c r found number e links → Before c e r × IsShortestChain c e r links
  by_nearest_shortest number least links (x, here, under, steps, fewest) by =
      let many : length links ≡ least = by.steps x least here steps in
      let some : 1 ≤ length links = elim steps [ inl w ↦ omega (arith, w.1, many) | inr w ↦ omega (arith, w.1, many) ] in (
        before_from_lead c e r links by.lead some,
        record {
          lead = by.lead;
          some = some;
          shortest = λ others leads more. elim (known_in c r s found all belongs others e leads more) [
            | inl above ↦ absurd (other above.0)
            | inr (i, y, k, there, above, has, most) ↦ let low = fewest i y k (slice_get_within found i y there) there above has in omega (arith, low, most, many)
          ];
        },
      )
