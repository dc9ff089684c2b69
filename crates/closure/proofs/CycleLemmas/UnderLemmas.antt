-- A cycle of links contains a round, with at least two links for each message.
use Rattle.std.proofs.Common.{◌≡◌, ℕ, zero, suc, ◌+◌, ◌*◌, ◌<◌, ◌≤◌, ◌⊎◌, inl, inr, true, List, [], ◌∷◌, length, Option, None, Some, refl, sym, ◌∙◌, subst, arith, eq-eqb}
use Rattle.std.proofs.lemmas.Option.{same_Some, none-some}
use Rattle.std.proofs.lemmas.Bool.{false≢true}
use Rattle.chart.specs.declared.event.Event.{Event}
use Rattle.chart.specs.declared.event.Event.TheVariants.{Send, Receive}
use Rattle.chart.specs.Events.{is_send_to, is_receive_from}
use Rattle.chart.specs.Charts.{Chart, Place, at, chart_event, IsSendTo, BelongsTo}
use Rattle.chart.specs.Order.{IsEarlier, IsCyclic}
use Rattle.chart.proofs.Belongs.{IsEvent-from_passes, same_place, not_both}
use Rattle.closure.specs.Faults.{place_of}
use Rattle.closure.specs.Searches.{IsSend}
use Rattle.closure.specs.declared.chain.link.Rule.{Rule}
use Rattle.closure.specs.declared.chain.link.Rule.TheVariants.{Message, BeforeSend, SameSender}
use Rattle.closure.specs.declared.chain.link.Link.{Link}
use Rattle.closure.specs.Chain.Chains.{IsStepBy, Lead}
use Rattle.closure.proofs.ChainLemmas.ChainLemmas.{links_of}
use Rattle.closure.specs.Cycle.Cycles.{IsCycle}
use Rattle.closure.specs.Cycle.Rounds.{Leads, IsRound}
use Rattle.closure.proofs.CycleLemmas.LeadLemmas.{leads_later}

-- an event is a send, or it isn't
send_or_not : (c : Chart) (e : Place) → IsSend c e ⊎ (IsSend c e → ⊥)
send_or_not c e = go (chart_event c e) refl
  where
    go : (m : Option Event) → chart_event c e ≡ m → IsSend c e ⊎ (IsSend c e → ⊥)
    go None is = inr (λ s. none-some s.1.0 (sym is ∙ s.1.1))
    go (Some (Send to name)) is = inl (to, (Send to name, is, goes to))
      where
        goes : (q : ℕ) → is_send_to q (Send q name) ≡ true
        goes q = eq-eqb q q refl
    go (Some (Receive from name region)) is = inr (λ s. false≢true (subst (λ m. is_send_to s.0 m ≡ true) (same_Some s.1.0 (Receive from name region) (sym s.1.1 ∙ is)) s.1.2))

-- the event g from which the search goes back along links to the event f: f itself if it is a send, and otherwise the
-- place after it; x says which
abbrev IsRoot : Chart → Place → Place → ℕ → Type 0
IsRoot c f g x = (g.instance ≡ f.instance) × (g.index + x ≡ f.index + 1) × (((x ≡ 1) × IsSend c f) ⊎ ((x ≡ 0) × (IsSend c f → ⊥)))

has_root : (c : Chart) (f : Place) → (g : Place) × (x : ℕ) × IsRoot c f g x
has_root c f =
    elim (send_or_not c f) [
      | inl sends ↦ (f, 1, (refl, refl, inl (refl, sends)))
      | inr other ↦ (at f.instance (f.index + 1), 0, (refl, omega arith, inr (refl, other)))
    ]

-- if k links lead from e to f, messages lead on from a send of e's line that is e or later
record IsUnder (c : Chart) (f g : Place) (x : ℕ) (e : Place) (k : ℕ) : Type 0 where
  many : ℕ
  send : Place
  leads : Leads c g many send
  line : e.instance ≡ send.instance
  near : ((e.index ≡ send.index) × IsSend c send × (2 * many + x ≤ k + 1)) ⊎ ((e.index < send.index) × (2 * many + x ≤ k))
  fresh : many ≡ 0 → ((k ≡ 0) × (e.index ≡ f.index)) ⊎ (e.index < f.index)

module _ (c : Chart) (f g : Place) (x : ℕ) (root : IsRoot c f g x) where
  -- no link
  under_none : IsUnder c f g x f 0
  under_none = record {
    many = 0;
    send = g;
    leads = refl;
    line = sym root.0;
    near = elim root.2 [
      | inl sends ↦ inl (omega (arith, root.1, sends.0), subst (IsSend c) (same_place f g (sym root.0) (omega (arith, root.1, sends.0))) sends.1, omega (arith, sends.0))
      | inr other ↦ inr (omega (arith, root.1, other.0), omega (arith, other.0))
    ];
    fresh = λ none. inl (refl, refl);
  }

  -- a link along the line
  under_earlier : (e d : Place) (k : ℕ) → IsEarlier e d → IsUnder c f g x d k → IsUnder c f g x e (suc k)
  under_earlier e d k above u = record {
    many = u.many;
    send = u.send;
    leads = u.leads;
    line = above.line ∙ u.line;
    near = elim u.near [
      | inl w ↦ inr (omega (arith, above.less, w.0), omega (arith, w.2))
      | inr w ↦ inr (omega (arith, above.less, w.0), omega (arith, w.1))
    ];
    fresh = λ none. elim (u.fresh none) [
      | inl w ↦ inr (omega (arith, above.less, w.1))
      | inr w ↦ inr (omega (arith, above.less, w))
    ];
  }

  -- a message
  under_message : (e d : Place) (k : ℕ) → BelongsTo c e d → IsUnder c f g x d k → IsUnder c f g x e (suc k)
  under_message e d k belongs u =
      elim u.near [
        | inl w ↦
            let same = same_place d u.send u.line w.0 in
            absurd (not_both c w.1.0 e.instance d (subst (IsSendTo c w.1.0) (sym same) w.1.1) belongs.received)
        | inr w ↦
            let event = IsEvent-from_passes c (is_receive_from e.instance) d belongs.received in
            record {
              many = suc u.many;
              send = e;
              leads = (u.send, u.leads, (d, belongs, record { line = u.line; begun = event.0; less = w.0 }));
              line = refl;
              near = inl (refl, (d.instance, belongs.sent), omega (arith, w.1));
              fresh = λ none. absurd (omega (arith, none));
            }
      ]

  under_step : (rule : Rule) (e d : Place) (k : ℕ) → IsStepBy c rule e d → IsUnder c f g x d k → IsUnder c f g x e (suc k)
  under_step Message e d k belongs u = under_message e d k belongs u
  under_step BeforeSend e d k (above, sends) u = under_earlier e d k above u
  under_step SameSender e d k (above, received) u = under_earlier e d k above u

  -- all links
  under_links : (e : Place) (links : List Link) → Lead c e f links → IsUnder c f g x e (length links)
  under_links e [] same = subst (λ y. IsUnder c f g x y 0) (sym same) under_none
  under_links e (link ∷ links) (is, step, rest) =
      subst (λ y. IsUnder c f g x y (suc (length links))) is (under_step link.rule (place_of link.earlier) (place_of link.later) (length links) step (under_links (place_of link.later) links rest))

  -- around to the event itself
  under_itself : (k : ℕ) → 1 ≤ k → IsUnder c f g x f k → (many : ℕ) × (s : Place) × IsRound c many s × (2 * many ≤ k)
  under_itself k some u = go u.many u.leads u.near u.fresh
    where
      go : (many : ℕ) → Leads c g many u.send → ((f.index ≡ u.send.index) × IsSend c u.send × (2 * many + x ≤ k + 1)) ⊎ ((f.index < u.send.index) × (2 * many + x ≤ k)) → (many ≡ 0 → ((k ≡ 0) × (f.index ≡ f.index)) ⊎ (f.index < f.index)) → (few : ℕ) × (s : Place) × IsRound c few s × (2 * few ≤ k)
      go zero leads near fresh = elim (fresh refl) [ inl w ↦ absurd (omega (arith, w.0)) | inr w ↦ absurd (omega (arith, w)) ]
      go (suc many) leads near fresh =
          elim near [
            | inl w ↦
                elim root.2 [
                  | inl sends ↦ (suc many, u.send, (omega arith, leads_later c g u.send u.send many (root.0 ∙ u.line) (omega (arith, root.1, sends.0, w.0)) leads), omega (arith, sends.0, w.2))
                  | inr other ↦ absurd (other.1 (subst (IsSend c) (sym (same_place f u.send u.line w.0)) w.1))
                ]
            | inr w ↦
                (suc many, u.send, (omega arith, leads_later c g u.send u.send many (root.0 ∙ u.line) (omega (arith, root.1, w.0)) leads), omega (arith, w.1))
          ]

-- a cycle of links has a round with at most half as many messages
pub round_in : (c : Chart) (links : List Link) → IsCycle c links → (many : ℕ) × (s : Place) × IsRound c many s × (2 * many ≤ length links)
round_in c links cycle =
    let f = cycle.lead.0 in
    let root = has_root c f in
    under_itself c f root.0 root.1 root.2 (length links) cycle.some (under_links c f root.0 root.1 root.2 f links cycle.lead.1)

-- if some event is before itself, messages lead around
pub round_from_cyclic : (c : Chart) → IsCyclic c → (many : ℕ) × (s : Place) × IsRound c many s
round_from_cyclic c (e, before) =
    let w = links_of before in
    let found = round_in c w.0 (record { lead = (e, w.1); some = w.2 }) in
    (found.0, found.1, found.2)
