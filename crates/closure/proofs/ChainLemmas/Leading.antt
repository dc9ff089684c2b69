-- The event from which any links lead to a receive was reached with no more steps than links.
use Rattle.std.proofs.Common.{◌≡◌, ℕ, suc, ◌+◌, ◌*◌, ◌<◌, ◌≤◌, ◌⊎◌, inl, inr, List, [], ◌∷◌, length, refl, sym, ap, ◌∙◌, subst, arith, add-one}
use Rattle.chart.specs.Events.{is_send_to}
use Rattle.chart.specs.Charts.{Chart, Place, IsSendTo, IsReceiveFrom, BelongsTo}
use Rattle.chart.specs.Order.{IsEarlier}
use Rattle.chart.proofs.Belongs.{IsEvent-from_passes, IsEarlier-trans, same_place, not_both, one_sender, same_send, earlier_send}
use Rattle.closure.specs.Faults.{place_of}
use Rattle.closure.specs.Searches.{IsEarlierReceive}
use Rattle.closure.specs.declared.chain.link.Rule.{Rule}
use Rattle.closure.specs.declared.chain.link.Rule.TheVariants.{Message, BeforeSend, SameSender}
use Rattle.closure.specs.declared.chain.link.Link.{Link}
use Rattle.closure.specs.declared.chain.reaching.Reached.{Reached}
use Rattle.closure.specs.Chain.Chains.{IsStepBy, Lead}
use Rattle.closure.specs.Chain.Reaching.{IsAt, AreAll, IsUnder, AreSteps}

-- e was reached by at most m steps
abbrev pub IsReachedIn : List Reached → Place → ℕ → Type 0
IsReachedIn found e m = (i : ℕ) × (x : Reached) × (k : ℕ) × IsAt found i x × IsUnder x e × AreSteps x e k × (k ≤ m)

module _ (c : Chart) (r : Place) (s : Place) (found : List Reached) (all : AreAll c r found) (belongs : BelongsTo c s r) where
  -- e is a receive above r from its sender, or it was reached
  abbrev IsKnownIn : Place → ℕ → Type 0
  IsKnownIn e m = (IsEarlierReceive c s.instance e r × (1 ≤ m)) ⊎ IsReachedIn found e m

  -- the first send that was found is the send of r
  first_send : (x : Reached) → IsAt found 0 x → (place_of x.send ≡ s) × (x.depth ≡ 0)
  first_send x here =
      let way = all.trail.each 0 x here in
      elim way.onward [
        | inl w ↦ (same_send c (place_of x.send) s r (subst (BelongsTo c (place_of x.send)) w.1 way.belongs) belongs, w.2)
        | inr w ↦ absurd (omega (arith, w.1))
      ]

  -- an event earlier than a send that was reached is under it
  under_send : (x : Reached) (e t : Place) → place_of x.send ≡ t → IsEarlier e t → IsUnder x e × (e.index < x.send.index)
  under_send x e t is earlier = (
    record { line = earlier.line ∙ sym (ap (λ (p : Place). p.instance) is); begun = earlier.begun; within = let i = ap (λ (p : Place). p.index) is in omega (arith, earlier.less, i) },
    (let i = ap (λ (p : Place). p.index) is in omega (arith, earlier.less, i)),
  )

  -- the send itself is under itself
  under_itself : (x : Reached) (t : Place) (q : ℕ) → place_of x.send ≡ t → IsSendTo c q t → IsUnder x t × (t.index ≡ x.send.index)
  under_itself x t q is sends =
      let event = IsEvent-from_passes c (is_send_to q) t sends in
      let i = ap (λ (p : Place). p.index) is in (
        record { line = sym (ap (λ (p : Place). p.instance) is); begun = event.0; within = omega (arith, i) },
        sym i,
      )

  -- a step to r itself
  to_r : (rule : Rule) (e : Place) (m : ℕ) → IsStepBy c rule e r → IsKnownIn e (m + 1)
  to_r Message e m step =
      let x = all.trail.first in
      let is = first_send x.0 x.1 in
      let same = same_send c e s r step belongs in
      let under = under_itself x.0 e r.instance (is.0 ∙ sym same) step.sent in
      inr (0, x.0, 1, x.1, under.0, inl (under.1, omega (arith, is.1)), omega arith)
  to_r BeforeSend e m (earlier, (q, sends)) = absurd (not_both c q s.instance r sends belongs.received)
  to_r SameSender e m (earlier, (q, from, to)) = inl ((earlier, subst (λ a. IsReceiveFrom c a e) (one_sender c q s.instance r to belongs.received) from), omega arith)

  -- a step to a receive above it from its sender
  to_above : (rule : Rule) (e d : Place) (m : ℕ) → IsEarlierReceive c s.instance d r → 1 ≤ m → IsStepBy c rule e d → IsKnownIn e (m + 1)
  to_above Message e d m above some step =
      let x = all.trail.first in
      let is = first_send x.0 x.1 in
      let t = earlier_send c s r d belongs above.0 above.1 in
      let same : e ≡ t.0 = same_send c e t.0 d step t.1 in
      let under = under_send x.0 e s is.0 (subst (λ y. IsEarlier y s) (sym same) t.2) in
      inr (0, x.0, 2, x.1, under.0, inr (under.1, omega (arith, is.1)), omega arith)
  to_above BeforeSend e d m above some (earlier, (q, sends)) = absurd (not_both c q s.instance d sends above.1)
  to_above SameSender e d m above some (earlier, (q, from, to)) =
      inl ((IsEarlier-trans e d r earlier above.0, subst (λ a. IsReceiveFrom c a e) (one_sender c q s.instance d to above.1) from), omega arith)

  -- an event above one that was reached
  above_reached : (e d : Place) (m : ℕ) → IsReachedIn found d m → IsEarlier e d → IsKnownIn e (m + 1)
  above_reached e d m (i, x, k, here, under, steps, most) earlier =
      let less : e.index < x.send.index = let a = under.within in let b = earlier.less in omega arith in
      let few : 2 * x.depth + 1 ≤ k = elim steps [ inl w ↦ omega (arith, w.1) | inr w ↦ omega (arith, w.1) ] in
      inr (i, x, 2 * x.depth + 2, here, record { line = earlier.line ∙ under.line; begun = earlier.begun; within = omega arith }, inr (less, refl), omega arith)

  -- a step to an event that was reached
  to_reached : (rule : Rule) (e d : Place) (m : ℕ) → IsReachedIn found d m → IsStepBy c rule e d → IsKnownIn e (m + 1)
  to_reached Message e d m (i, x, k, here, under, steps, most) step =
      let way = all.trail.each i x here in
      elim steps [
        | inl w ↦
            let same : place_of x.send ≡ d = same_place (place_of x.send) d (sym under.line) (sym w.0) in
            absurd (not_both c (place_of x.receive).instance e.instance d (subst (IsSendTo c (place_of x.receive).instance) same way.belongs.sent) step.received)
        | inr w ↦
            let f = all.followed i x here d e step (record { line = under.line; begun = under.begun; less = w.0 }) in
            let mine = under_itself f.1 e d.instance f.3 step.sent in
            inr (f.0, f.1, 2 * f.1.depth + 1, f.2, mine.0, inl (mine.1, refl), omega (arith, f.4, w.1, most))
      ]
  to_reached BeforeSend e d m reached (earlier, sends) = above_reached e d m reached earlier
  to_reached SameSender e d m reached (earlier, both) = above_reached e d m reached earlier

  -- any event from which links lead to r
  pub known_in : (links : List Link) (e : Place) → Lead c e r links → 1 ≤ length links → IsKnownIn e (length links)
  known_in [] e same some = absurd (omega arith)
  known_in (link ∷ []) e (is, step, same) some =
      subst (λ x. IsKnownIn x 1) is (to_r link.rule (place_of link.earlier) 0 (subst (IsStepBy c link.rule (place_of link.earlier)) same step))
  known_in (link ∷ next ∷ links) e (is, step, rest) some =
      let m = length (next ∷ links) in
      let known = known_in (next ∷ links) (place_of link.later) rest (omega arith) in
      subst (λ x. IsKnownIn x (suc m)) is
      (subst (IsKnownIn (place_of link.earlier)) (add-one m)
      (elim known [
        | inl above ↦ to_above link.rule (place_of link.earlier) (place_of link.later) m above.0 above.1 step
        | inr reached ↦ to_reached link.rule (place_of link.earlier) (place_of link.later) m reached step
      ]))
