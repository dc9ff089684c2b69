use Rattle.std.proofs.Common.{◌≡◌, ℕ, ◌<◌, inl, inr, List, [], ◌∷◌, ◌++◌, length, Some, sym, ap, ◌∙◌, subst, arith}
use Rattle.std.specs.Prelude.{slice_get}
use Rattle.std.proofs.lemmas.Option.{slice_get_within, same_Some}
use Rattle.closure.specs.Faults.{place_of}
use Rattle.closure.specs.declared.chain.link.Link.{Link}
use Rattle.closure.specs.declared.chain.link.Rule.TheVariants.{Message, BeforeSend}
use Rattle.closure.specs.declared.chain.reaching.Reached.{Reached}
use Rattle.closure.specs.Chain.Chains.{Lead}
use Rattle.closure.specs.Chain.Reaching.{AreSteps}
use Rattle.closure.proofs.ChainLemmas.ChainsMade.{LeadsBy, some_steps, leads_on, leads_to_end}
use Rattle.closure.proofs.chain.chaining.links_by.Goals as goal

pub loop-at-init : goal.loop-at-init
loop-at-init c = (
  slice_get_within c.args.found.now c.args.number c.requires.under.0 c.requires.under.1,
  λ d r x y k trail at_x steps at_y.
      let z = c.reached_at.result in
      let first : x ≡ z = same_Some x z (sym at_x ∙ c.reached_at.ensures) in
      let second : z ≡ y = same_Some z y (sym c.reached_at.ensures ∙ at_y) in
      let sends = (trail.each c.args.number z c.reached_at.ensures).belongs.sent in
      let led = c.in_ok-links.ensures d (place_of z.receive).instance k sends (subst (λ (w : Reached). AreSteps w (place_of c.args.event.now) k) first steps) in
      subst (λ (w : Reached). LeadsBy d (place_of c.args.event.now) w c.in_ok-links.links.items k) second led,
)

pub reached_at-next-requires : goal.reached_at-next-requires
reached_at-next-requires c =
    let way = c.requires.trail.2.each c.loop-at.at c.reached_at-reached.result c.reached_at-reached.ensures in
    let less : c.reached_at-reached.result.next < c.loop-at.at = elim way.onward [ inl w ↦ absurd (omega (arith, w.0, c.loop-at-test.true)) | inr w ↦ w.1 ] in
    omega (arith, c.loop-at.invariant.0, less)

pub loop-at-smaller : goal.loop-at-smaller
loop-at-smaller c =
    let way = c.requires.trail.2.each c.loop-at.at c.reached_at-reached.result c.reached_at-reached.ensures in
    elim way.onward [ inl w ↦ absurd (omega (arith, w.0, c.loop-at-test.true)) | inr w ↦ w.1 ]

pub loop-at-preserved : goal.loop-at-preserved
loop-at-preserved c = (
  slice_get_within c.args.found.now c.reached_at-reached.result.next c.reached_at-next.result c.reached_at-next.ensures,
  λ d r x y k trail at_x steps at_y.
      let e = place_of c.args.event.now in
      let w = c.reached_at-reached.result in
      let z = c.reached_at-next.result in
      let a : Link = record { earlier = w.send; later = w.receive; rule = Message } in
      let b : Link = record { earlier = w.receive; later = z.send; rule = BeforeSend } in
      let same : z ≡ y = same_Some z y (sym c.reached_at-next.ensures ∙ at_y) in
      let led = c.loop-at.invariant.1 d r x w k trail at_x steps c.reached_at-reached.ensures in
      let on = leads_on d r e c.args.found.now c.loop-at.at w z c.loop-at.links.items k trail c.loop-at-test.true c.reached_at-reached.ensures c.reached_at-next.ensures led in
      let grown = c.in_ok-push-2.ensures.items ∙ ap (λ (l : List Link). l ++ b ∷ []) c.in_ok-push.ensures.items in
      subst (λ (v : Reached). LeadsBy d e v c.push-in-loop-at.new.self.items k) same (subst (λ (l : List Link). LeadsBy d e z l k) (sym grown) on.1),
)

pub returns : goal.returns
returns c = λ d r trail.
    let e = place_of c.args.event.now in
    let last = c.reached_at-last.result in
    let none : 0 ≡ c.loop-at.at = omega (arith, c.loop-at-test.false) in
    let there : slice_get c.args.found.now c.loop-at.at ≡ Some last = subst (λ i. slice_get c.args.found.now i ≡ Some last) none c.reached_at-last.ensures in
    let a : Link = record { earlier = last.send; later = last.receive; rule = Message } in
    let ends = λ (x : Reached) (k : ℕ) (at_x : slice_get c.args.found.now c.args.number ≡ Some x) (steps : AreSteps x e k).
    leads_to_end d r e c.args.found.now last c.loop-at.links.items k trail c.reached_at-last.ensures (c.loop-at.invariant.1 d r x last k trail at_x steps there) in
    let some = some_steps c.requires.under.0 e c.requires.under.2 in
    record {
      lead = subst (λ (l : List Link). Lead d e r l) (sym c.in_ok-push-3.ensures.items) (ends c.requires.under.0 some.0 c.requires.under.1 some.1).0;
      steps = λ x k at_x steps. ap (λ (l : List Link). length l) c.in_ok-push-3.ensures.items ∙ (ends x k at_x steps).1;
    }
