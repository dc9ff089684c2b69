use Rattle.std.proofs.Common.{◌≡◌, ◌-◌, ◌+◌, ◌∷◌, true, false, drop, reverse, sym, ap, ◌∙◌, arith, refl}
use Rattle.diagrams.specs.LeftOuts.{with_one}
use Rattle.diagrams.specs.Losing.{is_left_out, kept, with_lost}
use Rattle.diagrams.specs.declared.left_out.Kind.TheVariants as kinds
use Rattle.diagrams.proofs.LosingLemmas.{none_marked, one_before, stays, goes, stays_lost, goes_lost, nothing_kept, nothing_lost, put_behind}
use Rattle.diagrams.proofs.losing.without_lost.Goals as goal

pub messages-init : goal.messages-init
messages-init c = record {
  within = omega arith;
  marked = none_marked _ c.args.messages.now _ refl c.in_ok-marked.ensures;
  stay = ap reverse c.new-staying.ensures.items ∙ sym (nothing_kept c.args.messages.now);
  left_out = sym (nothing_lost _ c.args.messages.now);
}

pub messages-preserved-in-Continue-branch-2 : goal.messages-preserved-in-Continue-branch-2
messages-preserved-in-Continue-branch-2 c =
    let messages = c.args.messages.now in
    let m = c.index-messages-count.result in
    let later = drop c.messages.count messages in
    let count : c.messages.count - 1 + 1 ≡ c.messages.count = omega (arith, c.messages-test.true) in
    let e : drop (c.messages.count - 1) messages ≡ m ∷ later = one_before messages c.messages.count (c.messages.count - 1) m c.messages.invariant.within count c.index-messages-count.is in
    let out : is_left_out m later ≡ true = sym (c.pass.ensures.value later c.messages.invariant.marked) ∙ c.if-pass.true in
    record {
      within = omega (arith, c.messages.invariant.within);
      marked = rw e (c.pass.ensures.marked later c.messages.invariant.marked);
      stay = c.messages.invariant.stay ∙ sym (ap kept e ∙ goes m later out);
      left_out = c.in_ok-leave_out.ensures.ok ∙ ap (λ l. with_one l kinds.LostMessage m.place) c.messages.invariant.left_out ∙ sym (ap (with_lost _) e ∙ goes_lost _ m later out);
    }

pub messages-preserved : goal.messages-preserved
messages-preserved c =
    let messages = c.args.messages.now in
    let m = c.index-messages-count.result in
    let later = drop c.messages.count messages in
    let count : c.messages.count - 1 + 1 ≡ c.messages.count = omega (arith, c.messages-test.true) in
    let e : drop (c.messages.count - 1) messages ≡ m ∷ later = one_before messages c.messages.count (c.messages.count - 1) m c.messages.invariant.within count c.index-messages-count.is in
    let stay : is_left_out m later ≡ false = sym (c.pass.ensures.value later c.messages.invariant.marked) ∙ c.if-pass.false in
    record {
      within = omega (arith, c.messages.invariant.within);
      marked = rw e (c.pass.ensures.marked later c.messages.invariant.marked);
      stay = ap reverse c.in_ok-push.ensures.items ∙ put_behind c.messages.staying.items m ∙ ap (λ l. m ∷ l) c.messages.invariant.stay ∙ sym (ap kept e ∙ stays m later stay);
      left_out = c.messages.invariant.left_out ∙ sym (ap (with_lost _) e ∙ stays_lost _ m later stay);
    }
