use Rattle.std.proofs.Common.{List, inl, inr, refl, subst, arith}
use Rattle.closure.specs.declared.chain.reaching.Reached.{Reached}
use Rattle.closure.specs.Chain.Reaching.{IsAt}
use Rattle.closure.proofs.chain.reaching.follow.Goals as goal

pub overflow_add-depth : goal.overflow_add-depth
overflow_add-depth c =
    let here : IsAt c.args.found.now.items c.args.number c.reached_at-depth.result = subst (λ (xs : List Reached). IsAt xs c.args.number c.reached_at-depth.result) c.as_slice.ensures.value c.reached_at-depth.ensures in
    let low = c.requires.depth c.reached_at-depth.result here in
    omega (arith, low, c.requires.number, c.args.found.now.ok.0, c.args.found.now.ok.1, c.args.found.now.small)

pub returns-in-None : goal.returns-in-None
returns-in-None c = inl (c.in-None.ensures, refl)

pub returns-in_ok-push-in-Some : goal.returns-in_ok-push-in-Some
returns-in_ok-push-in-Some c =
    let here : IsAt c.args.found.now.items c.args.number c.reached_at-depth.result = subst (λ (xs : List Reached). IsAt xs c.args.number c.reached_at-depth.result) c.as_slice.ensures.value c.reached_at-depth.ensures in
    inr (c.in-Some.send, c.reached_at-depth.result, c.in-Some.ensures, here, c.in_ok-push-in-Some.ensures.items)
