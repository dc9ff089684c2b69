use Rattle.std.proofs.Common.{◌≡◌, ◌++◌, take, drop, sym, ap, ◌∙◌, subst, arith, take_all, List}
use Rattle.closure.specs.Cycle.Cycles.{BeginsWithLeast}
use Rattle.closure.specs.declared.chain.link.Link.{Link}
use Rattle.closure.proofs.CycleLemmas.CycleLemmas.{begins_with_least}
use Rattle.closure.proofs.cycle.shortest.from_least.Goals as goal

pub returns-clause-least : goal.returns-clause-least
returns-clause-least c =
    let at = c.least_at-least.result in
    let rest = take at c.args.links.now in
    let all : take c.loop-link-2.link-index rest ≡ rest = take_all c.loop-link-2.link-index rest (omega (arith, c.loop-link-2-test.false, c.loop-link-2.auto.link-index-end)) in
    subst BeginsWithLeast (sym (c.loop-link-2.invariant ∙ ap (λ (l : List Link). drop at c.args.links.now ++ l) all))
    (begins_with_least c.args.links.now at c.least_at-least.ensures.within c.least_at-least.ensures.least)
