use Rattle.std.proofs.Common.{◌≡◌, ◌+◌, ◌-◌, ◌<◌, length, drop, sym, ◌∙◌, subst, arith}
use Rattle.log_chart.specs.Begun.{behind}
use Rattle.log_chart.specs.Chains.{AreChains}
use Rattle.log_chart.proofs.ChainLemmas.{chains_same}
use Rattle.log_chart.proofs.FateLemmas.{is_within}
use Rattle.log_chart.proofs.BegunLemmas.{no_behind, given_here, below_here, behind_put, behind_kept, behind_rises}
use Rattle.log_chart.proofs.host_line.behind_of.Goals as goal

pub given-init : goal.given-init
given-init c = record {
  within = omega arith;
  lists = c.in_ok-chains.ensures.lists;
  numbers = c.in_ok-chains.ensures.numbers;
  chains = chains_same _ _ _ _ (λ d. no_behind c.args.given.now _ d (omega arith)) c.in_ok-chains.ensures.none;
}

pub put_first-requires-clause-list : goal.put_first-requires-clause-list
put_first-requires-clause-list c =
    let more : c.given.left - 1 + 1 ≡ c.given.left = omega (arith, c.given-test.true) in
    let here = given_here c.args.count c.args.given.now (c.given.left - 1) c.given.left c.index-given-left.result c.requires more (omega (arith, c.given.invariant.within)) c.index-given-left.is in
    subst (λ n. c.in-Some.send < n) (sym c.given.invariant.lists) (is_within c.args.count c.index-given-left.result.behind c.in-Some.send c.in-Some.is here.1)

pub put_first-requires-clause-number : goal.put_first-requires-clause-number
put_first-requires-clause-number c =
    let more : c.given.left - 1 + 1 ≡ c.given.left = omega (arith, c.given-test.true) in
    let here = given_here c.args.count c.args.given.now (c.given.left - 1) c.given.left c.index-given-left.result c.requires more (omega (arith, c.given.invariant.within)) c.index-given-left.is in
    subst (λ n. c.index-given-left.result.receive < n) (sym c.given.invariant.numbers) here.0

pub given-preserved-in-Some : goal.given-preserved-in-Some
given-preserved-in-Some c =
    let more : c.given.left - 1 + 1 ≡ c.given.left = omega (arith, c.given-test.true) in
    let inside : c.given.left - 1 < length c.args.given.now = omega (arith, c.given.invariant.within, c.given-test.true) in
    record {
      within = omega (arith, c.given.invariant.within);
      lists = c.put_first.ensures.lists ∙ c.given.invariant.lists;
      numbers = c.put_first.ensures.numbers ∙ c.given.invariant.numbers;
      chains = chains_same _ _ _ _ (behind_put c.args.count c.args.given.now (c.given.left - 1) c.given.left c.index-given-left.result c.requires more inside c.index-given-left.is c.in-Some.send c.in-Some.is)
          (c.put_first.ensures.put (behind (drop c.given.left c.args.given.now)) c.given.invariant.chains
          (below_here c.args.count c.args.given.now (c.given.left - 1) c.given.left c.index-given-left.result c.requires more inside c.index-given-left.is));
    }

pub given-preserved : goal.given-preserved
given-preserved c =
    let more : c.given.left - 1 + 1 ≡ c.given.left = omega (arith, c.given-test.true) in
    let inside : c.given.left - 1 < length c.args.given.now = omega (arith, c.given.invariant.within, c.given-test.true) in
    record {
      within = omega (arith, c.given.invariant.within);
      lists = c.given.invariant.lists;
      numbers = c.given.invariant.numbers;
      chains = chains_same _ _ _ _ (behind_kept c.args.count c.args.given.now (c.given.left - 1) c.given.left c.index-given-left.result c.requires more inside c.index-given-left.is c.in_default.is)
          c.given.invariant.chains;
    }

pub returns-clause-rising : goal.returns-clause-rising
returns-clause-rising c = (behind c.args.given.now, chains, λ s. behind_rises c.args.count c.args.given.now s c.requires)
  where
    all : c.given.left ≡ 0
    all = omega (arith, c.given-test.false)

    chains : AreChains c.given.chains.first.items c.given.chains.next.items (behind c.args.given.now)
    chains = subst (λ n. AreChains c.given.chains.first.items c.given.chains.next.items (behind (drop n c.args.given.now))) all c.given.invariant.chains
