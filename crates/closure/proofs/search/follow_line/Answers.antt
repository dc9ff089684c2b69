use Rattle.std.proofs.Common.{suc, arith}
use Rattle.closure.proofs.SearchLemmas.{IsFollowed-next}
use Rattle.closure.proofs.search.follow_line.Goals as goal

pub follow-next-requires-clause-pending : goal.follow-next-requires-clause-pending
follow-next-requires-clause-pending c =
    let grown = c.loop-search.invariant.0.grown (suc c.args.line) in
    omega (arith, grown, c.at-end.ensures, c.at.ensures, c.loop-search-test.true)

pub loop-search-preserved : goal.loop-search-preserved
loop-search-preserved c =
    let next = IsFollowed-next c.args.linked.now c.args.line c.args.search.now.fronts c.args.search.now.seen c.loop-search.search.fronts c.loop-search.search.seen c.follow-next.new.search.fronts c.follow-next.new.search.seen (omega (arith, c.requires.seen, c.requires.line)) c.loop-search.invariant.0 c.follow-next.ensures.whole c.follow-next.ensures.seen c.follow-next.ensures.grown c.follow-next.ensures.kept in
    (next.0, omega (arith, next.1, c.at.ensures, c.loop-search-test.true), c.follow-next.ensures.line)
