use Rattle.std.proofs.Common.{◌+◌, suc, length, sym, subst, arith, add-one}
use Rattle.chart.specs.Charts.{at, chart_lines}
use Rattle.closure.specs.Searches.{IsSearch, IsReached}
use Rattle.closure.proofs.ReadLemmas.{line_short}
use Rattle.closure.proofs.SearchLemmas.{front_within}
use Rattle.closure.proofs.KnowLemmas.{IsSearchAfter-reached, IsSearchAfter-more, IsKnowledge-from_reached}
use Rattle.closure.proofs.knowing.known_at.Goals as goal

pub reach-requires-clause-search : goal.reach-requires-clause-search
reach-requires-clause-search c =
    subst (λ i. IsSearch (chart_lines c.args.linked.now) (length c.args.linked.now) (at (suc c.args.line) i) c.args.search.now.fronts c.args.search.now.seen) (sym (add-one c.args.place))
    (c.requires.search c.args.place (omega arith) (suc c.in-Receiver.receiver, c.in-Receiver.ensures.partner.1))

pub overflow_cast-result : goal.overflow_cast-result
overflow_cast-result c =
    let front = front_within (chart_lines c.args.linked.now) (length c.args.linked.now) (at (suc c.args.line) (c.args.place + 1)) c.reach.new.search.fronts c.reach.new.search.seen (suc c.in-Receiver.receiver) c.reach.ensures.search in
    let short = line_short c.args.linked.now c.in-Receiver.receiver c.in-Receiver.ensures.chart c.in-Receiver.ensures.partner.0 in
    omega (arith, c.at.ensures, front, short)

pub returns-in-Receiver-clause-known : goal.returns-in-Receiver-clause-known
returns-in-Receiver-clause-known c =
    IsKnowledge-from_reached (chart_lines c.args.linked.now) (length c.args.linked.now) (at (suc c.args.line) (suc c.args.place)) c.reach.new.search.fronts c.reach.new.search.seen c.in-Receiver.receiver c.at.result c.in-Receiver.ensures.partner.1
    (subst (λ i. IsSearch (chart_lines c.args.linked.now) (length c.args.linked.now) (at (suc c.args.line) i) c.reach.new.search.fronts c.reach.new.search.seen) (add-one c.args.place) c.reach.ensures.search)
    (subst (λ i. IsReached (chart_lines c.args.linked.now) (at (suc c.args.line) i) c.reach.new.search.fronts) (add-one c.args.place) c.reach.ensures.reached) c.at.ensures

pub returns-in-Receiver-clause-search : goal.returns-in-Receiver-clause-search
returns-in-Receiver-clause-search c =
    IsSearchAfter-reached (chart_lines c.args.linked.now) (length c.args.linked.now) c.args.line c.args.place c.reach.new.search.fronts c.reach.new.search.seen
    (subst (λ i. IsSearch (chart_lines c.args.linked.now) (length c.args.linked.now) (at (suc c.args.line) i) c.reach.new.search.fronts c.reach.new.search.seen) (add-one c.args.place) c.reach.ensures.search)

pub returns-in-Sender-clause-search : goal.returns-in-Sender-clause-search
returns-in-Sender-clause-search c = IsSearchAfter-more (chart_lines c.args.linked.now) (length c.args.linked.now) c.args.line c.args.place c.args.search.now.fronts c.args.search.now.seen c.requires.search
