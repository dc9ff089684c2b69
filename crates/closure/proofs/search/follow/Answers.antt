use Rattle.std.proofs.Common.{suc, length, subst}
use Rattle.chart.specs.Charts.{at, BelongsTo, chart_lines}
use Rattle.closure.proofs.SearchLemmas.{IsSearch-receive}
use Rattle.closure.proofs.search.follow.Goals as goal

pub returns-in-Sender-clause-kept : goal.returns-in-Sender-clause-kept
returns-in-Sender-clause-kept c = λ s old.
    let belongs = subst (λ k. BelongsTo (chart_lines c.args.linked.now) (at (suc c.in-Sender.sender) c.in-Sender.index) (at (suc c.args.line) (suc k))) c.at-place.ensures c.in-Sender.ensures.partner.1 in
    rw (c.raise.ensures, c.set.ensures, c.at-place.ensures)
    (IsSearch-receive (chart_lines c.args.linked.now) (length c.args.linked.now) s c.args.search.now.fronts c.args.search.now.seen c.args.line c.in-Sender.sender c.in-Sender.index c.requires.line c.in-Sender.ensures.partner.0 c.requires.pending belongs old)
