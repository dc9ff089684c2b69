use Rattle.std.proofs.Common.{sym, ◌∙◌}
use Rattle.log_chart.proofs.ChainLemmas.{chains_same}
use Rattle.log_chart.proofs.MatchingLemmas.{taken_same}
use Rattle.log_chart.proofs.matching.send_for.Goals as goal

pub returns-then-takes-clause-left : goal.returns-then-takes-clause-left
returns-then-takes-clause-left c = λ lists are.
    chains_same _ _ _ _ (taken_same lists c.args.entry.now (sym c.takes.ensures ∙ c.if-takes.true)) (c.take_first.ensures.taken lists are)
