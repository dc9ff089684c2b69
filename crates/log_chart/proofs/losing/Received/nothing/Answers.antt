use Rattle.std.proofs.Common.{[], sym, subst, rules}
use Rattle.log_chart.specs.FateTables.{AreFates}
use Rattle.log_chart.proofs.FateLemmas.{no_fates, no_first, no_last}
use Rattle.log_chart.proofs.losing.Received.nothing.Goals as goal

pub returns-clause-fates : goal.returns-clause-fates
returns-clause-fates c = subst (λ table. AreFates table []) (sym (c.in_ok-vec.ensures.items_if_clones_equal (λ y says. search rules))) (no_fates c.args.count)

pub returns-clause-first : goal.returns-clause-first
returns-clause-first c = no_first _ c.in_ok-none.ensures

pub returns-clause-last : goal.returns-clause-last
returns-clause-last c = no_last _ c.in_ok-none-2.ensures
