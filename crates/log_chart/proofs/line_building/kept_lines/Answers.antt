use Rattle.std.proofs.Common.{◌∙◌, sym, subst}
use Rattle.log_chart.specs.FateTables.{AreWithin, AreNumbered}
use Rattle.log_chart.proofs.OrderLemmas.{are_within, are_numbered}
use Rattle.log_chart.proofs.line_building.kept_lines.Goals as goal

pub sift-requires-clause-sends : goal.sift-requires-clause-sends
sift-requires-clause-sends c = subst AreWithin (sym (c.deref.ensures.value ∙ c.in_ok-matched.ensures)) (are_within c.args.log.now)

pub sift-requires-clause-numbers : goal.sift-requires-clause-numbers
sift-requires-clause-numbers c = subst AreNumbered (sym (c.deref.ensures.value ∙ c.in_ok-matched.ensures)) (are_numbered c.args.log.now)
