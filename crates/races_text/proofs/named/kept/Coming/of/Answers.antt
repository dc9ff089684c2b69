use Rattle.chart.proofs.RangeLists.{none_passed}
use Rattle.races_text.proofs.named.kept.Coming.of.Goals as goal

pub invariant_of-result : goal.invariant_of-result
invariant_of-result c = (c.requires, none_passed c.args.ranges.now c.requires)
