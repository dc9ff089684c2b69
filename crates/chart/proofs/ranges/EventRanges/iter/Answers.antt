use Rattle.chart.proofs.RangeLists.{none_passed}
use Rattle.chart.proofs.ranges.EventRanges.iter.Goals as goal

pub invariant_of-result : goal.invariant_of-result
invariant_of-result c = (c.as_slice.ensures.each, none_passed c.as_slice.result.now c.as_slice.ensures.each)
