use Rattle.std.proofs.Common.{ap, arith}
use Rattle.chart.specs.declared.ranges.EventRange.{EventRange}
use Rattle.chart.proofs.RangeLists.{events_in-more}
use Rattle.chart.proofs.ranges.EventRanges.len.Goals as goal

pub loop-range-preserved : goal.loop-range-preserved
loop-range-preserved c =
    let ranges = c.as_slice-ranges.result.now in
    let passed = c.loop-range.range-index in
    let more = events_in-more ranges passed c.range-item.result c.loop-range-test.true in
    let read = ap (λ (r : EventRange). r.count) c.range-item.is in
    omega (arith, more, read, c.loop-range.invariant, c.saturating_add-events.ensures)
