use Rattle.std.proofs.Common.{◌∙◌}
use Rattle.chart.proofs.RangeLists.{no_range}
use Rattle.chart.proofs.ranges.EventRanges.listed.Goals as goal

pub returns-in_err-add_events-clause-none : goal.returns-in_err-add_events-clause-none
returns-in_err-add_events-clause-none c none =
    absurd (no_range c.as_slice-ranges.result.now c.loop-range.range-index c.as_slice-ranges.ensures.each (c.as_slice-ranges.ensures.events ∙ none) c.loop-range-test.true)
