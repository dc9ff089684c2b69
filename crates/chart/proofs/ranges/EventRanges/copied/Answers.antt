use Rattle.std.proofs.Common.{◌∙◌, ◌<◌, length, rules}
use Rattle.chart.proofs.RangeLists.{no_range}
use Rattle.chart.proofs.ranges.EventRanges.copied.Goals as goal

pub returns-in_err-from_slice-clause-none : goal.returns-in_err-from_slice-clause-none
returns-in_err-from_slice-clause-none c none =
    let some : 0 < length c.self.inside.ranges.items = search rules in
    absurd (no_range c.self.inside.ranges.items 0 c.self.invariant.each (c.self.view_is ∙ none) some)
