-- The ranges of the earlier events of a receive that are shown (this project's profile).
use Rattle.std.specs.Prelude.{ℕ, Bool, List, filter}
use Rattle.chart.specs.declared.event.Event.{Event}
use Rattle.chart.specs.declared.instance.EventNo.{EventNo}
use Rattle.chart.specs.declared.ranges.EventRange.{EventRange}
use Rattle.chart.specs.Ranges.{ranges_of}
use Rattle.shown_races.specs.Kept.{is_kept_after, kept_events}

-- their fewest ranges
abbrev pub kept_ranges : List Event → Bool → List EventNo → List EventRange
kept_ranges events only earlier = ranges_of (kept_events events only earlier)

-- those of the events that are shown, if events up to a number aren't
abbrev pub kept_after : List Event → Bool → ℕ → List EventNo → List EventRange
kept_after events only passed earlier = ranges_of (filter (is_kept_after events only passed) earlier)
