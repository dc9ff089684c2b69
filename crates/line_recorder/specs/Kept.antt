-- The reports of a line's receives, as a recorder keeps them: all ranges in one list, and for each receive the number
-- of its own (this project's profile).
use Rattle.std.specs.Prelude.{◌≡◌, ℕ, ◌+◌, ◌<◌, ◌≤◌, List, [], ◌∷◌, length, map, take, drop, All}
use Rattle.chart.specs.Words.{Instance}
use Rattle.chart.specs.declared.line.TheConstants.{MAX_EVENTS}
use Rattle.chart.specs.declared.ranges.EventRange.{EventRange}
use Rattle.chart.specs.Ranges.{IsRange, events_in, ranges_of}
use Rattle.chart.specs.Reports.{ReportView}
use Rattle.line_recorder.specs.declared.kept_reports.KeptRange.{KeptRange}
use Rattle.line_recorder.specs.declared.kept_reports.KeptReceive.{KeptReceive}

-- the reports of the receives of an instance's line, in their order, and how many receives and ranges can be added
-- without memory
pub record KeptView : Type 0 where
  pub instance : Instance
  pub reports : List ReportView
  pub receives_room : ℕ
  pub ranges_room : ℕ

-- a range of p's line, from its kept form
abbrev pub range_of : Instance → KeptRange → EventRange
range_of p kept = record { first = record { instance = p; index = kept.first }; count = kept.count }

-- the report of a receive with the first of these ranges
abbrev pub report_of : Instance → KeptReceive → List EventRange → ReportView
report_of p kept ranges = record {
  receive = record { instance = p; index = kept.index };
  earlier = events_in (take kept.ranges ranges);
}

-- the reports of these receives, each with the next ones of the ranges
abbrev pub reports_of : Instance → List KeptReceive → List EventRange → List ReportView
reports_of p [] ranges = []
reports_of p (kept ∷ receives) ranges = report_of p kept ranges ∷ reports_of p receives (drop kept.ranges ranges)

-- how many ranges these receives have
abbrev pub ranges_in : List KeptReceive → ℕ
ranges_in [] = 0
ranges_in (kept ∷ receives) = kept.ranges + ranges_in receives

-- the two lists agree: the ranges are those of the receives, and each is a valid range
pub record AreKept (p : Instance) (receives : List KeptReceive) (kept : List KeptRange) : Type 0 where
  pub as_many : length kept ≡ ranges_in receives
  pub each : All IsRange (map (range_of p) kept)

-- a range of events of p's line, with an index and a count that a line can have
pub record IsOnLine (p : Instance) (range : EventRange) : Type 0 where
  pub instance : range.first.instance ≡ p
  pub first : range.first.index ≤ MAX_EVENTS
  pub count : range.count ≤ MAX_EVENTS + 1

-- a report of a receive on p's line, and of events of this line, with indices and a count that a line can have
pub record IsOfLine (p : Instance) (report : ReportView) : Type 0 where
  pub instance : report.receive.instance ≡ p
  pub index : report.receive.index ≤ MAX_EVENTS
  pub own : All (λ race. race.instance ≡ p) report.earlier
  pub within : All (λ race. race.index ≤ MAX_EVENTS) report.earlier
  pub few : length report.earlier ≤ MAX_EVENTS

-- there is room for the report
pub record HasRoomFor (kept : KeptView) (report : ReportView) : Type 0 where
  pub receive : 0 < kept.receives_room
  pub ranges : length (ranges_of report.earlier) ≤ kept.ranges_room
