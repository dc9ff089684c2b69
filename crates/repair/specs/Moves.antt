-- Where the events of a chart are in the chart with one message more (this project's profile).
use Rattle.std.specs.Prelude.{ℕ, ◌≤◌, ◌==◌, map, All, if◌then◌else◌}
use Rattle.chart.specs.declared.instance.EventNo.{EventNo}
use Rattle.chart.specs.declared.line.TheConstants.{MAX_EVENTS}
use Rattle.chart.specs.Reports.{ReportView}
use Rattle.repair.specs.Counted.{CountedView}
use Rattle.repair.specs.Messages.{NewMessage, moved_index}

-- the number of an old event in the new chart
abbrev pub new_index : NewMessage → EventNo → ℕ
new_index m e =
    if e.instance == m.sender then moved_index m.sent e.index
    else (if e.instance == m.receiver then moved_index m.received e.index else e.index)

-- where an old event is in the new chart
abbrev pub moved_event : NewMessage → EventNo → EventNo
moved_event m e = record { instance = e.instance; index = new_index m e }

-- the pairs of the same events, by their numbers in the new chart
abbrev pub moved_report : NewMessage → ReportView → ReportView
moved_report m report = record { receive = moved_event m report.receive; earlier = map (moved_event m) report.earlier }

-- The races that count in the new chart: those that are shown in it, or only those of them whose two events were luck in
-- the old one.
abbrev pub moved_counted : NewMessage → CountedView → CountedView
moved_counted m counted = record {
  showing = counted.showing;
  only_luck = counted.only_luck;
  luck = map (moved_report m) counted.luck;
}

-- each number in a report is that of an event that a line can have
pub record HasNumbers (report : ReportView) : Type 0 where
  pub receive : report.receive.index ≤ MAX_EVENTS
  pub earlier : All (λ e. e.index ≤ MAX_EVENTS) report.earlier
