-- Which races go, stay and come where a chart gets one message more (this project's profile).
use Rattle.std.specs.Prelude.{◌+◌, Bool, true, false, not, ◌&&◌, ◌||◌, ◌==◌, List, [], ◌∷◌, filter, map, if◌then◌else◌}
use Rattle.std.specs.List.{list_any}
use Rattle.chart.specs.declared.instance.EventNo.{EventNo}
use Rattle.chart.specs.Reports.{ReportView}
use Rattle.repair.specs.Messages.{NewMessage}
use Rattle.repair.specs.Moves.{new_index}
use Rattle.repair.specs.Marks.{is_at}

-- in the new chart it is the message's send or its receive
abbrev pub is_new : NewMessage → EventNo → Bool
is_new m e = ((e.instance == m.sender) && (e.index == m.sent + 1)) || ((e.instance == m.receiver) && (e.index == m.received + 1))

-- an old event is no race of a receive in the new chart, whose report this is
abbrev pub is_gone : NewMessage → ReportView → EventNo → Bool
is_gone m other e = not (list_any (is_at e.instance (new_index m e)) other.earlier)

-- of an old receive's report the races that go, by its report in the new chart
abbrev pub gone_of : NewMessage → ReportView → ReportView → ReportView
gone_of m report other = record { receive = report.receive; earlier = filter (is_gone m other) report.earlier }

-- of several, each with the one at its place
abbrev pub all_gone : NewMessage → List ReportView → List ReportView → List ReportView
all_gone m [] others = []
all_gone m (report ∷ reports) [] = []
all_gone m (report ∷ reports) (other ∷ others) = gone_of m report other ∷ all_gone m reports others

-- the reports of the old receives in the new chart
abbrev pub is_old : NewMessage → ReportView → Bool
is_old m report = not (is_new m report.receive)

abbrev pub old_receives : NewMessage → List ReportView → List ReportView
old_receives m news = filter (is_old m) news

-- a race of the new chart has the message's send or its receive
abbrev pub has_new : NewMessage → EventNo → EventNo → Bool
has_new m receive e = is_new m receive || is_new m e

-- those that have, or those that haven't
abbrev pub is_kept : Bool → NewMessage → EventNo → EventNo → Bool
is_kept coming m receive e = if coming then has_new m receive e else not (has_new m receive e)

-- of a report of the new chart the races that come, or those that stay
abbrev pub kept_of : Bool → NewMessage → ReportView → ReportView
kept_of coming m report = record { receive = report.receive; earlier = filter (is_kept coming m report.receive) report.earlier }

-- the races that go by the message, that stay and that come, by the reports of both charts
pub record Changed : Type 0 where
  pub gone : List ReportView
  pub staying : List ReportView
  pub coming : List ReportView

abbrev pub changed_by : NewMessage → List ReportView → List ReportView → Changed
changed_by m olds news = record {
  gone = all_gone m olds (old_receives m news);
  staying = map (kept_of false m) news;
  coming = map (kept_of true m) news;
}
