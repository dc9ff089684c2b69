-- The kinds of marks that a picture has (this project's profile).
use Rattle.std.specs.Prelude.{Bool, false, not, ◌&&◌, ◌==◌, is_some, is_none, nat_lt, length, Option, None, Some}
use Rattle.std.specs.List.{list_any}
use Rattle.chart.specs.declared.event.Event.{Event}
use Rattle.chart.specs.declared.event.Event.TheVariants.{Send, Receive}
use Rattle.chart.specs.declared.instance.EventNo.{EventNo}
use Rattle.chart.specs.Events.{region_of}
use Rattle.chart.specs.Reports.{ReportView}
use Rattle.chart_layout.specs.declared.row.Row.{Row}
use Rattle.chart_layout.specs.declared.row.Row.TheVariants as variants
use Rattle.pictures.specs.Pictures.{PictureView, column_of, cell_of, end_of, event_of}

-- the receive of a report has a dot
abbrev pub is_marked : PictureView → ReportView → Bool
is_marked v report = nat_lt 0 (length report.earlier) && is_some (cell_of v report.receive)

abbrev pub has_marks : PictureView → Bool
has_marks v = list_any (is_marked v) v.reports

-- the event is a send whose message waits for an instance with a column
abbrev pub is_sent_in_vain : PictureView → EventNo → Option Event → Bool
is_sent_in_vain v e None = false
is_sent_in_vain v e (Some (Send to name)) = is_none (end_of v e) && is_some (column_of v to)
is_sent_in_vain v e (Some (Receive from name region)) = false

abbrev pub is_waiting : PictureView → EventNo → Bool
is_waiting v e = is_some (cell_of v e) && is_sent_in_vain v e (event_of v e)

abbrev pub has_waiting : PictureView → Row → Bool
has_waiting v (variants.Message s r) = false
has_waiting v (variants.Event e) = is_waiting v e

-- the event is in a coregion
abbrev pub is_regional : Option Event → Bool
is_regional None = false
is_regional (Some m) = not (region_of m == 0)

abbrev pub is_in_region : PictureView → EventNo → Bool
is_in_region v e = is_some (cell_of v e) && is_regional (event_of v e)

abbrev pub has_region : PictureView → Row → Bool
has_region v (variants.Message s r) = is_in_region v r
has_region v (variants.Event e) = is_in_region v e
