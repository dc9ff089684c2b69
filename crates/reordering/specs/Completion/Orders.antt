-- The order of a chart's events if each instance finishes what a message makes it do before it receives again, and the
-- remaining races. This is run to completion, as the state machines of UML have it. It is over the order of Alur,
-- Holzmann and Peled 1996, in this project's profile.
use Rattle.std.specs.Prelude.{◌≡◌, ℕ, ◌<◌, ◌≤◌, ◌↔◌, ◌⊎◌, false, List, map, All, AllPairs, Contains, Some}
use Rattle.std.specs.List.{flat_map}
use Rattle.chart.specs.Words.{Indices}
use Rattle.chart.specs.declared.event.Event.{Event}
use Rattle.chart.specs.Events.{is_in}
use Rattle.chart.specs.Charts.{Chart, Place, at, chart_event, IsReceiveFrom, LineView, chart_lines}
use Rattle.chart.specs.Order.{IsEarlier, Direct, Before, region_of_event}
use Rattle.chart.specs.Reports.{ReportView, receives_of}
use Rattle.reordering.specs.Completion.Handling.{IsHandled}

-- Before, if instances finish: the least transitive relation that has all directly enforced pairs and one rule more. By
-- this rule a send is before a later receive of its line if all receives that the send handles are before that receive;
-- it handles one receive, or those of a coregion.
pub data Completed (c : Chart) : Place → Place → Type 0 where
  direct : {e f : Place} → Direct c e f → Completed c e f
  through : {e d f : Place} → Completed c e d → Completed c d f → Completed c e f
  finished : {s r : Place} → (q d : ℕ) → IsEarlier s r → IsReceiveFrom c q r → IsHandled (c s.instance) d s.index
      → ((i : ℕ) → IsHandled (c s.instance) i s.index → Completed c (at s.instance i) r) → Completed c s r

-- the send s is finished before the later receive r of its line: all receives that s handles are enforced before r
pub record IsFinished (c : Chart) (s r : Place) : Type 0 where
  pub earlier : IsEarlier s r
  pub receive : (q : ℕ) × IsReceiveFrom c q r
  pub handling : (d : ℕ) × IsHandled (c s.instance) d s.index
  pub before : (d : ℕ) → IsHandled (c s.instance) d s.index → Before c (at s.instance d) r

-- k is the number of the line's last send that is finished before r, or 0 if there is none
pub record IsFinishedUpTo (c : Chart) (r : Place) (k : ℕ) : Type 0 where
  pub attained : (k ≡ 0) ⊎ IsFinished c (at r.instance k) r
  pub last : (j : ℕ) → IsFinished c (at r.instance j) r → j ≤ k

-- the report of the receive r if instances finish: the earlier events of its line, outside of its coregion, that aren't
-- before it then, in rising order
pub record IsCompletedReport (c : Chart) (r : Place) (report : Indices) : Type 0 where
  pub rising : AllPairs (λ i j. i < j) report
  pub exact : (j : ℕ) → Contains report j
      ↔ ((j < r.index)
      × ((m : Event) × (chart_event c (at r.instance j) ≡ Some m)
      × (is_in (region_of_event (chart_event c r)) m ≡ false))
      × (Completed c (at r.instance j) r → ⊥))

-- the report is that of its receive, as events of the receive's line
pub record IsCompletedReportIn (c : Chart) (report : ReportView) : Type 0 where
  pub exact : IsCompletedReport c (at report.receive.instance report.receive.index)
      (map (λ race. race.index) report.earlier)
  pub line : All (λ race. race.instance ≡ report.receive.instance) report.earlier

-- the report of each receive of the chart if instances finish, by instance and index
pub record AreCompletedReports (lines : List LineView) (reports : List ReportView) : Type 0 where
  pub receives : map (λ r. r.receive) reports ≡ flat_map receives_of lines
  pub each : All (IsCompletedReportIn (chart_lines lines)) reports
