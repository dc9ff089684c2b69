-- What a gathering has ready before its posts meet (this project's profile).
use Rattle.std.specs.Prelude.{◌≡◌, ℕ, ◌≤◌, List, [], length, vec_capacity}
use Rattle.chart.specs.declared.history.Occurrence.{Occurrence}
use Rattle.chart.specs.Histories.{chart_of}
use Rattle.chart.specs.HistoryLines.{history_lines}
use Rattle.chart.specs.Reports.{AreReportsOf}
use Rattle.board.specs.declared.gathering.Provision.{Provision}
use Rattle.board.specs.Views.{PostView}
use Rattle.board.specs.Gathering.{AreJoint, all_lanes}
use Rattle.board.specs.Parting.{AreOf, HaveRooms, AreClosed, AreForLines}

-- for each history that the posts of n instances have in common, there are their reports and their closed lanes. There
-- is room for their lines, and for the messages that wait on each of their lanes
pub record IsProvision (n : ℕ) (posts : List PostView) (it : Provision) : Type 0 where
  pub own_events : (h : List Occurrence) → AreJoint h posts → AreForLines h n it.own_events.items
  pub lines : it.lines.items ≡ []
  pub reports : (h : List Occurrence) → AreJoint h posts
      → AreReportsOf (chart_of h) (history_lines n h) it.reports.items
  pub leavers : it.leavers.items ≡ []
  pub left : it.left.items ≡ []
  pub rooms : (k : ℕ) → AreOf n k posts → HaveRooms n k posts (all_lanes n) it.rooms.items
  pub closed : (k : ℕ) → AreOf n k posts → AreClosed posts (all_lanes n) it.closed.items
  pub for_lines : n ≤ vec_capacity it.lines
  pub for_leavers : n ≤ vec_capacity it.leavers
  pub for_left : length it.rooms.items ≤ vec_capacity it.left
