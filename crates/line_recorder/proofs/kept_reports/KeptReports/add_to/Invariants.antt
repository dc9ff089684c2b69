use Rattle.std.proofs.Common.{◌≡◌, ◌≤◌, ◌+◌, ◌-◌, ◌++◌, length, map, drop, vec_len}
use Rattle.std.specs.Vec.{vec_capacity}
use Rattle.line_recorder.specs.Kept.{range_of, reports_of, AreKept}
use Rattle.line_recorder.proofs.kept_reports.KeptReports.add_to.Given as goal

-- the reports of the first receives are in the list, and the ranges of the others remain
abbrev pub invariant-loop-receive : goal.invariant-loop-receive
invariant-loop-receive l = record {
  many : length l.reports.items ≡ length l.fn.reports.items + l.receive-index;
  room : vec_len l.reports + (length l.receives - l.receive-index) ≤ vec_capacity l.reports;
  left : AreKept l.self.instance (drop l.receive-index l.receives) l.left;
  added : l.reports.items ++ reports_of l.self.instance (drop l.receive-index l.receives) (map (range_of l.self.instance) l.left) ≡ l.fn.reports.items ++ l.self.reports;
}
