use Rattle.std.proofs.Common.{◌≡◌, ◌≤◌, List, length, vec_capacity}
use Rattle.chart.specs.declared.history.Occurrence.{Occurrence}
use Rattle.board.specs.Gathering.{AreJoint}
use Rattle.board.specs.Parting.{AreForLines}
use Rattle.board.proofs.reserving.make_own_events.Given as goal

abbrev pub invariant-loop-place : goal.invariant-loop-place
invariant-loop-place l = record {
  room : l.instances ≤ vec_capacity l.lists;
  many : length l.lists.items ≡ l.place;
  lists : (h : List Occurrence) → AreJoint h l.posts → AreForLines h l.place l.lists.items;
}
