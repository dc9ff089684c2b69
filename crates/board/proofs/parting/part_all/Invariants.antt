use Rattle.std.proofs.Common.{◌≡◌, ◌≤◌, ◌+◌, ℕ, List, length, vec_capacity}
use Rattle.std.specs.Vec.Iter.{into_iter_items, into_iter_len}
use Rattle.atomic_table.specs.Seated.{TableId}
use Rattle.chart.specs.declared.history.Occurrence.{Occurrence}
use Rattle.board.specs.Parting.{AreForLinesBehind, HaveSeen, HaveParted}
use Rattle.board.proofs.parting.part_all.Given as goal

abbrev pub invariant-loop-place : goal.invariant-loop-place
invariant-loop-place l = record {
  lines : l.instances ≤ vec_capacity l.lines;
  leavers : l.instances ≤ vec_capacity l.leavers;
  events_many : into_iter_len l.own_events + l.place ≡ l.instances;
  events : (h : List Occurrence) → AreForLinesBehind h 0 (into_iter_items l.initial.own_events) → AreForLinesBehind h l.place (into_iter_items l.own_events);
  lines_many : length l.lines.items ≡ l.place;
  leavers_many : length l.leavers.items ≡ l.place;
  seen : (k : ℕ) (table : TableId) (h : List Occurrence) → HaveSeen l.instances k table h 0 l.initial.posts.items → HaveSeen l.instances k table h l.place l.posts.items;
  parted : (k : ℕ) (table : TableId) (h : List Occurrence) → HaveSeen l.instances k table h 0 l.initial.posts.items → HaveParted (record { table = table; size = l.instances; capacity = k }) h l.place l.lines.items l.leavers.items;
}
