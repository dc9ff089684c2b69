use Rattle.std.proofs.Common.{◌≡◌, ◌-◌, ◌≤◌, [], map, replicate, vec_len}
use Rattle.log_formats.specs.Clocks.Hearing.{heard_view}
use Rattle.log_formats.proofs.clocks.ends.no_ends.Given as goal

abbrev pub invariant-lists : goal.invariant-lists
invariant-lists l = record {
  few : vec_len l.lists ≤ l.count;
  empty : map (λ list. map heard_view list.items) l.lists.items ≡ replicate (vec_len l.lists) [];
}

abbrev pub decreases-lists : goal.decreases-lists
decreases-lists l = l.count - vec_len l.lists
