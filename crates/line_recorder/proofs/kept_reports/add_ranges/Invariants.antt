use Rattle.std.proofs.Common.{◌≡◌, ◌+◌, ◌++◌, ℕ, map, take, vec_len}
use Rattle.std.specs.Prelude.{All}
use Rattle.std.specs.Vec.{vec_capacity}
use Rattle.line_recorder.specs.Kept.{range_of, IsOnLine}
use Rattle.line_recorder.proofs.kept_reports.add_ranges.Given as goal

-- the first ranges were added
abbrev pub invariant-loop-range : goal.invariant-loop-range
invariant-loop-range l = record {
  room : vec_capacity l.kept ≡ vec_capacity l.initial.kept;
  many : vec_len l.kept ≡ vec_len l.initial.kept + l.range-index;
  added : (p : ℕ) → All (IsOnLine p) l.ranges → map (range_of p) l.kept.items ≡ map (range_of p) l.initial.kept.items ++ take l.range-index l.ranges;
}
