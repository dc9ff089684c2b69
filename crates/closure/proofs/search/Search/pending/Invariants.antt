use Rattle.std.proofs.Common.{ℕ, ◌+◌, ◌<◌, ◌≤◌, slice_index}
use Rattle.closure.proofs.search.Search.pending.Given as goal

abbrev pub invariant-loop-line : goal.invariant-loop-line
invariant-loop-line l = (p : ℕ) → p < l.line → slice_index l.self.fronts p ≤ slice_index l.self.seen p + 1
