use Rattle.std.proofs.Common.{◌-◌, ◌<◌, ◌≤◌, length}
use Rattle.std.specs.Prelude.{slice_index}
use Rattle.closure.proofs.SearchLemmas.{IsFollowed}
use Rattle.closure.proofs.search.follow_line.Given as goal

-- the events of the line so far were followed
abbrev pub invariant-loop-search : goal.invariant-loop-search
invariant-loop-search l =
    IsFollowed l.linked l.line l.initial.search.fronts l.initial.search.seen l.search.fronts l.search.seen
    × (slice_index l.search.seen l.line ≤ l.end) × (l.next < length l.linked)

abbrev pub decreases-loop-search : goal.decreases-loop-search
decreases-loop-search l = l.end - slice_index l.search.seen l.line
