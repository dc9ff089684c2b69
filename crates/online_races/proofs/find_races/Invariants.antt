use Rattle.std.proofs.Common.{◌≡◌, ◌+◌, ◌≤◌, reverse, All, vec_len, vec_capacity}
use Rattle.chart.specs.Ranges.{IsRange, events_in}
use Rattle.online_races.specs.Passing.{HasFound}
use Rattle.online_races.proofs.find_races.Given as goal

-- the ranges are in the opposite order, and each has an event
abbrev pub invariant-loop-races : goal.invariant-loop-races
invariant-loop-races l =
    HasFound l.line.line l.end l.index l.entry l.sender l.region (events_in (reverse l.found.items)) × All IsRange l.found.items × (l.index + vec_len l.found ≤ l.end) × (vec_capacity l.found ≡ vec_capacity l.initial.found)

abbrev pub decreases-loop-races : goal.decreases-loop-races
decreases-loop-races l = l.index
