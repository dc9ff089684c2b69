use Rattle.std.proofs.Common.{◌≡◌, ◌++◌, drop}
use Rattle.log_chart.specs.Charts.Listing.{lost_of}
use Rattle.log_chart.proofs.charts.listing.lost_places.Given as goal

abbrev pub invariant-loop-number : goal.invariant-loop-number
invariant-loop-number l = l.places.items ++ lost_of (drop l.number l.lines) (drop l.number l.fates) ≡ lost_of l.lines l.fates
