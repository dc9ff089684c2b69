use Rattle.std.proofs.Common.{◌≡◌, ◌++◌, drop}
use Rattle.log_chart.specs.Charts.Listing.{overtakings_of}
use Rattle.log_chart.proofs.charts.listing.overtakings.Given as goal

abbrev pub invariant-loop-number : goal.invariant-loop-number
invariant-loop-number l = l.listed.items ++ overtakings_of l.log (drop l.number l.lines) (drop l.number l.fates) ≡ overtakings_of l.log l.lines l.fates
