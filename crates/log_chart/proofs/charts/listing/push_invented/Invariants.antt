use Rattle.std.proofs.Common.{◌≡◌, ◌+◌, ◌++◌, drop}
use Rattle.log_chart.specs.Charts.Listing.{invented_from}
use Rattle.log_chart.proofs.charts.listing.push_invented.Given as goal

abbrev pub invariant-loop-place : goal.invariant-loop-place
invariant-loop-place l = l.listed.items ++ invented_from l.host (l.place + 1) (drop l.place l.items) ≡ l.fn.listed.items ++ invented_from l.host 1 l.items
