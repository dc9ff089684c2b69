use Rattle.std.proofs.Common.{◌≡◌, ◌++◌, suc, drop}
use Rattle.log_chart.specs.Charts.Listing.{all_invented}
use Rattle.log_chart.proofs.charts.listing.invented_sends.Given as goal

abbrev pub invariant-loop-place : goal.invariant-loop-place
invariant-loop-place l = l.listed.items ++ all_invented (suc l.place) (drop l.place l.lines) ≡ all_invented 1 l.lines
