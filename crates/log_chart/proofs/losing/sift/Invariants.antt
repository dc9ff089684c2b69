use Rattle.std.proofs.Common.{◌≡◌, ◌++◌, map, filter, drop}
use Rattle.log_chart.specs.Fates.{fate_of, fates, stays, staying}
use Rattle.log_chart.proofs.losing.sift.Given as goal

abbrev pub invariant-loop-line : goal.invariant-loop-line
invariant-loop-line l = record {
  fates : l.fates.items ++ map (fate_of l.lines) (drop l.line-index l.lines) ≡ fates l.lines;
  staying : l.staying.items ++ filter (λ x. stays (fate_of l.lines x)) (drop l.line-index l.lines) ≡ staying l.lines;
}
