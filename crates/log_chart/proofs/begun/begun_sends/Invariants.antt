use Rattle.std.proofs.Common.{◌≡◌, ◌++◌, drop}
use Rattle.log_chart.specs.Begun.{begun_from, begun}
use Rattle.log_chart.specs.LaneTables.{AreLanes}
use Rattle.log_chart.proofs.BegunLemmas.{lasts_at}
use Rattle.log_chart.proofs.begun.begun_sends.Given as goal

abbrev pub invariant-loop-line : goal.invariant-loop-line
invariant-loop-line l = record {
  lasts : AreLanes l.lasts (lasts_at l.lines l.line-index);
  so_far : l.given.items ++ begun_from (lasts_at l.lines l.line-index) (drop l.line-index l.lines) ≡ begun l.lines;
}
