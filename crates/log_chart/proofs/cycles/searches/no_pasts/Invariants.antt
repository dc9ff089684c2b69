use Rattle.std.proofs.Common.{◌≡◌, [], length, replicate, false}
use Rattle.std.specs.Prelude.{All}
use Rattle.log_chart.proofs.cycles.searches.no_pasts.Given as goal

abbrev pub invariant-loop : goal.invariant-loop
invariant-loop l = record {
  whole : length l.pasts.items ≡ l.counter;
  none : All (λ x. (x.seen.items ≡ replicate l.count false) × (x.stack.items ≡ [])) l.pasts.items;
}
