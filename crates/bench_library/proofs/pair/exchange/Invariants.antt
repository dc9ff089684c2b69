use Rattle.std.proofs.Common.{◌≤◌}
use Rattle.bench_library.specs.Partners.{ArePartners}
use Rattle.bench_library.proofs.pair.exchange.Given as goal

abbrev pub invariant-loop-message : goal.invariant-loop-message
invariant-loop-message l = ArePartners l.first l.second × (l.races ≤ l.message)
