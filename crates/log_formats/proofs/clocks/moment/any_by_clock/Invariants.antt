use Rattle.std.proofs.Common.{◌≡◌, drop, map}
use Rattle.log_formats.specs.Clocks.Moments.{moment_view, any_by_clock}
use Rattle.log_formats.proofs.clocks.moment.any_by_clock.Given as goal

abbrev pub invariant-loop-moment : goal.invariant-loop-moment
invariant-loop-moment l = any_by_clock (map moment_view (drop l.moment-index l.moments)) ≡ any_by_clock (map moment_view l.moments)
