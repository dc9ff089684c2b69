use Rattle.std.proofs.Common.{◌≡◌, drop, map}
use Rattle.log_formats.specs.Clocks.Hearing.{heard_view, is_implied}
use Rattle.log_formats.specs.Clocks.Moments.{moment_view}
use Rattle.log_formats.proofs.clocks.heard.is_implied.Given as goal

abbrev pub invariant-loop-by : goal.invariant-loop-by
invariant-loop-by l =
    is_implied (map moment_view l.moments) (map heard_view (drop l.by-index l.found)) (heard_view l.heard)
    ≡ is_implied (map moment_view l.moments) (map heard_view l.found) (heard_view l.heard)
