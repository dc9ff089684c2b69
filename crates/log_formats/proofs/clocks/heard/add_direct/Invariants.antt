use Rattle.std.proofs.Common.{◌≡◌, drop, map}
use Rattle.log_formats.specs.Clocks.Hearing.{heard_view, with_direct}
use Rattle.log_formats.specs.Clocks.Moments.{moment_view}
use Rattle.log_formats.proofs.clocks.heard.add_direct.Given as goal

abbrev pub invariant-loop-heard : goal.invariant-loop-heard
invariant-loop-heard l =
    with_direct (map moment_view l.moments) (map heard_view l.found) (map heard_view l.all.items) (map heard_view (drop l.heard-index l.found))
    ≡ with_direct (map moment_view l.moments) (map heard_view l.found) (map heard_view l.initial.all.items) (map heard_view l.found)
