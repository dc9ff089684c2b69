use Rattle.std.proofs.Common.{◌≡◌, drop, map}
use Rattle.log_lines.specs.Reading.{read_view}
use Rattle.log_formats.specs.Clocks.Hearing.{heard_view}
use Rattle.log_formats.specs.Clocks.Moments.{moment_view}
use Rattle.log_formats.specs.Clocks.Saying.{with_receives}
use Rattle.log_formats.proofs.clocks.saying.add_receives.Given as goal

abbrev pub invariant-loop-heard : goal.invariant-loop-heard
invariant-loop-heard l =
    with_receives (map moment_view l.moments) (moment_view l.moment) (map heard_view (drop l.heard-index l.received)) (read_view l.read)
    ≡ with_receives (map moment_view l.moments) (moment_view l.moment) (map heard_view l.received) (read_view l.initial.read)
