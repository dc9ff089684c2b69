use Rattle.std.proofs.Common.{◌≡◌, drop, map}
use Rattle.log_lines.specs.Reading.{read_view}
use Rattle.log_formats.specs.Clocks.Hearing.{heard_view}
use Rattle.log_formats.specs.Clocks.Moments.{moment_view}
use Rattle.log_formats.specs.Clocks.Saying.{with_sends}
use Rattle.log_formats.proofs.clocks.saying.add_sends.Given as goal

abbrev pub invariant-loop-heard : goal.invariant-loop-heard
invariant-loop-heard l =
    with_sends (moment_view l.moment) (map heard_view (drop l.heard-index l.sent)) (read_view l.read)
    ≡ with_sends (moment_view l.moment) (map heard_view l.sent) (read_view l.initial.read)
