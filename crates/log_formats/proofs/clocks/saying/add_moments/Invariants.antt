use Rattle.std.proofs.Common.{◌≡◌, List, length, drop, map}
use Rattle.log_lines.specs.Reading.{read_view}
use Rattle.log_formats.specs.Clocks.Ends.{AreEnds}
use Rattle.log_formats.specs.Clocks.Hearing.{HeardView, heard_view}
use Rattle.log_formats.specs.Clocks.Moments.{moment_view}
use Rattle.log_formats.specs.Clocks.Saying.{with_all_moments}
use Rattle.log_formats.specs.declared.clocks.ends.End.TheVariants.{Send, Receive}
use Rattle.log_formats.proofs.clocks.saying.add_moments.Given as goal

abbrev pub invariant-loop-at : goal.invariant-loop-at
invariant-loop-at l =
    (all : List HeardView) → AreEnds Receive (length l.moments) all (map (λ list. map heard_view list.items) l.received)
    → AreEnds Send (length l.moments) all (map (λ list. map heard_view list.items) l.sent)
    → with_all_moments (map moment_view l.moments) all l.at (map moment_view (drop l.at l.moments)) (read_view l.read)
    ≡ with_all_moments (map moment_view l.moments) all 0 (map moment_view l.moments) (read_view l.initial.read)
