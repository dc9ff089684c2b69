use Rattle.std.proofs.Common.{◌≡◌, List, [], drop, map}
use Rattle.log_formats.specs.Clocks.Hearing.{heard_view, with_grown}
use Rattle.log_formats.specs.Clocks.Moments.{MomentView, moment_view}
use Rattle.log_formats.specs.Clocks.Stamps.{stamp_view}
use Rattle.log_formats.specs.Clocks.Tables.{ArePlaces, stamps_at}
use Rattle.log_formats.proofs.clocks.heard.grown_since.Given as goal

abbrev pub invariant-loop-stamp : goal.invariant-loop-stamp
invariant-loop-stamp l =
    (all : List MomentView) → ArePlaces all l.places.entries
    → with_grown all l.at (moment_view l.moment) (stamps_at (map moment_view l.moments) l.before) (map heard_view l.found.items) (map stamp_view (drop l.stamp-index l.stamp-items))
    ≡ with_grown all l.at (moment_view l.moment) (stamps_at (map moment_view l.moments) l.before) [] (map stamp_view l.stamp-items)
