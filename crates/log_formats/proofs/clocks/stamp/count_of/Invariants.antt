use Rattle.std.proofs.Common.{◌≡◌, drop, map}
use Rattle.log_formats.specs.Clocks.Stamps.{stamp_view, count_of}
use Rattle.log_formats.proofs.clocks.stamp.count_of.Given as goal

abbrev pub invariant-loop-stamp : goal.invariant-loop-stamp
invariant-loop-stamp l = count_of (map stamp_view (drop l.stamp-index l.stamps)) l.host ≡ count_of (map stamp_view l.stamps) l.host
