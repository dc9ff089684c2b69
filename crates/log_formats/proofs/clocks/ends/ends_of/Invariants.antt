use Rattle.std.proofs.Common.{map, take}
use Rattle.log_formats.specs.Clocks.Ends.{AreEnds}
use Rattle.log_formats.specs.Clocks.Hearing.{heard_view}
use Rattle.log_formats.proofs.clocks.ends.ends_of.Given as goal

abbrev pub invariant-loop-heard : goal.invariant-loop-heard
invariant-loop-heard l = AreEnds l.end l.count (map heard_view (take l.heard-index l.all)) (map (λ list. map heard_view list.items) l.lists.items)
