use Rattle.std.proofs.Common.{◌≡◌, [], map}
use Rattle.log_formats.specs.Clocks.Stamps.{stamp_view, with_parts}
use Rattle.log_formats.proofs.clocks.stamp.listed.Given as goal

abbrev pub invariant-loop-part : goal.invariant-loop-part
invariant-loop-part l = map stamp_view l.stamps.items ≡ with_parts [] (map (λ w. w.now) l.yielded)
