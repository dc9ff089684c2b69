use Rattle.std.proofs.Common.{◌≡◌}
use Rattle.mscview_requests.proofs.words.parts.comma_parts.Given as goal

abbrev pub invariant-loop-part : goal.invariant-loop-part
invariant-loop-part l = l.parts.items ≡ l.yielded
