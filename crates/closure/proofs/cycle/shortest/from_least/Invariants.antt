use Rattle.std.proofs.Common.{◌≡◌, ◌++◌, take, drop}
use Rattle.closure.proofs.cycle.shortest.from_least.Given as goal

abbrev pub invariant-loop-link : goal.invariant-loop-link
invariant-loop-link l = l.rotated.items ≡ take l.link-index (drop l.least l.links)

abbrev pub invariant-loop-link-2 : goal.invariant-loop-link-2
invariant-loop-link-2 l = l.rotated.items ≡ drop l.least l.links ++ take l.link-index (take l.least l.links)
