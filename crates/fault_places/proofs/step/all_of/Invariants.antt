use Rattle.std.proofs.Common.{◌≡◌, map, take}
use Rattle.fault_places.specs.NamedCycles.{step_of}
use Rattle.fault_places.proofs.step.all_of.Given as goal

abbrev pub invariant-loop-link : goal.invariant-loop-link
invariant-loop-link l = l.steps.items ≡ map (step_of l.text l.names) (take l.link-index l.links)
