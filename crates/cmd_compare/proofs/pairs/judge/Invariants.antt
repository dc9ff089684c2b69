use Rattle.std.proofs.Common.{◌≡◌, map, take}
use Rattle.cmd_compare.specs.Pairs.{judged}
use Rattle.cmd_compare.proofs.pairs.judge.Given as goal

abbrev pub invariant-loop-pair : goal.invariant-loop-pair
invariant-loop-pair l = l.differences.items ≡ map (judged l.instance l.here.events.now l.here.fronts.now l.there.events.now l.there.fronts.now) (take l.pair-index l.pairs)
