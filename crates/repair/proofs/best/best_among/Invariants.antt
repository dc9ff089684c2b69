use Rattle.repair.specs.Best.{IsBestSo}
use Rattle.repair.proofs.best.best_among.Given as goal

abbrev pub invariant-loop-pair : goal.invariant-loop-pair
invariant-loop-pair l = IsBestSo l.counted l.closure l.name l.pairs l.pair-index l.best
