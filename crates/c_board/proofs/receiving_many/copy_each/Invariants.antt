use Rattle.std.proofs.Common.{◌≡◌, ◌++◌, map, take, drop}
use Rattle.c_board.specs.Receiving.{arrived_of}
use Rattle.c_board.proofs.receiving_many.copy_each.Given as goal

abbrev pub invariant-loop-place : goal.invariant-loop-place
invariant-loop-place l = l.output ≡ take l.place (map arrived_of l.initial.arrivals) ++ drop l.place l.initial.output
