use Rattle.std.proofs.Common.{map}
use Rattle.board.specs.Gathering.{left_view, closed_view}
use Rattle.board.specs.LongRuns.CarriedHistories.{WereLeft}
use Rattle.test_runtime.proofs.long_runs.wild.a_hundred_boards.Given as goal

abbrev pub invariant-loop : goal.invariant-loop
invariant-loop g l = WereLeft 4 2 (map left_view l.left.items) (map closed_view l.closed.items)
