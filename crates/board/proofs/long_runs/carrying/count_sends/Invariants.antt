use Rattle.std.proofs.Common.{◌≡◌, map, take}
use Rattle.board.specs.Gathering.{left_view}
use Rattle.board.specs.LongRuns.CarriedHistories.{sent_again_by}
use Rattle.board.proofs.long_runs.carrying.count_sends.Given as goal

abbrev pub invariant-loop-lane : goal.invariant-loop-lane
invariant-loop-lane l = l.sends ≡ sent_again_by l.sender (map left_view (take l.lane-index l.left))
