use Rattle.std.proofs.Common.{List, map, sym, ap, subst₂}
use Rattle.board.specs.declared.gathering.Left.{Left}
use Rattle.board.specs.declared.gathering.ClosedLane.{ClosedLane}
use Rattle.board.specs.Gathering.{left_view, closed_view}
use Rattle.board.specs.LongRuns.CarriedHistories.{WereLeft}
use Rattle.board.proofs.LongRunsLemmas.CarriedOver.{first_left}
use Rattle.test_runtime.proofs.long_runs.boards.nothing_left.Goals as goal

pub returns : goal.returns
returns c = λ n k. subst₂ (λ (ls : List Left) (cs : List ClosedLane). WereLeft n k (map left_view ls) (map closed_view cs)) (sym c.new.ensures.items) (sym c.new-2.ensures.items) (first_left n k)
