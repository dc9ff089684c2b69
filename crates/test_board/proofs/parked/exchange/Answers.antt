use Rattle.std.proofs.Common.{arith}
use Rattle.std.proofs.lemmas.List.{length-set}
use Rattle.board.proofs.AtBoard.{at_index, at_put}
use Rattle.test_board.proofs.parked.exchange.Goals as goal

pub sends_parked-requires : goal.sends_parked-requires
sends_parked-requires g c = at_index _ _ c.args.parked.now 0 _ c.requires (omega arith)

pub gets_parked-requires : goal.gets_parked-requires
gets_parked-requires g c = at_index _ _ _ 1 _ (at_put _ _ c.args.parked.now 0 c.sends_parked.new.post c.requires c.sends_parked.ensures) (omega (arith, length-set c.args.parked.now 0 c.sends_parked.new.post))
