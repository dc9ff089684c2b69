use Rattle.board_table.proofs.SlotMasks.{masked}
use Rattle.board_table.proofs.lane.slot_in_turn.Goals as goal

pub returns-then-capacity-eq0 : goal.returns-then-capacity-eq0
returns-then-capacity-eq0 c = masked c.args.capacity c.args.count c.requires c.if-capacity-eq0.true
