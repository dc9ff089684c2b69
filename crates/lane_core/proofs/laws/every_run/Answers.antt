use Rattle.lane_core.proofs.IndexLaws as Index
use Rattle.lane_core.proofs.FlagLaws as Slot
use Rattle.lane_core.proofs.laws.every_run.Goals as goal

pub returns-clause-index_in_order : goal.returns-clause-index_in_order
returns-clause-index_in_order g c = Index.in_order

pub returns-clause-index_bounded : goal.returns-clause-index_bounded
returns-clause-index_bounded g c = Index.bounded

pub returns-clause-index_apart : goal.returns-clause-index_apart
returns-clause-index_apart g c = Index.apart

pub returns-clause-index_fills : goal.returns-clause-index_fills
returns-clause-index_fills g c = Index.fills_own

pub returns-clause-index_takes : goal.returns-clause-index_takes
returns-clause-index_takes g c = Index.takes_own

pub returns-clause-index_puts_back : goal.returns-clause-index_puts_back
returns-clause-index_puts_back g c = Index.puts_back_own

pub returns-clause-index_closed : goal.returns-clause-index_closed
returns-clause-index_closed g c = Index.nothing_after_close

pub returns-clause-index_full : goal.returns-clause-index_full
returns-clause-index_full g c = Index.full_exactly

pub returns-clause-index_message : goal.returns-clause-index_message
returns-clause-index_message g c = Index.message_exactly

pub returns-clause-index_ended : goal.returns-clause-index_ended
returns-clause-index_ended g c = Index.ended_exactly

pub returns-clause-slot_in_order : goal.returns-clause-slot_in_order
returns-clause-slot_in_order g c = Slot.in_order

pub returns-clause-slot_bounded : goal.returns-clause-slot_bounded
returns-clause-slot_bounded g c = Slot.bounded

pub returns-clause-slot_apart : goal.returns-clause-slot_apart
returns-clause-slot_apart g c = Slot.apart

pub returns-clause-slot_fills : goal.returns-clause-slot_fills
returns-clause-slot_fills g c = Slot.fills_own

pub returns-clause-slot_takes : goal.returns-clause-slot_takes
returns-clause-slot_takes g c = Slot.takes_own

pub returns-clause-slot_puts_back : goal.returns-clause-slot_puts_back
returns-clause-slot_puts_back g c = Slot.puts_back_own

pub returns-clause-slot_closed : goal.returns-clause-slot_closed
returns-clause-slot_closed g c = Slot.nothing_after_close

pub returns-clause-slot_full : goal.returns-clause-slot_full
returns-clause-slot_full g c = Slot.full_exactly

pub returns-clause-slot_message : goal.returns-clause-slot_message
returns-clause-slot_message g c = Slot.message_exactly

pub returns-clause-slot_ended : goal.returns-clause-slot_ended
returns-clause-slot_ended g c = Slot.ended_exactly
