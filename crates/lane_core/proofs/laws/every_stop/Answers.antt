use Rattle.lane_core.proofs.IndexLaws as Index
use Rattle.lane_core.proofs.FlagLaws as Slot
use Rattle.lane_core.proofs.laws.every_stop.Goals as goal

pub returns-clause-index_receiver : goal.returns-clause-index_receiver
returns-clause-index_receiver g c = Index.receiver_goes_on

pub returns-clause-index_sender : goal.returns-clause-index_sender
returns-clause-index_sender g c = Index.sender_goes_on

pub returns-clause-slot_receiver : goal.returns-clause-slot_receiver
returns-clause-slot_receiver g c = Slot.receiver_goes_on

pub returns-clause-slot_sender : goal.returns-clause-slot_sender
returns-clause-slot_sender g c = Slot.sender_goes_on
