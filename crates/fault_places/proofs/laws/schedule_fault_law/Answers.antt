use Rattle.fault_places.proofs.ScheduleTexts.{schedule_fault_law}
use Rattle.fault_places.proofs.laws.schedule_fault_law.Goals as goal

pub returns : goal.returns
returns c = schedule_fault_law
