use Rattle.repair.proofs.Mended.{can_inform, no_fault_informed, no_cycle_informed, belongs_informed, before_informed}
use Rattle.repair.proofs.laws.informing_law.Goals as goal

pub returns-clause-informing : goal.returns-clause-informing
returns-clause-informing _ = λ n c d e r s k name old race b ends can w. (
  no_fault_informed n c d e r s k name old race b ends can w,
  no_cycle_informed n c d e r s k name old race b ends can w,
  belongs_informed n c d e r s k name old race b ends can w,
  before_informed n c d e r s k name old race b ends can w,
)

pub returns-clause-none : goal.returns-clause-none
returns-clause-none _ = λ n c e r s k old race b ends not m d from to w new mine before. not (can_inform n c e r s k old race b ends m d from to w new mine before)
