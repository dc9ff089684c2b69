use Rattle.std.proofs.Common.{ap}
use Rattle.texts.specs.Faults.{in_line}
use Rattle.schedule.proofs.Adding.{lone_keyword}
use Rattle.schedule.proofs.first_lines.names_in.Goals as goal

pub returns-in_default : goal.returns-in_default
returns-in_default c = rw c.fault_at.ensures (ap (in_line 1) (lone_keyword _ _ (rw c.in_default.is at c.next_word.ensures.words)))
