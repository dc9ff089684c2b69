use Rattle.schedule.proofs.Written.{plan_text-is}
use Rattle.schedule.proofs.schedule.Schedule.write.Goals as goal

pub returns : goal.returns
returns g c = rw (← plan_text-is c.args.self.now) c.write_lines.ensures
