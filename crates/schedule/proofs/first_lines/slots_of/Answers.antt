use Rattle.std.proofs.Common.{sym, rules}
use Rattle.schedule.proofs.Numbers.{long_number}
use Rattle.schedule.proofs.first_lines.slots_of.Goals as goal

pub returns-in-len3-up : goal.returns-in-len3-up
returns-in-len3-up c = sym (long_number c.args.digits.now (search rules) c.in-len3-up.len_at_least)
