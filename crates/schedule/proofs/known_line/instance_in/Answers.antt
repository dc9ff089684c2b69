use Rattle.std.proofs.Common.{Ok, ap, ◌∙◌}
use Rattle.schedule.proofs.KnownLines.{is_instance}
use Rattle.schedule.proofs.known_line.instance_in.Goals as goal

pub returns-in-Ok-Ok : goal.returns-in-Ok-Ok
returns-in-Ok-Ok c = is_instance c.args.names.now c.args.word.now c.instance.result c.in-Ok-Ok.instance c.instance.ensures (c.in-Ok-Ok.is ∙ ap Ok c.in-Ok-Ok.field-0-is)
