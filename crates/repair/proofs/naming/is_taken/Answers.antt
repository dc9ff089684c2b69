use Rattle.std.proofs.Common.{◌∙◌, sym}
use Rattle.repair.proofs.NameLemmas.{taken_is}
use Rattle.repair.proofs.naming.is_taken.Goals as goal

pub returns : goal.returns
returns c = c.has_name.ensures ∙ sym (taken_is c.args.name.now c.args.lines.now)
