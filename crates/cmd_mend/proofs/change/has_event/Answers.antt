use Rattle.std.proofs.Common.{◌∙◌, sym}
use Rattle.cmd_mend.proofs.RangeLemmas.{any_of}
use Rattle.cmd_mend.proofs.change.has_event.Goals as goal

pub returns : goal.returns
returns c = c.is_in_range.ensures ∙ sym (any_of c.args.instance c.args.index c.args.range.now)
