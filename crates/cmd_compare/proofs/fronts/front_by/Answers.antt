use Rattle.std.proofs.Common.{sym, ◌∙◌}
use Rattle.cmd_compare.proofs.FrontLemmas.{front_of_first}
use Rattle.cmd_compare.proofs.fronts.front_by.Goals as goal

pub returns-in-len1-up : goal.returns-in-len1-up
returns-in-len1-up c =
    c.saturating_sub-in-len1-up.ensures ∙ sym (front_of_first c.args.receive.now c.args.earlier.now c.first-item.result c.in-len1-up.len_at_least c.first-item.is c.requires)
