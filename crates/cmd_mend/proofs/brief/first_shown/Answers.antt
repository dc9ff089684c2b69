use Rattle.std.proofs.Common.{List, subst}
use Rattle.cmd_mend.specs.declared.brief.Fate.TheVariants.{Goes, Comes}
use Rattle.cmd_mend.specs.declared.brief.Shown.{Shown}
use Rattle.cmd_mend.specs.Brief.{all_shown, Shows}
use Rattle.cmd_mend.proofs.BriefLemmas.{first_of_both}
use Rattle.cmd_mend.proofs.brief.first_shown.Goals as goal

pub returns : goal.returns
returns c =
    let gone = all_shown Goes c.args.gone.now in
    let first = subst (λ (l : List Shown). Shows l c.add_reports.new.shown.items gone) c.new-shown.ensures.items c.in_ok-add_reports.ensures in
    first_of_both c.add_reports.new.shown.items c.add_reports-2.new.shown.items gone (all_shown Comes c.args.coming.now) first c.in_ok-add_reports-2.ensures
