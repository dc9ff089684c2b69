use Rattle.std.proofs.Common.{sym, ◌∙◌, ap, subst, length}
use Rattle.std.specs.Prelude.{is_some, not}
use Rattle.log_chart.specs.FateTables.{IsWithin}
use Rattle.race_verdicts.proofs.LuckLemmas.MarkLemmas.{reached_marked}
use Rattle.race_verdicts.proofs.luck.marks.Marks.reach.Goals as goal

pub returns-in_ok-push-clause-reached : goal.returns-in_ok-push-clause-reached
returns-in_ok-push-clause-reached c =
    let marks = c.args.self.now.marks in
    let within = subst (IsWithin (length marks)) c.in-Some.is c.requires in
    rw c.in-Some.is
    (reached_marked marks c.args.self.now.stack.items _ c.in-Some.number c.args.mark _ within (ap is_some (sym c.at.ensures) ∙ c.is_none.ensures ∙ ap not c.if-is_none.true) c.set.ensures c.in_ok-push.ensures.items)
