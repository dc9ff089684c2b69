use Rattle.std.proofs.Common.{false, refl, sym, ◌∙◌, subst, length}
use Rattle.std.proofs.lemmas.List.{get_or_default}
use Rattle.log_chart.specs.FateTables.{IsWithin}
use Rattle.log_chart.proofs.CyclesLemmas.SearchLemmas.{reached_new}
use Rattle.log_chart.proofs.cycles.past.Past.reach.Goals as goal

pub returns-in_ok-push : goal.returns-in_ok-push
returns-in_ok-push c =
    let seen = c.args.self.now.seen.items in
    let within = subst (IsWithin (length seen)) c.in-Some.is c.requires in
    rw c.in-Some.is
    (reached_new seen c.args.self.now.stack.items c.in-Some.number _ _ within (get_or_default seen c.in-Some.number false c.index.result.now within ∙ sym c.index.ensures ∙ c.if-not-index.true) refl c.in_ok-push.ensures.items)
