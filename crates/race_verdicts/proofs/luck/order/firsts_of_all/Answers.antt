use Rattle.std.proofs.Common.{◌∙◌, suc, ap, subst, ◌+◌}
use Rattle.std.proofs.lemmas.List.{length_push}
use Rattle.race_verdicts.specs.Luck.Marking.{AreFirsts}
use Rattle.race_verdicts.proofs.LuckLemmas.OrderLemmas.{firsts_more}
use Rattle.race_verdicts.proofs.luck.order.firsts_of_all.Goals as goal

pub loop-place-preserved : goal.loop-place-preserved
loop-place-preserved c =
    let lines = c.args.lines.now in
    let more = c.in_ok-firsts_of.field-0 in
    let new : AreFirsts lines (suc c.loop-place.place) more = subst (λ h. AreFirsts lines h more) c.at_place-host.ensures c.in_ok-firsts_of.ensures in
    rw c.in_ok-push.ensures.items record {
      whole = length_push c.loop-place.tables.items more ∙ ap (λ n. n + 1) c.loop-place.invariant.whole;
      each = firsts_more lines c.loop-place.place c.loop-place.tables.items more c.loop-place.invariant.whole c.loop-place.invariant.each new;
    }
