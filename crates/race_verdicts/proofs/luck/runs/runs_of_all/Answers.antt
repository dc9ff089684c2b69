use Rattle.std.proofs.Common.{◌≡◌, ◌∙◌, ◌+◌, List, [], get_or, ap, subst}
use Rattle.std.proofs.lemmas.List.{length_push, get_or_default}
use Rattle.log_chart.specs.declared.item.Item.{Item}
use Rattle.race_verdicts.specs.Luck.Runs.{HaveRuns}
use Rattle.race_verdicts.proofs.LuckLemmas.RunLemmas.{hosts_more}
use Rattle.race_verdicts.proofs.luck.runs.runs_of_all.Goals as goal

pub loop-place-preserved : goal.loop-place-preserved
loop-place-preserved c =
    let hosts = c.args.hosts.now in
    let place = c.loop-place.place in
    let tables = c.loop-place.tables.items in
    let more = c.in_ok-runs_of.field-0 in
    let items : c.as_slice.result.now ≡ get_or hosts place [] =
    c.as_slice.ensures ∙ c.index-hosts-place.is ∙ get_or_default hosts place c.index-hosts-place.result [] c.loop-place-test.true in
    let new = subst (λ (l : List Item). HaveRuns l more 0) items c.in_ok-runs_of.ensures in
    rw c.in_ok-push.ensures.items record {
      whole = length_push tables more ∙ ap (λ n. n + 1) c.loop-place.invariant.whole;
      each = hosts_more hosts place tables more c.loop-place.invariant.whole c.loop-place.invariant.each new;
    }
