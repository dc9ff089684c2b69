use Rattle.std.proofs.Common.{◌≡◌, ◌∙◌, ap, length, [], get_or}
use Rattle.std.proofs.lemmas.List.{length-set, get_or_default}
use Rattle.race_verdicts.proofs.LuckLemmas.InventionLemmas.{invented_more}
use Rattle.race_verdicts.proofs.luck.invented.invented_of.Goals as goal

pub loop-place-preserved : goal.loop-place-preserved
loop-place-preserved c =
    let hosts = c.args.hosts.now in
    let place = c.loop-place.place in
    let old = c.loop-place.invented in
    let first = c.first_invented.result in
    let items : c.as_slice.result.now ≡ get_or hosts place [] =
    c.as_slice.ensures ∙ c.index-hosts-place.is ∙ get_or_default hosts place c.index-hosts-place.result [] c.loop-place-test.true in
    record {
      whole = ap length c.set.ensures ∙ length-set old place first ∙ c.loop-place.invariant.whole;
      each =
          invented_more hosts place old c.set.new.self c.as_slice.result.now first c.loop-place-test.true items c.loop-place.invariant.whole c.set.ensures c.first_invented.ensures
          c.loop-place.invariant.each;
    }
