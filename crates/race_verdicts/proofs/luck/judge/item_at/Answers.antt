use Rattle.std.proofs.Common.{◌≡◌, ◌-◌, ◌∙◌, subst, List, get_or}
use Rattle.closure.proofs.ReadLemmas.{ith_read}
use Rattle.log_chart.specs.declared.item.Item.{Item}
use Rattle.race_verdicts.specs.Luck.Places.{host_items}
use Rattle.race_verdicts.proofs.LuckLemmas.ItemLemmas.{hosts_read}
use Rattle.race_verdicts.proofs.luck.judge.item_at.Goals as goal

pub returns : goal.returns
returns c =
    let hosts = c.args.hosts.now in
    let same : c.as_slice-items.result.now ≡ host_items hosts c.args.event.now.instance =
    c.as_slice-items.ensures ∙ hosts_read hosts c.args.event.now.instance c.place.result c.index-hosts-place.result c.place.ensures.value c.args.event.now.index c.requires.begun c.requires.within c.index-hosts-place.is in
    ith_read (host_items hosts c.args.event.now.instance) c.args.event.now.index c.index-items-event.result c.requires.begun c.requires.within
    (subst (λ (l : List Item). c.index-items-event.result ≡ get_or l (c.args.event.now.index - 1) c.index-items-event.result) same c.index-items-event.is)
