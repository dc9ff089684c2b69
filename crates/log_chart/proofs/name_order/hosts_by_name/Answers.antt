use Rattle.std.proofs.Common.{◌≡◌, suc, insert, ap, ap₂, sym, ◌∙◌, ℕ, List, Option}
use Rattle.log_chart.specs.NameOrder.{name_of, put_by_name, host_of, by_name}
use Rattle.log_chart.specs.declared.name_order.HostName.{HostName}
use Rattle.log_chart.proofs.NameOrderLemmas.{by_name_more}
use Rattle.log_chart.proofs.name_order.hosts_by_name.Goals as goal

pub loop-place-init : goal.loop-place-init
unfolding by_name
loop-place-init c = c.new-hosts.ensures.items

pub loop-place-preserved : goal.loop-place-preserved
loop-place-preserved c =
    let x : HostName = record { host = c.at_place-host.result; name = c.name_of.result } in
    let its : x ≡ host_of c.args.log.now (suc c.loop-place.place) =
    ap₂ (λ (p : ℕ) (n : Option (List ℕ)). record { host = p; name = n }) c.at_place-host.ensures (c.name_of.ensures ∙ ap (name_of c.args.log.now) c.at_place-host.ensures) in
    c.in_ok-insert.ensures.items
    ∙ ap (λ l. insert l c.place_for-place.result x) (sym c.deref.ensures.value)
    ∙ c.place_for-place.ensures.put
    ∙ ap (λ l. put_by_name l x) (c.deref.ensures.value ∙ c.loop-place.invariant)
    ∙ by_name_more c.loop-place.place c.args.log.now x its
