use Rattle.std.proofs.Common.{◌++◌, ap, ◌∙◌}
use Rattle.std.specs.List.{flat_map}
use Rattle.log_chart.specs.Items.{items_by, heads_in, items_of}
use Rattle.log_chart.proofs.host_line.items_of.Goals as goal

pub loop-line-init : goal.loop-line-init
unfolding items_of
loop-line-init c =
    ap (λ l. l ++ flat_map (items_by c.args.given.now c.args.host) c.args.lines.now)
    (c.in_ok-push_heads.ensures ∙ ap (λ l. l ++ heads_in c.deref.result.now c.args.hosts.now) c.new-items.ensures.items
    ∙ ap (λ h. heads_in h c.args.hosts.now) (c.deref.ensures.value ∙ c.in_ok-heads.ensures))
