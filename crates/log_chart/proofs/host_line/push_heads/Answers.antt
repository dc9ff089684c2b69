use Rattle.std.proofs.Common.{sym, ◌∙◌}
use Rattle.log_chart.proofs.BegunLemmas.{heads_more, heads_end}
use Rattle.log_chart.proofs.host_line.push_heads.Goals as goal

pub loop-receiver-preserved : goal.loop-receiver-preserved
loop-receiver-preserved c =
    heads_more c.loop-receiver.items.items c.args.heads.now c.args.hosts.now c.loop-receiver.receiver-index c.receiver-item.result c.push_heads_to.new.items.items c.loop-receiver-test.true
    c.receiver-item.is c.in_ok-push_heads_to.ensures ∙ c.loop-receiver.invariant

pub returns : goal.returns
returns c = sym (heads_end _ _ _ _ c.loop-receiver-test.false) ∙ c.loop-receiver.invariant
