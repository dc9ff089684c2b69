use Rattle.std.proofs.Common.{length, subst}
use Rattle.log_chart.specs.Cycles.Searching.{HasReached}
use Rattle.log_chart.proofs.CyclesLemmas.SearchLemmas.{top_within, send_within, followed}
use Rattle.log_chart.proofs.cycles.past.Past.follow.Goals as goal

pub reach-requires : goal.reach-requires
reach-requires c = rw c.above.ensures (top_within c.args.sources.now.above.items c.args.sources.now.sends.items c.args.number (length c.args.self.now.seen.items) c.requires)

pub reach-requires-2 : goal.reach-requires-2
reach-requires-2 c = rw (c.send.ensures, c.in_ok-reach.ensures.whole) (send_within c.args.sources.now.above.items c.args.sources.now.sends.items c.args.number (length c.args.self.now.seen.items) c.requires)

pub returns : goal.returns
returns c =
    let tops = c.args.sources.now.above.items in
    let sends = c.args.sources.now.sends.items in
    let seen = c.args.self.now.seen.items in
    let stack = c.args.self.now.stack.items in
    let seen₁ = c.reach.new.self.seen.items in
    let stack₁ = c.reach.new.self.stack.items in
    let seen₂ = c.reach-2.new.self.seen.items in
    let stack₂ = c.reach-2.new.self.stack.items in
    followed tops sends c.args.number seen seen₁ seen₂ stack stack₁ stack₂ (subst (λ t. HasReached t seen stack seen₁ stack₁) c.above.ensures c.in_ok-reach.ensures)
    (subst (λ t. HasReached t seen₁ stack₁ seen₂ stack₂) c.send.ensures c.in_ok-reach-2.ensures)
