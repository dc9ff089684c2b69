use Rattle.std.proofs.Common.{length, subst, map}
use Rattle.std.specs.Prelude.{is_some}
use Rattle.log_chart.specs.Cycles.Searching.{HasReached}
use Rattle.log_chart.proofs.CyclesLemmas.SearchLemmas.{top_within, send_within, followed}
use Rattle.race_verdicts.proofs.LuckLemmas.MarkLemmas.{marked_then}
use Rattle.race_verdicts.proofs.luck.marks.Marks.follow.Goals as goal

pub reach-requires : goal.reach-requires
reach-requires c = rw c.above.ensures (top_within c.args.sources.now.above.items c.args.sources.now.sends.items c.args.number (length c.args.self.now.marks) c.requires)

pub reach-requires-2 : goal.reach-requires-2
reach-requires-2 c =
    rw (c.send.ensures, c.in_ok-reach.ensures.marked.whole) (send_within c.args.sources.now.above.items c.args.sources.now.sends.items c.args.number (length c.args.self.now.marks) c.requires)

pub returns : goal.returns
returns c =
    let tops = c.args.sources.now.above.items in
    let sends = c.args.sources.now.sends.items in
    let seen = map is_some c.args.self.now.marks in
    let stack = c.args.self.now.stack.items in
    let seen₁ = map is_some c.reach.new.self.marks in
    let stack₁ = c.reach.new.self.stack.items in
    let seen₂ = map is_some c.reach-2.new.self.marks in
    let stack₂ = c.reach-2.new.self.stack.items in
    record {
      followed =
          followed tops sends c.args.number seen seen₁ seen₂ stack stack₁ stack₂ (subst (λ t. HasReached t seen stack seen₁ stack₁) c.above.ensures c.in_ok-reach.ensures.reached)
          (subst (λ t. HasReached t seen₁ stack₁ seen₂ stack₂) c.send.ensures c.in_ok-reach-2.ensures.reached);
      marked = marked_then c.args.mark _ _ _ c.in_ok-reach.ensures.marked c.in_ok-reach-2.ensures.marked;
    }
