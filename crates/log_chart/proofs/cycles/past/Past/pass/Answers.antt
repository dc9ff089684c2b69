use Rattle.std.proofs.Common.{◌≡◌, ◌∙◌, [], arith, rules}
use Rattle.log_chart.proofs.CyclesLemmas.SearchLemmas.{search_begins, search_goes, search_ends, popped_less}
use Rattle.log_chart.proofs.cycles.past.Past.pass.Goals as goal

pub follow-requires : goal.follow-requires
follow-requires c = λ a d. c.requires.within a c.args.number d

pub follow-requires-in-Some : goal.follow-requires-in-Some
follow-requires-in-Some c = λ a d. let inside = c.requires.within a c.in-Some.next d in omega (arith, inside, c.lines.invariant.whole)

pub lines-init : goal.lines-init
lines-init c = record {
  whole = c.in_ok-follow.ensures.whole;
  search = search_begins c.args.sources.now.above.items c.args.sources.now.sends.items c.args.number _ _ _ _ c.requires.stack c.requires.closed c.requires.before c.in_ok-follow.ensures;
}

pub lines-preserved : goal.lines-preserved
lines-preserved c = record {
  whole = c.in_ok-follow-2.ensures.whole ∙ c.lines.invariant.whole;
  search =
      search_goes c.args.sources.now.above.items c.args.sources.now.sends.items c.args.number c.in-Some.next _ _ c.lines.self.stack.items c.pop.new.self.items _ c.in-Some.ensures.items
      c.lines.invariant.search c.in_ok-follow-2.ensures;
}

pub lines-smaller : goal.lines-smaller
lines-smaller c =
    popped_less c.in-Some.next c.lines.self.seen.items c.follow-in-Some.new.self.seen.items c.lines.self.stack.items c.pop.new.self.items c.follow-in-Some.new.self.stack.items c.in-Some.ensures.items
    c.in_ok-follow-2.ensures.less

pub returns-clause-past : goal.returns-clause-past
returns-clause-past c =
    let empty : c.lines.self.stack.items ≡ [] = search rules in
    search_ends c.args.sources.now.above.items c.args.sources.now.sends.items c.args.number c.lines.self.seen.items c.lines.self.stack.items empty c.lines.invariant.search
