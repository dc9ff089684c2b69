use Rattle.std.proofs.Common.{◌≡◌, [], map, arith, rules}
use Rattle.std.specs.Prelude.{is_some}
use Rattle.log_chart.proofs.CyclesLemmas.SearchLemmas.{search_begins, search_goes, search_ends, popped_less}
use Rattle.race_verdicts.proofs.LuckLemmas.MarkLemmas.{marked_then}
use Rattle.race_verdicts.proofs.luck.marks.Marks.pass.Goals as goal

pub follow-requires : goal.follow-requires
follow-requires c = λ a d. c.requires.within a c.args.send d

pub follow-requires-in-Some : goal.follow-requires-in-Some
follow-requires-in-Some c = λ a d. let inside = c.requires.within a c.in-Some.next d in omega (arith, inside, c.lines.invariant.marked.whole)

pub lines-init : goal.lines-init
lines-init c = record {
  search = search_begins c.args.sources.now.above.items c.args.sources.now.sends.items c.args.send _ _ _ _ c.requires.stack c.requires.closed c.requires.before c.in_ok-follow.ensures.followed;
  marked = c.in_ok-follow.ensures.marked;
}

pub lines-preserved : goal.lines-preserved
lines-preserved c = record {
  search =
      search_goes c.args.sources.now.above.items c.args.sources.now.sends.items c.args.send c.in-Some.next _ _ c.lines.self.stack.items c.pop.new.self.items _ c.in-Some.ensures.items
      c.lines.invariant.search c.in_ok-follow-2.ensures.followed;
  marked = marked_then c.args.send _ _ _ c.lines.invariant.marked c.in_ok-follow-2.ensures.marked;
}

pub lines-smaller : goal.lines-smaller
lines-smaller c =
    popped_less c.in-Some.next (map is_some c.lines.self.marks) (map is_some c.follow-in-Some.new.self.marks) c.lines.self.stack.items c.pop.new.self.items c.follow-in-Some.new.self.stack.items
    c.in-Some.ensures.items c.in_ok-follow-2.ensures.followed.less

pub returns-clause-past : goal.returns-clause-past
returns-clause-past c =
    let empty : c.lines.self.stack.items ≡ [] = search rules in
    search_ends c.args.sources.now.above.items c.args.sources.now.sends.items c.args.send (map is_some c.lines.self.marks) c.lines.self.stack.items empty c.lines.invariant.search
