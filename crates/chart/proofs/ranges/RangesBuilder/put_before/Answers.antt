use Rattle.std.proofs.Common.{◌∙◌, ◌++◌, ◌∷◌, [], ap, sym, arith}
use Rattle.chart.specs.Ranges.{events_of}
use Rattle.chart.proofs.RangeLists.{joined_last, apart_last, none_last, AreRanges-put, events_in-put}
use Rattle.chart.proofs.ranges.RangesBuilder.put_before.Goals as goal

pub invariant_of-self : goal.invariant_of-self
invariant_of-self c =
    AreRanges-put c.args.range c.self.inside.backwards.items c.push_reserved.new.self.items c.requires c.self.invariant
    (joined_last c.args.range c.in-Some.next c.self.inside.backwards.items c.pop.new.self.items c.push_reserved.new.self.items (sym c.is_followed_by.ensures ∙ c.if-is_followed_by.true) c.in-Some.ensures.items c.push_reserved.ensures.items)

pub returns-in-Some : goal.returns-in-Some
returns-in-Some c =
    let before =
    events_in-put c.args.range c.self.inside.backwards.items c.push_reserved.new.self.items
    (joined_last c.args.range c.in-Some.next c.self.inside.backwards.items c.pop.new.self.items c.push_reserved.new.self.items (sym c.is_followed_by.ensures ∙ c.if-is_followed_by.true) c.in-Some.ensures.items c.push_reserved.ensures.items)
    ∙ ap (λ es. events_of c.args.range ++ es) c.self.view_is in
    record { ok = before; refused = tt }

pub invariant_of-self-in-Continue-1 : goal.invariant_of-self-in-Continue-1
invariant_of-self-in-Continue-1 c =
    AreRanges-put c.args.range c.self.inside.backwards.items c.push.new.self.items c.requires c.self.invariant
    (apart_last c.args.range c.in-Some.next c.self.inside.backwards.items c.pop.new.self.items c.push.new.self.items (sym c.is_followed_by.ensures ∙ c.if-is_followed_by.false) c.in-Some.ensures.items (c.in_ok-push-in-Some-2.ensures.items ∙ ap (λ xs. xs ++ c.args.range ∷ []) c.push_reserved-in-Some-2.ensures.items))

pub invariant_of-self-in-Continue-branch-2 : goal.invariant_of-self-in-Continue-branch-2
invariant_of-self-in-Continue-branch-2 c =
    AreRanges-put c.args.range c.self.inside.backwards.items c.push-in-None.new.self.items c.requires c.self.invariant
    (none_last c.args.range c.self.inside.backwards.items c.pop.new.self.items c.push-in-None.new.self.items (omega (arith, c.in-None.ensures.cases, c.pop.new.self.ok.0)) c.in-None.ensures.items c.in_ok-push-in-None.ensures.items)
