use Rattle.std.proofs.Common.{[], ◌∷◌, subst, arith}
use Rattle.cmd_mend.specs.declared.brief.Shown.{Shown}
use Rattle.cmd_mend.specs.Brief.{shown_as, Shows}
use Rattle.cmd_mend.proofs.BriefLemmas.{ranges_next, ranges_end}
use Rattle.cmd_mend.proofs.brief.add_ranges.Goals as goal

pub loop-range-preserved : goal.loop-range-preserved
loop-range-preserved c =
    let one = subst (λ (x : Shown). Shows c.loop-range.shown.items c.add_one.new.shown.items (x ∷ [])) c.shown_as.ensures c.in_ok-add_one.ensures in
    ranges_next (shown_as c.args.fate c.args.receive.now) c.args.shown.now.items c.loop-range.shown.items c.add_one.new.shown.items c.args.ranges.now c.loop-range.range-index c.range-item.result c.loop-range-test.true c.range-item.is c.loop-range.invariant one

pub returns : goal.returns
returns c = ranges_end (shown_as c.args.fate c.args.receive.now) c.args.shown.now.items c.loop-range.shown.items c.args.ranges.now c.loop-range.range-index (omega (arith, c.loop-range-test.false)) c.loop-range.invariant
