use Rattle.std.proofs.Common.{◌≡◌, ◌+◌, suc, sym, subst, arith, List, Option}
use Rattle.std.proofs.lemmas.List.{with_items_is}
use Rattle.chart.specs.declared.instance.EventNo.{EventNo}
use Rattle.chart_layout.specs.Ends.{IsPart}
use Rattle.chart_layout.proofs.EndLemmas.{AreEnds-from_part}
use Rattle.chart_layout.proofs.ends.Ends.of.Goals as goal

pub loop-line-preserved : goal.loop-line-preserved
loop-line-preserved c =
    let back = with_items_is c.loop-line.lines c.add_line.new.lines (omega (arith, c.add_line.ensures.many, c.loop-line.invariant.many, c.loop-line.lines.ok.0)) in
    let more : c.loop-line.line + 1 ≡ suc c.loop-line.line = omega arith in
    subst (λ (ends : List (List (Option EventNo))). IsPart c.args.closure.now ends (c.loop-line.line + 1) 0) (sym back)
    (subst (λ p. IsPart c.args.closure.now c.add_line.new.lines p 0) (sym more) c.add_line.ensures)

pub returns : goal.returns
returns c =
    AreEnds-from_part c.args.closure.now c.loop-line.lines.items c.loop-line.line 0 (omega (arith, c.loop-line-test.false, c.len-line-end.ensures.value)) c.loop-line.invariant
