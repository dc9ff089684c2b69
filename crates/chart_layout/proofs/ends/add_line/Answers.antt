use Rattle.std.proofs.Common.{suc, length, ap, arith}
use Rattle.chart.specs.Charts.{chart_lines}
use Rattle.chart_layout.proofs.EndLemmas.{IsPart-line}
use Rattle.chart_layout.proofs.ends.add_line.Goals as goal

pub returns : goal.returns
returns c =
    let same = ap (λ lines. length (chart_lines lines (suc c.args.line))) c.lines.ensures in
    IsPart-line c.args.closure.now c.loop-index.lines c.args.line c.loop-index.index (omega (arith, c.loop-index-test.false, c.len_of-index-end.ensures.value, same)) c.loop-index.invariant
