use Rattle.std.proofs.Common.{suc, arith}
use Rattle.closure.proofs.ReportLemmas.{HaveReported-send, HaveReported-line}
use Rattle.closure.proofs.reporting.next_on.Goals as goal

pub loop-place-preserved : goal.loop-place-preserved
loop-place-preserved c = (omega (arith, c.loop-place.invariant.0), λ reports had. HaveReported-send c.args.linked.now c.args.line c.loop-place.place reports (c.loop-place.invariant.1 reports had) (suc c.in_default.field-0, c.in_default.ensures.partner.1))

pub returns-clause-reported : goal.returns-clause-reported
returns-clause-reported c reports had = HaveReported-line c.args.linked.now c.args.line c.loop-place.place reports c.len_of-place-end.ensures.chart.numbered c.requires.line (omega (arith, c.len_of-place-end.ensures.value)) (c.loop-place.invariant.1 reports had)
