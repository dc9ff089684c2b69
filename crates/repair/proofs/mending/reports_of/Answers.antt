use Rattle.std.proofs.Common.{inl, inr, subst}
use Rattle.chart.specs.Charts.{chart_lines}
use Rattle.closure.specs.Faults.{place_of, Refuses}
use Rattle.repair.proofs.mending.reports_of.Goals as goal

pub unreachable-requires : goal.unreachable-requires
unreachable-requires c =
    let refused = subst (Refuses (chart_lines c.args.chart.now)) c.in-Err-ReceiveWithoutSend.field-0-is c.in-Err-ReceiveWithoutSend.ensures.refused in
    c.requires.faultless (place_of c.in-Err-ReceiveWithoutSend.field-0-0) (inl refused.0)

pub unreachable-requires-in-Err-NameMismatch : goal.unreachable-requires-in-Err-NameMismatch
unreachable-requires-in-Err-NameMismatch c =
    let refused = subst (Refuses (chart_lines c.args.chart.now)) c.in-Err-NameMismatch.field-0-is c.in-Err-NameMismatch.ensures.refused in
    c.requires.faultless (place_of c.in-Err-NameMismatch.field-0-0) (inr refused.0)
