use Rattle.std.proofs.Common.{ℕ, List, length, inl, sym, subst}
use Rattle.chart.specs.Charts.{chart_lines}
use Rattle.closure.specs.Chain.Pasts.{IsPast}
use Rattle.closure.specs.Faults.{place_of}
use Rattle.cmd_page.proofs.MarksLemmas.MarkLemmas.{also_is}
use Rattle.cmd_page.proofs.marks.marks.marks_of.Goals as goal

pub returns : goal.returns
returns c =
    let r = c.args.receive.now in
    let d = chart_lines c.args.closure.now in
    let before = c.in_ok-listed.field-0.items in
    let past = subst (λ (l : List ℕ). IsPast (length c.args.closure.now) d (place_of r) l) (sym c.in_ok-listed.ensures) c.in_ok-counts.ensures in
    let also = also_is c.line_of-events.result.now (d r.instance) c.count_of-count.result r.instance c.in-Some.send.instance c.saturating_sub.result r.index c.in_ok-also_before.field-0.items c.in_ok-counts.counts before
    c.in_ok-also_before.ensures c.line_of-events.ensures c.count_of-count.ensures c.in_ok-listed.ensures c.saturating_sub.ensures in
    inl (c.in-Some.send.instance, c.in-Some.ensures.received, past, also)
