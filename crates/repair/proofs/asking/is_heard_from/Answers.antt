use Rattle.std.proofs.Common.{ap, ◌∙◌, subst}
use Rattle.chart.specs.Events.{is_receive_from}
use Rattle.chart.specs.Charts.{chart_lines}
use Rattle.closure.specs.Faults.{place_of}
use Rattle.repair.specs.Crossings.{IsLastIn}
use Rattle.repair.proofs.HeardLemmas.{informs_from, if_ok}
use Rattle.repair.proofs.asking.is_heard_from.Goals as goal

pub returns-in-Some : goal.returns-in-Some
returns-in-Some c =
    let d = chart_lines c.args.closure.now in
    let s = place_of c.args.send.now in
    let p = c.args.stretch.now.instance in
    let low = c.args.stretch.now.low in
    let high = c.args.stretch.now.high in
    let line = c.events_of-events.ensures.events ∙ ap (λ l. chart_lines l p) c.lines.ensures in
    let last = subst (λ l. IsLastIn (is_receive_from c.args.sender) l low high c.in-Some.index) line c.in-Some.ensures in
    if_ok c.is_heard_at.result _ _ (λ heard informs. informs_from d s p low high c.args.sender c.in-Some.index heard last informs) c.is_heard_at.ensures
