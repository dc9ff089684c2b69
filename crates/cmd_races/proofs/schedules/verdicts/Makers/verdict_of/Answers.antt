use Rattle.std.proofs.Common.{ℕ, List, sym, ap, ◌∙◌, subst}
use Rattle.chart.specs.Charts.{chart_lines, IsSendTo}
use Rattle.chart.specs.Events.{ith}
use Rattle.chart.specs.declared.event.Event.{Event}
use Rattle.closure.specs.Faults.{place_of}
use Rattle.cmd_races.specs.Schedules.Makers.{RunView}
use Rattle.cmd_races.proofs.SchedulesLemmas.BehindLemmas.{is_sent}
use Rattle.cmd_races.proofs.schedules.verdicts.Makers.verdict_of.Goals as goal

pub returns : goal.returns
returns c =
    let e = c.args.earlier.now in
    let line = ap (λ (l : List Event). ith l e.index) (sym c.events_of-line.ensures.events) ∙ sym c.event_at.ensures ∙ c.in-Some.is in
    subst (λ (v : RunView). (q : ℕ) × IsSendTo (chart_lines v.lines) q (place_of e)) c.self.view_is
    (is_sent (chart_lines c.self.inside.lines.now) (place_of e) c.in-Some.event line (sym c.is_receive.ensures ∙ c.if-is_receive.false))
