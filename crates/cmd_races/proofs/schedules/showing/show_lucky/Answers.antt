use Rattle.std.proofs.Common.{ℕ, List, Err, length, sym, ap, ◌∙◌, subst, subst₂}
use Rattle.std.proofs.lemmas.Result.{err_from_is_err_and}
use Rattle.chart.specs.Charts.{LineView, IsNumbered, chart_lines}
use Rattle.chart.specs.Places.{IsEvent}
use Rattle.chart.specs.declared.instance.EventNo.{EventNo}
use Rattle.chart.proofs.HistoryLines.{lines-numbered}
use Rattle.closure.specs.Faults.{place_of}
use Rattle.cmd_base.specs.declared.columns.error.ColumnError.TheVariants.{Program}
use Rattle.cmd_races.specs.Judging.{ShowsJudged}
use Rattle.cmd_races.proofs.JudgedLemmas.{not_judged}
use Rattle.races_text.proofs.JudgedLemmas.RaceLemmas.{race_is}
use Rattle.schedule.specs.Meaning.{meaning}
use Rattle.cmd_races.specs.Schedules.Makers.{RunView}
use Rattle.cmd_races.specs.Schedules.Showing.{run_of, verdict_in, luck_alone}
use Rattle.cmd_races.proofs.schedules.showing.show_lucky.Goals as goal

pub returns-in_err-closure : goal.returns-in_err-closure
returns-in_err-closure g c =
    let p = err_from_is_err_and c.from_residual-in_err-closure.result c.from_residual-in_err-closure.ensures.1 in
    let is = verdict_in (run_of c.args.schedule.now c.args.outcome.now) in
    let old = c.args.out.now in
    let error = c.in_err-closure.field-0.0 in
    rw (p.1, p.2)
    (subst₂ (λ (ns : List (List ℕ)) (ls : List LineView). ShowsJudged g.W.Out.sink is old old (Err (Program error)) (luck_alone c.args.wanted.now) (ns, ls)) c.names-names.ensures c.chart.ensures.value
    (not_judged g.W.Out.sink is old (c.names-names.result.now, c.chart.result.now) (luck_alone c.args.wanted.now) c.in_ok-instances.instances.items c.in_ok-instances.ensures.ok error c.in_err-closure.ensures.refused))

pub show_judged-requires-clause-races : goal.show_judged-requires-clause-races
show_judged-requires-clause-races g c =
    let closure = c.in_ok-closure.closure in
    let chart = c.in_ok-closure.ensures.closure ∙ c.chart.ensures.value in
    let numbered = subst IsNumbered (sym (chart ∙ c.requires.chart)) (lines-numbered (length c.args.schedule.now.names) (meaning c.args.schedule.now).run.history) in
    let lines = ap (λ (run : RunView). run.lines) c.in_ok-makers.ensures.makers in
    λ (r e : EventNo) race. subst (λ (ls : List LineView). IsEvent (chart_lines ls) (place_of e)) (chart ∙ sym lines) (race_is closure numbered r e race).1
