use Rattle.std.proofs.Common.{ℕ, List, length, sym, ap, subst}
use Rattle.std.proofs.lemmas.Result.{err_from_is_err_and}
use Rattle.chart.specs.Charts.{LineView, IsNumbered, IsPossible, IsReceiveFrom, chart_lines}
use Rattle.chart.specs.Places.{IsEvent}
use Rattle.closure.specs.Faults.{place_of}
use Rattle.chart.specs.declared.instance.EventNo.{EventNo}
use Rattle.race_verdicts.specs.Luck.Recorded.{IsRecording, JudgeView}
use Rattle.cmd_races.specs.Judging.{ShowsJudged}
use Rattle.races_text.proofs.JudgedLemmas.RaceLemmas.{race_is}
use Rattle.cmd_import_log.specs.Recording.{lent_of}
use Rattle.races_text.specs.Judged.LogVerdicts.{verdict_in}
use Rattle.cmd_races.proofs.JudgedLemmas.{unnamed, not_judged}
use Rattle.cmd_races.proofs.logs.known.show_known.Goals as goal

pub returns-in_err-instances : goal.returns-in_err-instances
returns-in_err-instances g c =
    let d = c.args.recording.now.imported in
    let p = err_from_is_err_and c.from_residual.result c.from_residual.ensures.1 in
    rw (p.1, p.2) (unnamed g.W.Out.sink (verdict_in d.chart (lent_of c.args.recording.now)) c.args.out.now (d.diagnostics.names, d.chart) c.args.wanted.now c.in_err-instances.field-0.0 c.in_err-instances.ensures.err)

pub returns-in_err-closure : goal.returns-in_err-closure
returns-in_err-closure g c =
    let d = c.args.recording.now.imported in
    let p = err_from_is_err_and c.from_residual-in_err-closure.result c.from_residual-in_err-closure.ensures.1 in
    rw (p.1, p.2) (not_judged g.W.Out.sink (verdict_in d.chart (lent_of c.args.recording.now)) c.args.out.now (d.diagnostics.names, d.chart) c.args.wanted.now c.in_ok-instances.instances.items
    c.in_ok-instances.ensures.ok c.in_err-closure.field-0.0 c.in_err-closure.ensures.refused)

pub verdicts_of-requires : goal.verdicts_of-requires
verdicts_of-requires g c =
    subst (λ (ls : List LineView). IsRecording ls (lent_of c.args.recording.now)) (sym c.in_ok-closure.ensures.closure) c.requires.keeps

pub show_judged-requires-clause-possible : goal.show_judged-requires-clause-possible
show_judged-requires-clause-possible g c = subst (λ (ls : List LineView). IsPossible (length ls) (chart_lines ls)) (sym c.in_ok-closure.ensures.closure) c.in_ok-closure.ensures.possible

pub show_judged-requires-clause-races : goal.show_judged-requires-clause-races
show_judged-requires-clause-races g c =
    let numbered = subst IsNumbered (sym c.in_ok-closure.ensures.closure) c.requires.numbered in
    let lines = ap (λ (j : JudgeView). j.lines) c.in_ok-verdicts.ensures.judge in
    λ (r e : EventNo) race. subst (λ (ls : List LineView). ((q : ℕ) × IsReceiveFrom (chart_lines ls) q (place_of r)) × IsEvent (chart_lines ls) (place_of e)) (sym lines) (race_is c.in_ok-closure.closure numbered r e race)

pub returns : goal.returns
returns g c =
    let d = c.args.recording.now.imported in
    let judged = subst (λ (j : JudgeView). ShowsJudged g.W.Out.sink (verdict_in j.lines j.recording) c.args.out.now c.show_judged.new.out c.show_judged.result c.args.wanted.now (d.diagnostics.names, c.in_ok-closure.closure))
    c.in_ok-verdicts.ensures.judge c.show_judged.ensures in
    subst (λ (ls : List LineView). ShowsJudged g.W.Out.sink (verdict_in ls (lent_of c.args.recording.now)) c.args.out.now c.show_judged.new.out c.show_judged.result c.args.wanted.now (d.diagnostics.names, ls))
    c.in_ok-closure.ensures.closure judged
