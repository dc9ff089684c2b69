use Rattle.std.proofs.Common.{refl, arith}
use Rattle.std.proofs.lemmas.List.Elements.{All-weaker}
use Rattle.chart.specs.Charts.{chart_lines}
use Rattle.chart.specs.Places.{IsEvent}
use Rattle.chart.specs.Ranges.{events_of}
use Rattle.chart.specs.declared.instance.EventNo.{EventNo}
use Rattle.closure.specs.Faults.{place_of}
use Rattle.races_text.specs.Judged.LogVerdicts.{IsReceiveAndEvent}
use Rattle.races_text.proofs.JudgedLemmas.NextParts.{first_of_range}
use Rattle.races_text.proofs.judged.log_verdicts.LogVerdictsVerdicts.verdict_of_first.Goals as goal

pub verdict_of_first-run-requires-clause-receive : goal.verdict_of_first-run-requires-clause-receive
verdict_of_first-run-requires-clause-receive c =
    let race : EventNo → Type 0 = λ e. IsReceiveAndEvent c.args.self.now.judge.lines c.args.receive.now e in
    (first_of_range race c.args.earlier.now c.requires.range.some c.requires.races).0

pub verdict_of_first-run-requires-clause-earlier : goal.verdict_of_first-run-requires-clause-earlier
verdict_of_first-run-requires-clause-earlier c =
    let race : EventNo → Type 0 = λ e. IsReceiveAndEvent c.args.self.now.judge.lines c.args.receive.now e in
    All-weaker race (λ (e : EventNo). IsEvent (chart_lines c.args.self.now.judge.lines) (place_of e)) (λ e w. w.1) (events_of c.args.earlier.now) c.requires.races

pub returns : goal.returns
returns c =
    let run = c.verdict_of_first-run.ensures in
    let fewer = run.within in
    let short = c.requires.range.within in
    record { holds = record { range = record { some = run.some; within = omega (arith, fewer, short) }; verdicts = run.verdicts }; begins = refl; within = fewer }
