use Rattle.std.proofs.Common.{List, sym, ◌∙◌, subst}
use Rattle.chart.specs.declared.instance.EventNo.{EventNo}
use Rattle.races_text.specs.Judged.LogVerdicts.{verdict_in}
use Rattle.cmd_mend.specs.Luck.{AddsLuck}
use Rattle.cmd_mend.proofs.LuckLemmas.{event_luck, event_other}
use Rattle.cmd_mend.proofs.logs.add_event.Goals as goal

pub returns-in_ok-push : goal.returns-in_ok-push
returns-in_ok-push c =
    let w = c.was_luck.ensures in
    let is = verdict_in c.args.judge.now.lines c.args.judge.now.recording c.args.receive.now in
    subst (λ (l : List EventNo). AddsLuck is c.args.event.now c.args.lucky.now.items l) (sym c.in_ok-push.ensures.items)
    (event_luck is c.args.event.now w.0 c.args.lucky.now.items w.1 (sym w.2 ∙ c.if-was_luck.true))

pub returns-else-was_luck : goal.returns-else-was_luck
returns-else-was_luck c =
    let w = c.was_luck.ensures in
    event_other (verdict_in c.args.judge.now.lines c.args.judge.now.recording c.args.receive.now) c.args.event.now w.0 c.args.lucky.now.items w.1 (sym w.2 ∙ c.if-was_luck.false)
