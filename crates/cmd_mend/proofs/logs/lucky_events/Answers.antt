use Rattle.std.proofs.Common.{◌+◌, List, [], ◌∷◌, ◌++◌, take, sym, ap, ◌∙◌, subst, arith}
use Rattle.std.specs.Prelude.{◌≡◌}
use Rattle.std.proofs.lemmas.List.{take_all, take_more}
use Rattle.chart.specs.declared.instance.EventNo.{EventNo}
use Rattle.races_text.specs.Judged.LogVerdicts.{IsReceiveAndEvent, verdict_in}
use Rattle.cmd_mend.specs.Luck.{AreLucky}
use Rattle.cmd_mend.specs.Luck.AreLucky.{none}
use Rattle.cmd_mend.proofs.logs.lucky_events.Goals as goal

pub loop-event-init : goal.loop-event-init
loop-event-init c = subst (λ (l : List EventNo). AreLucky (verdict_in c.args.judge.now.lines c.args.judge.now.recording c.args.receive.now) [] l) (sym c.new-lucky.ensures.items) none

pub add_event-requires : goal.add_event-requires
add_event-requires c =
    subst (IsReceiveAndEvent c.args.judge.now.lines c.args.receive.now) (sym c.event-item.is) (c.requires c.loop-event.event-index c.event-item.result c.loop-event-test.true)

pub loop-event-preserved : goal.loop-event-preserved
loop-event-preserved c =
    let i = c.loop-event.event-index in
    let events = c.args.events.now in
    let e = c.event-item.result in
    let is = verdict_in c.args.judge.now.lines c.args.judge.now.recording c.args.receive.now in
    let one : take (i + 1) events ≡ take i events ++ e ∷ [] = take_more events i e (omega arith) ∙ ap (λ x. take i events ++ x ∷ []) (sym c.event-item.is) in
    subst (λ (l : List EventNo). AreLucky is l c.add_event.new.lucky.items) (sym one) (c.in_ok-add_event.ensures (take i events) c.loop-event.invariant)

pub returns : goal.returns
returns c =
    subst (λ (l : List EventNo). AreLucky (verdict_in c.args.judge.now.lines c.args.judge.now.recording c.args.receive.now) l c.loop-event.lucky.items) (take_all c.loop-event.event-index c.args.events.now (omega arith)) c.loop-event.invariant
