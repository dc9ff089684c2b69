use Rattle.std.proofs.Common.{◌≡◌, ◌+◌, List, [], ◌∷◌, ◌++◌, take, refl, sym, ap, ◌∙◌, subst, arith}
use Rattle.std.proofs.lemmas.List.{take_all, take_more}
use Rattle.chart.specs.declared.instance.EventNo.{EventNo}
use Rattle.races_text.specs.Judged.LogVerdicts.{IsReceiveAndEvent, verdict_in}
use Rattle.races_text.specs.declared.judged.summary.RaceSummary.{RaceSummary}
use Rattle.cmd_mend.specs.Claims.{Sums, summary_after}
use Rattle.cmd_mend.specs.Claims.AreVerdicts.{none}
use Rattle.cmd_mend.proofs.ClaimLemmas.{verdict_push, after_push}
use Rattle.cmd_mend.proofs.claims.with_events.Goals as goal

pub loop-event-init : goal.loop-event-init
loop-event-init c = ([], none, refl)

pub with_event-sum-requires : goal.with_event-sum-requires
with_event-sum-requires c =
    subst (IsReceiveAndEvent c.args.judge.now.lines c.args.receive.now) (sym c.event-item.is) (c.requires c.loop-event.event-index c.event-item.result c.loop-event-test.true)

pub loop-event-preserved : goal.loop-event-preserved
loop-event-preserved c =
    let i = c.loop-event.event-index in
    let events = c.args.events.now in
    let e = c.event-item.result in
    let is = verdict_in c.args.judge.now.lines c.args.judge.now.recording c.args.receive.now in
    let one : take (i + 1) events ≡ take i events ++ e ∷ [] = take_more events i e (omega arith) ∙ ap (λ x. take i events ++ x ∷ []) (sym c.event-item.is) in
    let before = c.loop-event.invariant in
    let last = c.with_event-sum.ensures in
    subst (λ (l : List EventNo). Sums is c.args.summary l c.with_event-sum.result) (sym one) (
      before.0 ++ last.0 ∷ [],
      verdict_push e last.0 last.1 before.1,
      last.2 ∙ ap (λ (s : RaceSummary). summary_after s last.0) before.2 ∙ sym (after_push c.args.summary before.0 last.0),
    )

pub returns : goal.returns
returns c =
    subst (λ (l : List EventNo). Sums (verdict_in c.args.judge.now.lines c.args.judge.now.recording c.args.receive.now) c.args.summary l c.loop-event.sum)
    (take_all c.loop-event.event-index c.args.events.now (omega arith)) c.loop-event.invariant
