use Rattle.std.proofs.Common.{◌+◌, ◌<◌, length, sym, ◌∙◌, subst, arith}
use Rattle.chart.specs.Places.{IsSendAfter}
use Rattle.repair.proofs.EndLemmas.{send_next}
use Rattle.repair.proofs.events.send_after.Goals as goal

pub returns-then-sent-passed-clause-send : goal.returns-then-sent-passed-clause-send
returns-then-sent-passed-clause-send c =
    let line = c.args.events.now in
    let within : c.loop-place.place < length line = omega arith in
    let so = sym c.loop-place.invariant.0 ∙ c.if-sent-passed.true in
    subst (λ n. IsSendAfter line c.args.receiver n (c.loop-place.place + 1)) so
    (send_next line c.args.receiver c.loop-place.place c.index-events-place.result within c.index-events-place.is (sym c.is_send_to.ensures ∙ c.if-is_send_to.true))
