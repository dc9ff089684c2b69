use Rattle.std.proofs.Common.{List, All, sym, ◌∙◌, subst₂}
use Rattle.chart.specs.declared.instance.EventNo.{EventNo}
use Rattle.races_text.specs.Judged.LogVerdicts.{IsReceiveAndEvent, verdict_in}
use Rattle.cmd_mend.specs.Claims.{Sums}
use Rattle.cmd_mend.proofs.claims.with_report.Goals as goal

pub with_events-requires : goal.with_events-requires
with_events-requires c =
    subst₂ (λ (r : EventNo) (es : List EventNo). All (IsReceiveAndEvent c.args.judge.now.lines r) es) (sym c.receive-receive.ensures)
    (sym (c.as_slice.ensures.value ∙ c.in_ok-earlier.ensures.events ∙ c.earlier.ensures)) c.requires

pub returns : goal.returns
returns c =
    subst₂ (λ (r : EventNo) (es : List EventNo). Sums (verdict_in c.args.judge.now.lines c.args.judge.now.recording r) c.args.summary es c.with_events.result) c.receive-receive.ensures
    (c.as_slice.ensures.value ∙ c.in_ok-earlier.ensures.events ∙ c.earlier.ensures) c.with_events.ensures
