use Rattle.std.proofs.Common.{suc, length, sym, subst, add-one}
use Rattle.chart.specs.Charts.{at, chart_lines}
use Rattle.closure.specs.Links.{HasPassed}
use Rattle.closure.proofs.RowLemmas.{IsRow-push}
use Rattle.closure.specs.Cycle.Fronts.{IsHeard}
use Rattle.closure.specs.Cycle.Rounds.{IsReceivedAbove}
use Rattle.closure.proofs.CycleLemmas.FrontLemmas.{IsFront-copied}
use Rattle.closure.proofs.cycle.hearing.heard_on.Goals as goal

pub loop-place-preserved : goal.loop-place-preserved
loop-place-preserved c =
    let e = at (suc c.args.line) (suc c.loop-place.place) in
    let copy = IsFront-copied (length c.args.lines.now) (IsReceivedAbove (chart_lines c.args.lines.now) e) c.loop-place.passed c.in_ok-copied.field-0 c.in_ok-copied.ensures.length c.in_ok-copied.ensures.each c.loop-place.invariant.1 in (
      subst (λ k. HasPassed (chart_lines c.args.lines.now) (length c.args.lines.now) c.args.line k c.pass_event.new.passed) (sym (add-one c.loop-place.place)) c.pass_event.ensures.passed,
      subst (λ k. IsHeard c.args.lines.now (at (suc c.args.line) (suc k)) c.pass_event.new.passed) (sym (add-one c.loop-place.place)) c.pass_event.ensures.heard,
      rw c.in_ok-push.ensures (IsRow-push (IsHeard c.args.lines.now) (suc c.args.line) c.loop-place.place c.loop-place.fronts c.in_ok-copied.field-0 c.loop-place.invariant.2 copy),
    )
