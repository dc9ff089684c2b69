use Rattle.std.proofs.Common.{◌+◌, suc, length, sym, ap, ◌∙◌, subst, arith, add-one}
use Rattle.chart.specs.Charts.{chart_lines}
use Rattle.closure.specs.Links.{IsPartner, HasPassed, refusal_of}
use Rattle.closure.specs.Rows.{IsRow}
use Rattle.closure.proofs.RowLemmas.{IsRow-push}
use Rattle.closure.proofs.LinkLemmas.{RefusesLine-from_fault}
use Rattle.closure.proofs.linking.link_line.Goals as goal

pub returns-in-Err-clause-err : goal.returns-in-Err-clause-err
returns-in-Err-clause-err c = RefusesLine-from_fault c.args.lines.now (suc c.args.line) c.loop-place.place c.loop-place.row c.in-Err.fault c.refusal.result c.loop-place.invariant.1 c.in-Err.ensures.fault (c.refusal.ensures ∙ ap (λ x. refusal_of c.in-Err.fault (record { instance = x; index = c.loop-place.place + 1 })) c.at_place.ensures)

pub loop-place-preserved : goal.loop-place-preserved
loop-place-preserved c = (
  subst (λ k. HasPassed (chart_lines c.args.lines.now) (length c.args.lines.now) c.args.line k c.link_event.new.passed) (sym (add-one c.loop-place.place)) c.in-Ok.ensures.next,
  rw c.in_ok-push-in-Ok.ensures (IsRow-push (IsPartner c.args.lines.now) (suc c.args.line) c.loop-place.place c.loop-place.row c.in-Ok.partner c.loop-place.invariant.1 c.in-Ok.ensures.ok),
)

pub returns-clause-ok : goal.returns-clause-ok
returns-clause-ok c =
    subst (λ m. IsRow (IsPartner c.args.lines.now) (suc c.args.line) m c.loop-place.row) (omega (arith, c.len_of-place-end.ensures.value)) c.loop-place.invariant.1
