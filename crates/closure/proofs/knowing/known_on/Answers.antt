use Rattle.std.proofs.Common.{suc, length, sym, subst, arith, add-one}
use Rattle.chart.specs.Charts.{chart_lines}
use Rattle.closure.specs.Rows.{IsRow}
use Rattle.closure.specs.Searches.{IsSearchAfter, IsKnowledge}
use Rattle.closure.proofs.RowLemmas.{IsRow-push}
use Rattle.closure.proofs.knowing.known_on.Goals as goal

pub loop-place-preserved : goal.loop-place-preserved
loop-place-preserved c = (
  subst (λ k. IsSearchAfter (chart_lines c.args.linked.now) (length c.args.linked.now) c.args.line k c.known_at-known.new.search.fronts c.known_at-known.new.search.seen) (sym (add-one c.loop-place.place)) c.known_at-known.ensures.search,
  rw c.in_ok-push.ensures (IsRow-push (IsKnowledge (chart_lines c.args.linked.now)) (suc c.args.line) c.loop-place.place c.loop-place.row c.known_at-known.result c.loop-place.invariant.1 c.known_at-known.ensures.known),
)

pub returns : goal.returns
returns c =
    subst (λ m. IsRow (IsKnowledge (chart_lines c.args.linked.now)) (suc c.args.line) m c.loop-place.row) (omega (arith, c.len_of-place-end.ensures.value)) c.loop-place.invariant.1
