use Rattle.std.proofs.Common.{suc, inl, inr, sym, subst, arith}
use Rattle.std.proofs.lemmas.Bool.{cases_eq}
use Rattle.chart.proofs.Tally.{ith_within}
use Rattle.reordering.specs.Completion.Handling.{IsSendAt}
use Rattle.reordering.proofs.completion.last_sends.run_end.Goals as goal

pub loop-place-preserved : goal.loop-place-preserved
loop-place-preserved c = λ j low high. elim (cases_eq j (suc c.loop-place.place)) [
  | inl same ↦ subst (λ x. IsSendAt c.args.line.now.line.events x) (sym same) (c.sends_at.ensures.0 (cc))
  | inr differs ↦ c.loop-place.invariant j low (omega arith)
]

pub returns : goal.returns
returns c = record {
  least = omega (arith, c.len.ensures.value);
  sends = λ j low high. c.loop-place.invariant j low (omega (arith, c.len.ensures.value));
  whole = λ sends. let w = (ith_within c.args.line.now.line.events (suc c.len.result) sends.0 sends.1).1 in omega (arith, c.len.ensures.value);
}
