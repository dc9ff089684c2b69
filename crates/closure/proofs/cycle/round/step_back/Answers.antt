use Rattle.std.proofs.Common.{◌≡◌, ℕ, suc, ◌+◌, ◌-◌, List, length, sym, ap, ◌∙◌, subst, arith}
use Rattle.chart.specs.Charts.{at}
use Rattle.closure.specs.Rows.{entry}
use Rattle.closure.specs.Cycle.Fronts.{IsHeard}
use Rattle.closure.proofs.CycleLemmas.LeadLemmas.{lead_within}
use Rattle.closure.proofs.CycleLemmas.StepLemmas.{IsVia, via-skip, via-raised, via-all}
use Rattle.closure.proofs.cycle.round.step_back.Goals as goal
use Rattle.closure.proofs.cycle.round.step_back.Goals.{then-index-gt0, else-index-gt0}

pub at-requires-clause-place : goal.at-requires-clause-place
at-requires-clause-place c =
    let w = lead_within c.args.hearing.now c.requires.0 c.requires.1 (suc c.loop-line.line) c.args.front.now c.requires.2 c.requires.3 in
    omega (arith, w, c.at-index.ensures, c.if-index-gt0.true)

pub loop-line-preserved : goal.loop-line-preserved
loop-line-preserved c =
    elim c.if-index-gt0.branch [
      | then-index-gt0 w ↦
          let same : suc (c.at-index.result - 1) ≡ entry c.args.front.now (suc c.loop-line.line) = omega (arith, c.at-index.ensures, w.if-index-gt0.true) in
          let heard = subst (λ k. IsHeard c.args.hearing.now (at (suc c.loop-line.line) k) w.at.result.now) same w.at.ensures in (
            ap (λ (l : List ℕ). length l) w.next-is ∙ w.raise.ensures.length ∙ c.loop-line.invariant.0,
            λ e many lead.
                subst (λ (l : List ℕ). IsVia c.args.hearing.now e many (c.loop-line.line + 1) l) (sym w.next-is)
                (via-raised c.args.hearing.now e many c.loop-line.line c.args.front.now w.at.result.now c.loop-line.next w.raise.new.numbers lead (omega (arith, c.at-index.ensures, w.if-index-gt0.true)) heard w.raise.ensures.length w.raise.ensures.each (c.loop-line.invariant.1 e many lead)),
          )
      | else-index-gt0 w ↦ (
        ap (λ (l : List ℕ). length l) w.next-is ∙ c.loop-line.invariant.0,
        λ e many lead.
            subst (λ (l : List ℕ). IsVia c.args.hearing.now e many (c.loop-line.line + 1) l) (sym w.next-is)
            (via-skip c.args.hearing.now e many c.loop-line.line c.args.front.now c.loop-line.next lead (omega (arith, c.at-index.ensures, w.if-index-gt0.false)) (c.loop-line.invariant.1 e many lead)),
      )
    ]

pub returns : goal.returns
returns c = λ e many lead. via-all c.args.hearing.now e many c.loop-line.line c.loop-line.next (omega (arith, c.loop-line-test.false, c.loop-line.auto.line-end, c.len-line-end.ensures.value)) (c.loop-line.invariant.1 e many lead)
