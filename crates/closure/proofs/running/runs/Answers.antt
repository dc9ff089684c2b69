use Rattle.std.proofs.Common.{◌+◌, length, replicate, slice_index, ap, sym, ◌∙◌, subst, arith}
use Rattle.std.proofs.lemmas.List.{length-replicate, length-set}
use Rattle.chart.specs.Charts.{chart_lines}
use Rattle.closure.proofs.RunLemmas.{IsMade, IsMade-none, IsMade-next, left-less, runs_out}
use Rattle.closure.proofs.running.runs.Goals as goal

pub loop-ready-init : goal.loop-ready-init
loop-ready-init c =
    let n = length c.args.linked.now in (
      ap length c.in_ok-made.ensures ∙ length-replicate c.len.result 0 ∙ c.len.ensures.value,
      omega (arith, c.len.ensures.chart.several),
      subst (IsMade n (chart_lines c.args.linked.now)) (sym (c.in_ok-made.ensures ∙ ap (λ m. replicate m 0) c.len.ensures.value)) (IsMade-none n n (chart_lines c.args.linked.now)),
    )

pub loop-ready-smaller : goal.loop-ready-smaller
loop-ready-smaller c =
    rw (c.set.ensures, c.at.ensures)
    (left-less (chart_lines c.args.linked.now) (length c.args.linked.now) c.in-Some.ready c.loop-ready.made c.in-Some.ensures.within (omega (arith, c.loop-ready.invariant.0, c.in-Some.ensures.within)) c.in-Some.ensures.ready.within)

pub loop-ready-preserved : goal.loop-ready-preserved
loop-ready-preserved c =
    rw (c.set.ensures, c.at.ensures) (
      length-set c.loop-ready.made c.in-Some.ready (slice_index c.loop-ready.made c.in-Some.ready + 1) ∙ c.loop-ready.invariant.0,
      c.in-Some.ensures.within,
      IsMade-next c.args.linked.now c.loop-ready.made c.in-Some.ready c.len.ensures.chart c.loop-ready.invariant.0 c.loop-ready.invariant.2 c.in-Some.ensures.within c.in-Some.ensures.ready,
    )

pub returns : goal.returns
returns c = runs_out c.args.linked.now c.loop-ready.made c.are_made.result c.loop-ready.invariant.2 c.in_default.ensures.ready c.are_made.ensures
