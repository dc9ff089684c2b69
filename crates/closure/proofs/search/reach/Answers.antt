use Rattle.std.proofs.Common.{suc, ◌-◌, length, inl, refl, arith}
use Rattle.std.specs.Prelude.{slice_index}
use Rattle.chart.specs.Charts.{at, chart_lines}
use Rattle.closure.proofs.ReadLemmas.{line_short}
use Rattle.closure.proofs.RunLemmas.{left-raised}
use Rattle.closure.proofs.SearchLemmas.{IsSearch-raised, IsReached-from_seen, front_within, raised-same}
use Rattle.closure.proofs.search.reach.Goals as goal

pub loop-pending-init : goal.loop-pending-init
loop-pending-init c =
    let fronts = c.args.search.now.fronts in
    rw c.raise.ensures (
      IsSearch-raised (chart_lines c.args.linked.now) (length c.args.linked.now) (at (suc c.args.line) c.args.index) fronts c.args.search.now.seen c.args.line c.args.index c.requires.line c.requires.send (inl refl) c.requires.search,
      (let new = raised-same fronts c.args.line c.args.index (omega (arith, c.requires.search.fronts_whole, c.requires.line)) in omega (arith, new)),
      c.requires.line,
    )

pub follow_line-next-requires-clause-within : goal.follow_line-next-requires-clause-within
follow_line-next-requires-clause-within c = front_within (chart_lines c.args.linked.now) (length c.args.linked.now) (at (suc c.args.line) c.args.index) c.loop-pending.search.fronts c.loop-pending.search.seen (suc c.in-Some.pending) c.loop-pending.invariant.0

pub follow_line-next-requires-clause-short : goal.follow_line-next-requires-clause-short
follow_line-next-requires-clause-short c = line_short c.args.linked.now c.in-Some.pending c.len.ensures.chart (omega (arith, c.in-Some.ensures.within, c.loop-pending.invariant.0.fronts_whole))

pub loop-pending-smaller : goal.loop-pending-smaller
loop-pending-smaller c =
    let bound = front_within (chart_lines c.args.linked.now) (length c.args.linked.now) (at (suc c.args.line) c.args.index) c.loop-pending.search.fronts c.loop-pending.search.seen (suc c.in-Some.pending) c.loop-pending.invariant.0 in
    let inside = c.in-Some.ensures.within in
    let more = c.in-Some.ensures.pending in
    rw c.follow_line-next.ensures.seen
    (left-raised (chart_lines c.args.linked.now) (length c.args.linked.now) c.in-Some.pending (slice_index c.loop-pending.search.fronts c.in-Some.pending - 1) c.loop-pending.search.seen (omega (arith, c.loop-pending.invariant.0.fronts_whole)) (omega (arith, c.loop-pending.invariant.0.fronts_whole, c.loop-pending.invariant.0.seen_whole)) (omega arith) (omega arith))

pub loop-pending-preserved : goal.loop-pending-preserved
loop-pending-preserved c = (
  c.follow_line-next.ensures.kept (at (suc c.args.line) c.args.index) c.loop-pending.invariant.0,
  (let grown = c.follow_line-next.ensures.grown (suc c.args.line) in omega (arith, grown, c.loop-pending.invariant.1)),
  c.follow_line-next.ensures.line,
)

pub returns-clause-reached : goal.returns-clause-reached
returns-clause-reached c = IsReached-from_seen c.args.linked.now (at (suc c.args.line) c.args.index) c.loop-pending.search.fronts c.loop-pending.search.seen c.loop-pending.invariant.0 c.in_default.ensures.pending c.loop-pending.invariant.1
