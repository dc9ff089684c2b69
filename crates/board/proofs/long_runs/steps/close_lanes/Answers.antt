use Rattle.std.proofs.Common.{◌≡◌, ◌+◌, ◌∷◌, [], ◌++◌, List, suc, map, take, drop, sym, ap, ◌∙◌, subst, arith}
use Rattle.std.proofs.lemmas.List.{map_more, take_all}
use Rattle.chart.specs.declared.history.Occurrence.{Occurrence}
use Rattle.chart.specs.declared.history.Occurrence.TheVariants.{Close}
use Rattle.board.specs.declared.gathering.ClosedLane.{ClosedLane}
use Rattle.board.specs.Gathering.{closed_view}
use Rattle.board.specs.LongRuns.CarriedHistories.{closes_again}
use Rattle.board.specs.LongRuns.CarryingSteps.{AreOn}
use Rattle.board.proofs.LongRunsLemmas.CarryingLoops.{may_next, parted_at}
use Rattle.board.proofs.LongRunsLemmas.PostedSends.{closes_split}
use Rattle.board.proofs.long_runs.steps.close_lanes.Goals as goal

pub close_again-requires : goal.close_again-requires
close_again-requires c =
    let (n, k, h, old, may) = c.requires.may in
    let lanes = c.args.closed.now in
    let i = c.loop-lane.lane-index in
    let lane = c.lane-item.result in
    let g = closes_again (map closed_view (take i lanes)) ++ h in
    let rest = map closed_view (drop (suc i) lanes) in
    record {
      may = (
        n,
        k,
        g,
        old,
        may_next n k h g (Close lane.sender lane.receiver ∷ g) (closes_again (map closed_view lanes) ++ h) old c.args.posts.now c.loop-lane.posts may (c.loop-lane.invariant n k h old may)
            (closes_again rest, ap (λ ls. closes_again ls ++ h) (parted_at closed_view lanes i lane c.loop-lane-test.true c.lane-item.is) ∙ closes_split (map closed_view (take i lanes)) rest (closed_view lane) h),
      );
    }

pub loop-lane-preserved : goal.loop-lane-preserved
loop-lane-preserved c = λ n k h old may.
    let lanes = c.args.closed.now in
    let i = c.loop-lane.lane-index in
    let lane = c.lane-item.result in
    let g = closes_again (map closed_view (take i lanes)) ++ h in
    let rest = map closed_view (drop (suc i) lanes) in
    let next = may_next n k h g (Close lane.sender lane.receiver ∷ g) (closes_again (map closed_view lanes) ++ h) old c.args.posts.now c.loop-lane.posts may (c.loop-lane.invariant n k h old may)
    (closes_again rest, ap (λ ls. closes_again ls ++ h) (parted_at closed_view lanes i lane c.loop-lane-test.true c.lane-item.is) ∙ closes_split (map closed_view (take i lanes)) rest (closed_view lane) h) in
    let one = map_more closed_view lanes i lane c.loop-lane-test.true ∙ ap (λ (x : ClosedLane). map closed_view (take i lanes) ++ closed_view x ∷ []) (sym c.lane-item.is) in
    let more : closes_again (map closed_view (take (i + 1) lanes)) ++ h ≡ Close lane.sender lane.receiver ∷ g = ap (λ ls. closes_again ls ++ h) one ∙ closes_split (map closed_view (take i lanes)) [] (closed_view lane) h in
    subst (λ (f : List Occurrence). AreOn n k f old c.close_again.new.posts) (sym more) (c.close_again.ensures n k g old next)

pub returns : goal.returns
returns c = λ n k h old may.
    let lanes = c.args.closed.now in
    let whole = take_all c.loop-lane.lane-index lanes (omega (arith, c.loop-lane-test.false)) in
    subst (λ (ls : List ClosedLane). AreOn n k (closes_again (map closed_view ls) ++ h) old c.loop-lane.posts) whole (c.loop-lane.invariant n k h old may)
