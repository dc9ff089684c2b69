use Rattle.std.proofs.Common.{ℕ, ◌+◌, ◌-◌, ◌<◌, ◌≤◌, List, [], ◌∷◌, ◌++◌, length, set, refl, sym, ap, ap₂, ◌∙◌, subst, arith}
use Rattle.std.proofs.lemmas.List.{length-replicate, length-set}
use Rattle.chart.specs.declared.instance.EventNo.{EventNo}
use Rattle.chart.specs.Charts.{at, LineView, chart_lines}
use Rattle.chart.specs.Order.{IsEarlier}
use Rattle.closure.specs.Faults.{place_of}
use Rattle.closure.specs.Rows.{entry}
use Rattle.closure.proofs.RunLemmas.{left, left-less}
use Rattle.closure.specs.declared.chain.reaching.Reached.{Reached}
use Rattle.closure.specs.Chain.Reaching.{IsAt, IsSearching}
use Rattle.closure.proofs.ChainLemmas.SearchSteps.{searching-first, searching-done, searching-followed, AreAll-from_searching, head_place, followed_length}
use Rattle.closure.proofs.chain.reaching.reached_from.Goals as goal

pub loop-head-init : goal.loop-head-init
loop-head-init c =
    let d = chart_lines c.args.closure.now in
    let x : Reached = record { send = c.args.send.now; receive = c.args.receive.now; next = 0; depth = 0 } in
    let one = c.in_ok-push.ensures.items ∙ ap (λ (l : List Reached). l ++ x ∷ []) c.new-found.ensures.items in
    let first = searching-first d (place_of c.args.receive.now) x (length c.lines.result.now) c.requires refl refl in (
      subst (λ (l : List Reached). IsSearching d (place_of c.args.receive.now) l c.in_ok-seen.seen 0) (sym one) (subst (λ s. IsSearching d (place_of c.args.receive.now) (x ∷ []) s 0) (sym c.in_ok-seen.ensures) first),
      ap (λ (l : List ℕ). length l) c.in_ok-seen.ensures ∙ length-replicate (length c.lines.result.now) 0 ∙ ap (λ (l : List LineView). length l) c.lines.ensures,
      omega arith,
    )

pub at-many-requires : goal.at-many-requires
at-many-requires c =
    let here = subst (λ (l : List Reached). IsAt l c.loop-head.head c.reached_at.result) c.as_slice.ensures.value c.reached_at.ensures in
    let place = head_place c.args.closure.now (place_of c.args.receive.now) c.loop-head.found.items c.loop-head.seen c.loop-head.head c.place-line.result c.reached_at.result c.loop-head.invariant.0 here c.place-line.ensures.value in
    omega (arith, place.0, c.loop-head.invariant.1)

pub follow-requires-clause-depth : goal.follow-requires-clause-depth
follow-requires-clause-depth c = λ x here. (c.loop-head.invariant.0.trail.each c.loop-head.head x here).low

pub set-requires : goal.set-requires
set-requires c =
    let here = subst (λ (l : List Reached). IsAt l c.loop-head.head c.reached_at.result) c.as_slice.ensures.value c.reached_at.ensures in
    let place = head_place c.args.closure.now (place_of c.args.receive.now) c.loop-head.found.items c.loop-head.seen c.loop-head.head c.place-line.result c.reached_at.result c.loop-head.invariant.0 here c.place-line.ensures.value in
    omega (arith, place.0, c.loop-head.invariant.1)

pub loop-head-smaller-then-many-above : goal.loop-head-smaller-then-many-above
loop-head-smaller-then-many-above c =
    let d = chart_lines c.args.closure.now in
    let n = length c.args.closure.now in
    let p = c.place-line.result in
    let seen = c.loop-head.seen in
    let here = subst (λ (l : List Reached). IsAt l c.loop-head.head c.reached_at.result) c.as_slice.ensures.value c.reached_at.ensures in
    let place = head_place c.args.closure.now (place_of c.args.receive.now) c.loop-head.found.items seen c.loop-head.head p c.reached_at.result c.loop-head.invariant.0 here c.place-line.ensures.value in
    let less = left-less d n p seen place.0 (omega (arith, place.0, c.loop-head.invariant.1)) (omega (arith, c.at-many.ensures, c.if-many-above.true, c.saturating_sub-above.ensures, place.1, place.2)) in
    let now : left d n c.set.new.self < left d n seen = subst (λ s. left d n s < left d n seen) (ap (λ m. set seen p (m + 1)) (sym c.at-many.ensures) ∙ sym c.set.ensures) less in
    let longer = followed_length d (record { instance = c.reached_at.result.send.instance; index = c.at-many.result + 1 }) c.loop-head.head c.loop-head.found.items c.follow.new.found.items c.in_ok-follow.ensures in
    let small : left d n c.set.new.self + left d n c.set.new.self + (length c.follow.new.found.items - c.loop-head.head) < left d n seen + left d n seen + (length c.loop-head.found.items - c.loop-head.head) = omega (arith, now, longer.1, c.loop-head-test.true, c.len.ensures, c.loop-head.found.ok.0) in
    small

pub loop-head-preserved-then-many-above : goal.loop-head-preserved-then-many-above
loop-head-preserved-then-many-above c =
    let d = chart_lines c.args.closure.now in
    let r = place_of c.args.receive.now in
    let p = c.place-line.result in
    let seen = c.loop-head.seen in
    let x = c.reached_at.result in
    let here = subst (λ (l : List Reached). IsAt l c.loop-head.head x) c.as_slice.ensures.value c.reached_at.ensures in
    let place = head_place c.args.closure.now r c.loop-head.found.items seen c.loop-head.head p x c.loop-head.invariant.0 here c.place-line.ensures.value in
    let event : EventNo = record { instance = x.send.instance; index = c.at-many.result + 1 } in
    let inside : p < length seen = omega (arith, place.0, c.loop-head.invariant.1) in
    let is = ap₂ at c.place-line.ensures.value (ap (λ m. m + 1) c.at-many.ensures) in
    let above : IsEarlier (place_of event) (place_of x.send) = record { line = refl; begun = omega arith; less = omega (arith, c.if-many-above.true, c.saturating_sub-above.ensures) } in
    let next = searching-followed d r c.loop-head.found.items seen c.loop-head.head c.loop-head.invariant.0 p x event c.follow.new.found.items inside here is above c.in_ok-follow.ensures in
    let longer = followed_length d event c.loop-head.head c.loop-head.found.items c.follow.new.found.items c.in_ok-follow.ensures in (
      subst (λ s. IsSearching d r c.follow.new.found.items s c.loop-head.head) (ap (λ m. set seen p (m + 1)) (sym c.at-many.ensures) ∙ sym c.set.ensures) next,
      ap (λ (l : List ℕ). length l) c.set.ensures ∙ length-set seen p (c.at-many.result + 1) ∙ c.loop-head.invariant.1,
      omega (arith, longer.0, c.loop-head.invariant.2),
    )

pub loop-head-preserved : goal.loop-head-preserved
loop-head-preserved c =
    let d = chart_lines c.args.closure.now in
    let r = place_of c.args.receive.now in
    let seen = c.loop-head.seen in
    let x = c.reached_at.result in
    let here = subst (λ (l : List Reached). IsAt l c.loop-head.head x) c.as_slice.ensures.value c.reached_at.ensures in
    let all : x.send.index ≤ entry seen x.send.instance + 1 = subst (λ q. x.send.index ≤ entry seen q + 1) (sym c.place-line.ensures.value) (omega (arith, c.if-many-above.false, c.saturating_sub-above.ensures, c.at-many.ensures)) in (
      searching-done d r c.loop-head.found.items seen c.loop-head.head c.loop-head.invariant.0 x here all,
      c.loop-head.invariant.1,
      omega (arith, c.loop-head-test.true, c.len.ensures, c.loop-head.found.ok.0),
    )

pub returns : goal.returns
returns c = AreAll-from_searching (chart_lines c.args.closure.now) (place_of c.args.receive.now) c.loop-head.found.items c.loop-head.seen c.loop-head.head c.loop-head.invariant.0 (omega (arith, c.loop-head-test.false, c.len.ensures, c.loop-head.found.ok.0))
