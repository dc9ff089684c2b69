use Rattle.std.proofs.Common.{◌≡◌, ◌<◌, ◌++◌, ◌∙◌, map, List, length, take, drop, set, get_or, refl, ap, arith}
use Rattle.std.proofs.lemmas.List.{length-map}
use Rattle.c_board.specs.declared.found.Arrived.{Arrived}
use Rattle.c_board.specs.Receiving.{arrived_of}
use Rattle.c_board.proofs.Lists.{put_next, drop_mapped, put_min}
use Rattle.c_board.proofs.receiving_many.copy_each.Goals as goal

pub loop-place-init : goal.loop-place-init
loop-place-init c = refl

pub loop-place-preserved : goal.loop-place-preserved
loop-place-preserved c =
    let arrivals = c.args.arrivals.now in
    let place = c.loop-place.place in
    let less : place < length arrivals = omega (arith, c.loop-place-test.true, c.min-many.ensures) in
    let room : place < length c.args.output.now = omega (arith, c.loop-place-test.true, c.min-many.ensures) in
    let next = get_or arrivals place c.index-arrivals-place.result in
    let output : c.arrived_of.result ≡ arrived_of next = c.arrived_of.ensures ∙ ap arrived_of c.index-arrivals-place.is in
    ap (λ (xs : List Arrived). set xs place c.arrived_of.result) c.loop-place.invariant
    ∙ ap (λ (x : Arrived). set (take place (map arrived_of arrivals) ++ drop place c.args.output.now) place x) output
    ∙ put_next (map arrived_of arrivals) c.args.output.now place (arrived_of next) _ room (drop_mapped arrived_of arrivals place c.index-arrivals-place.result less)

pub returns : goal.returns
returns c =
    let arrivals = c.args.arrivals.now in
    let place = c.loop-place.place in
    let many = length-map arrivals arrived_of in
    c.loop-place.invariant ∙ put_min (map arrived_of arrivals) c.args.output.now place (omega (arith, many, c.loop-place-test.false, c.loop-place.auto.place-end, c.min-many.ensures))
