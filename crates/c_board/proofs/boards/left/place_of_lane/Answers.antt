use Rattle.std.proofs.Common.{◌≡◌, ◌∙◌, sym, ap}
use Rattle.std.specs.Prelude.{slice_get, Some}
use Rattle.std.proofs.lemmas.Option.{slice_get-get_or}
use Rattle.board.specs.declared.gathering.Left.{Left}
use Rattle.c_board.proofs.BoardsLemmas.LaneLemmas.{lane_found, lane_next, lane_none}
use Rattle.c_board.proofs.boards.left.place_of_lane.Goals as goal

pub returns-then-is_on-clause-some : goal.returns-then-is_on-clause-some
returns-then-is_on-clause-some c =
    let lane = c.index-left-place.result in
    let there : slice_get c.args.left.now c.loop-place.place ≡ Some lane = slice_get-get_or c.args.left.now c.loop-place.place lane c.loop-place-test.true ∙ ap (λ (it : Left). Some it) (sym c.index-left-place.is) in
    (lane, there, lane_found c.args.left.now c.loop-place.place c.args.from c.args.to lane there (sym c.is_on.ensures ∙ c.if-is_on.true) c.loop-place.invariant)

pub loop-place-preserved : goal.loop-place-preserved
loop-place-preserved c =
    let lane = c.index-left-place.result in
    let there : slice_get c.args.left.now c.loop-place.place ≡ Some lane = slice_get-get_or c.args.left.now c.loop-place.place lane c.loop-place-test.true ∙ ap (λ (it : Left). Some it) (sym c.index-left-place.is) in
    lane_next c.args.left.now c.loop-place.place c.args.from c.args.to lane there (sym c.is_on.ensures ∙ c.if-is_on.false) c.loop-place.invariant

pub returns-clause-none : goal.returns-clause-none
returns-clause-none c = lane_none c.args.left.now c.loop-place.place c.args.from c.args.to c.loop-place-test.false c.loop-place.invariant
