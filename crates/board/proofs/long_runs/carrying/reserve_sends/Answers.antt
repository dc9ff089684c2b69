use Rattle.std.proofs.Common.{◌≡◌, ◌<◌, ◌∙◌, get_or, length, sym, ap, arith}
use Rattle.std.specs.Prelude.{slice_get, Some}
use Rattle.std.proofs.lemmas.Option.{slice_get-get_or}
use Rattle.board.specs.Views.{PostView}
use Rattle.board.proofs.Meetings.{one_ahead}
use Rattle.board.proofs.LongRunsLemmas.Preparing.{none_reserved, reserved_next, reserved_all, reserved_room, put_back}
use Rattle.board.proofs.long_runs.carrying.reserve_sends.Goals as goal

pub bounds-sends-place_on_board : goal.bounds-sends-place_on_board
bounds-sends-place_on_board c =
    let now = c.loop-place.posts in
    let i = c.loop-place.place in
    let r : PostView = get_or now i c.index-posts-place.result in
    let within : i < length now = omega (arith, c.loop-place-test.true, c.loop-place.invariant.as_many) in
    let was : slice_get c.args.posts.now i ≡ Some r = sym (c.loop-place.invariant.others i (omega arith)) ∙ slice_get-get_or now i c.index-posts-place.result within in
    omega (arith, c.place_on_board.ensures.among, c.requires.sized i r was)

pub loop-place-init : goal.loop-place-init
loop-place-init c = none_reserved c.args.sends.now c.args.posts.now

pub returns-in_err-reserve-clause-more : goal.returns-in_err-reserve-clause-more
returns-in_err-reserve-clause-more c =
    let now = c.loop-place.posts in
    let i = c.loop-place.place in
    let within : i < length now = omega (arith, c.loop-place-test.true, c.loop-place.invariant.as_many) in
    put_back c.args.posts.now now i (get_or now i c.index-posts-place-in-loop-place.result) c.reserve.new.self (reserved_room c.args.sends.now c.args.posts.now now i c.loop-place.invariant)
    (slice_get-get_or now i c.index-posts-place-in-loop-place.result within) c.in_err-reserve.ensures.err

pub loop-place-preserved : goal.loop-place-preserved
loop-place-preserved c =
    let now = c.loop-place.posts in
    let sends = c.args.sends.now in
    let i = c.loop-place.place in
    let r : PostView = get_or now i c.index-posts-place-in-loop-place.result in
    let first : PostView = get_or now i c.index-posts-place.result in
    let within : i < length now = omega (arith, c.loop-place-test.true, c.loop-place.invariant.as_many) in
    let at : slice_get now i ≡ Some r = slice_get-get_or now i c.index-posts-place-in-loop-place.result within in
    let at_first : slice_get now i ≡ Some first = slice_get-get_or now i c.index-posts-place.result within in
    let same : r ≡ first = one_ahead now i r first at at_first in
    let was : slice_get c.args.posts.now i ≡ Some first = sym (c.loop-place.invariant.others i (omega arith)) ∙ at_first in
    let place = c.place_on_board.result in
    let among : place < length sends = omega (arith, c.place_on_board.ensures.among, c.requires.sized i first was) in
    let counted : slice_get sends place ≡ Some (get_or sends place 0) = slice_get-get_or sends place 0 among in
    reserved_next sends c.args.posts.now now i r c.reserve.new.self place (get_or sends place 0) c.loop-place.invariant at (ap (λ (x : PostView). x.number) same ∙ c.place_on_board.ensures.number) counted c.in_ok-reserve.ensures.ok

pub returns-clause-more : goal.returns-clause-more
returns-clause-more c = reserved_room c.args.sends.now c.args.posts.now c.loop-place.posts c.loop-place.place c.loop-place.invariant

pub returns-clause-ok : goal.returns-clause-ok
returns-clause-ok c = reserved_all c.args.sends.now c.args.posts.now c.loop-place.posts c.loop-place.place c.loop-place.invariant (omega (arith, c.loop-place-test.false))
