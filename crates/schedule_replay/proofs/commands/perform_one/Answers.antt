use Rattle.std.proofs.Common.{ℕ, Option, Ok, length, refl, sym, subst₂, arith}
use Rattle.std.proofs.lemmas.Option.{slice_get_read}
use Rattle.board.specs.Views.{PostView}
use Rattle.schedule_replay.specs.Agreement.{Does}
use Rattle.schedule_replay.proofs.Posts.{one_board, put_posts, seen_all, has_acted}
use Rattle.schedule_replay.proofs.commands.perform_one.Goals as goal

pub act-requires-clause-known : goal.act-requires-clause-known
act-requires-clause-known c =
    let place = c.place-place.result in
    let agrees = c.requires.reached.2 in
    let at = slice_get_read c.args.posts.now (length c.args.posts.now) place c.index-posts-place.result refl (omega (arith, c.place-place.ensures.value, c.requires.among.0)) c.index-posts-place.is in
    let at_last = slice_get_read c.args.last.now (length c.args.last.now) place c.index-last-place.result refl (omega (arith, c.place-place.ensures.value, c.requires.among.0, agrees.as_many, agrees.posts.many)) c.index-last-place.is in
    rw (← c.index-last-place.is, ← c.index-posts-place.is) (agrees.far place c.index-posts-place.result c.index-last-place.result at at_last).known

pub meet_at-requires : goal.meet_at-requires
meet_at-requires c =
    let place = c.place-place.result in
    let agrees = c.requires.reached.2 in
    let old = c.index-posts-place.result in
    let was = c.index-last-place.result in
    let at = slice_get_read c.args.posts.now (length c.args.posts.now) place old refl (omega (arith, c.place-place.ensures.value, c.requires.among.0)) c.index-posts-place.is in
    let on = rw (← c.index-posts-place.is) at c.in_ok-word.ensures.goes_on in
    let board = c.requires.reached.0 in
    record {
      board = one_board board _ (put_posts board c.args.posts.now place old c.act.new.post agrees.posts at on.same);
      ahead = seen_all board c.requires.reached.1 c.args.posts.now c.args.last.now agrees place old c.act.new.post at on;
    }

pub returns : goal.returns
returns c board r agrees =
    let place = c.place-place.result in
    let old = c.index-posts-place.result in
    let was = c.index-last-place.result in
    let command = c.args.command.now in
    let at = slice_get_read c.args.posts.now (length c.args.posts.now) place old refl (omega (arith, c.place-place.ensures.value, c.requires.among.0)) c.index-posts-place.is in
    let at_last = slice_get_read c.args.last.now (length c.args.last.now) place was refl (omega (arith, c.place-place.ensures.value, c.requires.among.0, agrees.as_many, agrees.posts.many)) c.index-last-place.is in
    let on = rw (← c.index-posts-place.is) at c.in_ok-word.ensures.goes_on in
    let does = subst₂ (λ (x : PostView) (o : Option ℕ). Does x o command.action (Ok c.in_ok-word.word) c.act.new.post c.act.new.last) (sym c.index-posts-place.is) (sym c.index-last-place.is) c.in_ok-word.ensures.does in
    has_acted board r c.args.posts.now c.args.last.now agrees place old c.act.new.post was c.act.new.last at at_last on c.meet_at.new.posts c.meet_at.ensures.met command (Ok c.in_ok-word.word) c.place-place.ensures.value does
