use Rattle.std.proofs.Common.{List, length, map, sym, subst}
use Rattle.board.specs.Views.{PostView}
use Rattle.board.specs.Boards.{AreNewPosts}
use Rattle.board.specs.Gathering.{left_view, closed_view}
use Rattle.test_runtime.proofs.LongRunsLemmas.BoardLemmas.{at_new, ok_is, made_new, may_carry, sized, written_at}
use Rattle.test_runtime.proofs.long_runs.worked.next_board.Goals as goal

pub carried-counted-requires : goal.carried-counted-requires
carried-counted-requires g c =
    let board = c.expect-board.result.board in
    let new = made_new 3 2 c.new.result c.expect-board.result c.new.ensures.made c.expect-board.ensures in
    let fresh : AreNewPosts board c.expect-posts.result.items = (ok_is _ c.posts.result c.expect-posts.result c.posts.ensures.ok c.expect-posts.ensures).1 in
    may_carry 3 2 c.expect-board.result c.expect-posts.result.items c.as_mut_slice-taking.result.now (map left_view c.args.left.items) c.args.closed.items c.as_slice.result.now new fresh c.as_mut_slice-taking.ensures.value c.as_slice.ensures.value c.requires

pub gathered-requires : goal.gathered-requires
gathered-requires g c =
    let board = c.expect-board.result.board in
    let new = made_new 3 2 c.new.result c.expect-board.result c.new.ensures.made c.expect-board.ensures in
    let fresh : AreNewPosts board c.expect-posts.result.items = (ok_is _ c.posts.result c.expect-posts.result c.posts.ensures.ok c.expect-posts.ensures).1 in
    let taking : AreNewPosts board c.as_mut_slice-taking.result.now = subst (λ (ps : List PostView). AreNewPosts board ps) (sym c.as_mut_slice-taking.ensures.value) fresh in
    (board, written_at board c.expect-posts.result.len (length c.do_all.new.posts) c.expect-posts.result.items c.do_all.new.posts (at_new board c.expect-posts.result.items fresh) (c.do_all.ensures board (c.carried-counted.ensures board taking)))

pub returns : goal.returns
returns g c =
    let board = c.expect-board.result.board in
    let new = made_new 3 2 c.new.result c.expect-board.result c.new.ensures.made c.expect-board.ensures in
    let fresh : AreNewPosts board c.expect-posts.result.items = (ok_is _ c.posts.result c.expect-posts.result c.posts.ensures.ok c.expect-posts.ensures).1 in
    let taking : AreNewPosts board c.as_mut_slice-taking.result.now = subst (λ (ps : List PostView). AreNewPosts board ps) (sym c.as_mut_slice-taking.ensures.value) fresh in
    sized 3 2 c.expect-board.result (map left_view c.gathered.result.0.items) (map closed_view c.gathered.result.1.items) new (c.gathered.ensures board (written_at board c.expect-posts.result.len (length c.do_all.new.posts) c.expect-posts.result.items c.do_all.new.posts (at_new board c.expect-posts.result.items fresh) (c.do_all.ensures board (c.carried-counted.ensures board taking))))
