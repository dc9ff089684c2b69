use Rattle.std.proofs.Common.{sym, ap, ◌∙◌}
use Rattle.board.proofs.OneBoard.{one_board-new}
use Rattle.board.specs.Views.{PostView}
use Rattle.instances.proofs.Boards.{one-board-each}
use Rattle.example_timed_requests.proofs.by_hand.exchange.Goals as goal

-- each job returns its post at its board
pub gathered-requires : goal.gathered-requires
gathered-requires g c =
    let posts = c.in_ok-posts.posts in
    let left = c.in_ok-left.left in
    one-board-each posts.items left.items (sym left.ok.0 ∙ c.in_ok-left.ensures.len ∙ posts.ok.0)
    (λ k p within. let gave = c.in_ok-left.ensures.each k p within in
    gave.1.call.met ∙ ap (λ (post : PostView). post.board) (sym (gave.1.job_is p)))
    (one_board-new c.in_ok-board.board.board posts.items c.in_ok-posts.ensures.ok.1)
