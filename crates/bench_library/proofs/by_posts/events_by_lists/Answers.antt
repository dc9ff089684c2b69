use Rattle.std.proofs.Common.{sym, ap, ◌∙◌}
use Rattle.board.specs.Views.{PostView}
use Rattle.instances.proofs.Boards.{one-board-each}
use Rattle.bench_library.proofs.by_posts.events_by_lists.Goals as goal

-- each job returns its post at its board
pub gathered_events-requires : goal.gathered_events-requires
gathered_events-requires g c =
    let posts = c.args.posts in
    let left = c.in_ok-left.left in
    one-board-each posts.items left.items (sym left.ok.0 ∙ c.in_ok-left.ensures.len ∙ posts.ok.0)
    (λ k p within. let gave = c.in_ok-left.ensures.each k p within in
    gave.1.call.met ∙ ap (λ (post : PostView). post.board) (sym (gave.1.job_is p)))
    c.requires
