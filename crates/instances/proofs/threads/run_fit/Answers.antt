use Rattle.std.proofs.Common.{length, map, sym, ap, ◌∙◌, subst}
use Rattle.std.proofs.lemmas.List.{length-map}
use Rattle.board.specs.Gathering.{IsWhole}
use Rattle.board.specs.Meeting.{AreOfOneBoard, AreNotAll}
use Rattle.instances.specs.Driving.{meaning, IsRunOfPost}
use Rattle.instances.proofs.Boards.{AreDone, Done, length-done, done-parts, one-board-left, all-left, lines-left}
use Rattle.instances.proofs.threads.run_fit.Goals as goal

pub gather-requires : goal.gather-requires
gather-requires g c =
    let runs = c.in_ok-runs.runs.items in
    let are : AreDone (λ b old trace end new. IsRunOfPost (meaning (goal.Behaviour-dyn g (b.vtable, b.value)).act (goal.Behaviour-dyn g (b.vtable, b.value)).after) c.args.turns b.value old trace end new) c.args.posts.items c.args.behaviours.items runs =
    record { alike = c.requires.fit.one_of_each; as_many = c.in_ok-runs.ensures.len ∙ ap length c.in_ok-jobs.ensures; each = rw c.in_ok-jobs.ensures at c.in_ok-runs.ensures.each } in
    record {
      board = subst AreOfOneBoard (sym c.in_ok-posts.ensures.posts)
          (one-board-left _ c.args.posts.items c.args.behaviours.items runs are (λ b old trace end new run. run.run.same) c.requires.board);
    }

pub returns-in-Ok : goal.returns-in-Ok
returns-in-Ok g c =
    let posts = c.args.posts.items in
    let behaviours = c.args.behaviours.items in
    let runs = c.in_ok-runs.runs.items in
    let are : AreDone (λ b old trace end new. IsRunOfPost (meaning (goal.Behaviour-dyn g (b.vtable, b.value)).act (goal.Behaviour-dyn g (b.vtable, b.value)).after) c.args.turns b.value old trace end new) posts behaviours runs =
    record { alike = c.requires.fit.one_of_each; as_many = c.in_ok-runs.ensures.len ∙ ap length c.in_ok-jobs.ensures; each = rw c.in_ok-jobs.ensures at c.in_ok-runs.ensures.each } in
    let parts = c.in_ok-posts.ensures in
    let many = length-done _ posts behaviours runs are in
    let whole = subst (λ left. IsWhole left c.in-Ok.gathered) parts.posts c.in-Ok.ensures in
    record {
      left = map (λ (it : Done). it.0) runs;
      as_many = (
        length-map runs (λ (it : Done). it.0) ∙ many,
        ap length parts.traces ∙ length-map runs (λ (it : Done). it.1) ∙ many,
        ap length parts.ends ∙ length-map runs (λ (it : Done). it.2) ∙ many,
      );
      each = done-parts _ posts behaviours runs are c.in_ok-posts.traces.items c.in_ok-posts.ends.items parts.traces parts.ends;
      whole = whole;
      lines = lines-left _ posts behaviours runs are (λ b old trace end new run. run.run.same) c.in-Ok.gathered whole;
    }

pub unreachable-requires : goal.unreachable-requires
unreachable-requires g c =
    let posts = c.args.posts.items in
    let behaviours = c.args.behaviours.items in
    let runs = c.in_ok-runs.runs.items in
    let are : AreDone (λ b old trace end new. IsRunOfPost (meaning (goal.Behaviour-dyn g (b.vtable, b.value)).act (goal.Behaviour-dyn g (b.vtable, b.value)).after) c.args.turns b.value old trace end new) posts behaviours runs =
    record { alike = c.requires.fit.one_of_each; as_many = c.in_ok-runs.ensures.len ∙ ap length c.in_ok-jobs.ensures; each = rw c.in_ok-jobs.ensures at c.in_ok-runs.ensures.each } in
    let lacking = rw c.in-NotAllPosts.is at c.in-Err.ensures.1 in
    all-left _ posts behaviours runs are (λ b old trace end new run. run.run.same) c.requires.fit.all (subst AreNotAll c.in_ok-posts.ensures.posts lacking)
