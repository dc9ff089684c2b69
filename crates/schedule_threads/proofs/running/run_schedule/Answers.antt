use Rattle.std.proofs.Common.{length, sym, ap, ◌∙◌, arith}
use Rattle.schedule_threads.specs.OwnScripts.{IsTurns}
use Rattle.schedule_threads.proofs.Boards.{is_run_of, fit_for, invalid_for, fit_alone}
use Rattle.schedule_threads.proofs.running.run_schedule.Goals as goal

pub returns-in-Ok-run : goal.returns-in-Ok-run
returns-in-Ok-run g c =
    let plan = c.args.schedule.now in
    let board = c.in-Ok.board.board in
    let its = c.in-Ok.ensures in
    let posts = c.in-Ok-posts_of.posts.items in
    let new = c.in-Ok-posts_of.ensures in
    record {
      of = is_run_of plan c.in-Ok-run.run' _ posts board c.in-Ok-run.ensures.ok new its.size c.names.ensures.plan;
      runs = record {
        board = board;
        size = its.size;
        capacity = its.capacity;
        posts = posts;
        new = new;
        runs = c.in-Ok-run.ensures.ok;
      };
      fit = fit_for plan posts board (length c.args.behaviours.items) c.args.turns new its.size c.in-Ok-run.ensures.fit;
      err = tt;
    }

pub unreachable-requires : goal.unreachable-requires
unreachable-requires g c =
    let plan = c.args.schedule.now in
    let unrun = rw c.in-Err-InvalidInput.field-0-is at c.in-Err-InvalidInput.ensures.err in
    let invalid = invalid_for plan c.in-Ok-posts_of.posts.items c.in-Ok.board.board (length c.args.behaviours.items) c.args.turns
    c.in-Ok-posts_of.ensures c.in-Ok.ensures.size c.names.ensures.plan unrun.2 in
    let as_many = sym c.args.behaviours.ok.0 ∙ sym c.len.ensures ∙ c.if-len.false ∙ c.len-2.ensures.value
    ∙ ap length c.names.ensures.value in
    let some : IsTurns c.args.turns = (omega arith, c.if-turns-gt-MAX_TURNS.false) in
    fit_alone plan (length c.args.behaviours.items) c.args.turns as_many some invalid
