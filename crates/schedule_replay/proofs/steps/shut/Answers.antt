use Rattle.std.proofs.Common.{Err, ap}
use Rattle.schedule_replay.proofs.Calls.{onward, not_ok, shut_done, shut_refused}
use Rattle.schedule_replay.proofs.steps.shut.Goals as goal

pub returns-in-Ok-clause-does : goal.returns-in-Ok-clause-does
returns-in-Ok-clause-does c from r far met its =
    let answer = c.in-Ok.ensures in
    shut_done r from c.args.post.now c.close_coregion.new.self far (onward _ _ _ answer.ok) met its (λ none. not_ok (answer.not_open.1 none)) answer.ok

pub returns-in-Err-CoregionNotOpen-clause-does : goal.returns-in-Err-CoregionNotOpen-clause-does
returns-in-Err-CoregionNotOpen-clause-does c from r far met its =
    let answer = c.in-Err-CoregionNotOpen.ensures in
    shut_refused r from c.args.post.now c.close_coregion.new.self far (onward _ _ _ answer.err) met its (answer.not_open.0 (ap Err c.in-Err-CoregionNotOpen.field-0-is)) answer.err
