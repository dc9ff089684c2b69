use Rattle.std.proofs.Common.{Err, ap}
use Rattle.schedule_replay.proofs.Calls.{onward, not_ok, open_done, open_refused}
use Rattle.schedule_replay.proofs.steps.open.Goals as goal

pub returns-in-Ok-clause-does : goal.returns-in-Ok-clause-does
returns-in-Ok-clause-does c from r far met its =
    let answer = c.in-Ok.ensures in
    open_done r from c.args.post.now c.open_coregion.new.self far (onward _ _ _ answer.ok) met its (λ some. not_ok (answer.open.1 some)) answer.ok

pub returns-in-Err-CoregionOpen-clause-does : goal.returns-in-Err-CoregionOpen-clause-does
returns-in-Err-CoregionOpen-clause-does c from r far met its =
    let answer = c.in-Err-CoregionOpen.ensures in
    open_refused r from c.args.post.now c.open_coregion.new.self far (onward _ _ _ answer.err) met its (answer.open.0 (ap Err c.in-Err-CoregionOpen.field-0-is)) answer.err
