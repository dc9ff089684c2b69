use Rattle.schedule_replay.proofs.Calls.{close_done, close_closed}
use Rattle.schedule_replay.proofs.steps.close.Goals as goal

pub returns-in-Ok-clause-does : goal.returns-in-Ok-clause-does
returns-in-Ok-clause-does c from r far met its =
    let sound = c.in-Ok.ensures.sound in
    close_done r from c.args.post.now c.close.new.self far (record { same = sound.same; later = sound.later }) met its c.args.to c.in-Ok.ensures.answer

pub returns-in-Err-Closed-clause-does : goal.returns-in-Err-Closed-clause-does
returns-in-Err-Closed-clause-does c from r far met its =
    let sound = c.in-Err-Closed.ensures.sound in
    let answer = rw c.in-Err-Closed.field-0-is at c.in-Err-Closed.ensures.answer in
    close_closed r from c.args.post.now c.close.new.self far (record { same = sound.same; later = sound.later }) met its c.args.to answer.0 answer.1
