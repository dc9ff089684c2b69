use Rattle.schedule_replay.proofs.Calls.{any_got, any_nothing, any_ended, any_line_full}
use Rattle.schedule_replay.proofs.steps.receive_any.Goals as goal

pub returns-in-Ok-Got-clause-does : goal.returns-in-Ok-Got-clause-does
returns-in-Ok-Got-clause-does c r far met its =
    let sound = c.in-Ok-Got.ensures.sound in
    let answer = (rw c.in-Ok-Got.field-0-is at c.in-Ok-Got.ensures.answer).0 in
    any_got r c.args.last.now c.args.post.now c.any_from.new.post far (record { same = sound.same; later = sound.later }) met its c.in-Ok-Got.arrival answer.0 answer.1

pub returns-in-Ok-Nothing-clause-does : goal.returns-in-Ok-Nothing-clause-does
returns-in-Ok-Nothing-clause-does c r far met its =
    let sound = c.in-Ok-Nothing.ensures.sound in
    let answer = (rw c.in-Ok-Nothing.field-0-is at c.in-Ok-Nothing.ensures.answer).0 in
    any_nothing r c.args.last.now c.args.post.now c.any_from.new.post far (record { same = sound.same; later = sound.later }) met its answer.0 answer.1

pub returns-in-Ok-Ended-clause-does : goal.returns-in-Ok-Ended-clause-does
returns-in-Ok-Ended-clause-does c r far met its =
    let sound = c.in-Ok-Ended.ensures.sound in
    let answer = (rw c.in-Ok-Ended.field-0-is at c.in-Ok-Ended.ensures.answer).0 in
    any_ended r c.args.last.now c.args.post.now c.any_from.new.post far (record { same = sound.same; later = sound.later }) met its answer.0 answer.1

pub returns-in-Err-LineFull-clause-does : goal.returns-in-Err-LineFull-clause-does
returns-in-Err-LineFull-clause-does c r far met its =
    let sound = c.in-Err-LineFull.ensures.sound in
    let answer = (rw c.in-Err-LineFull.field-0-is at c.in-Err-LineFull.ensures.answer).0 in
    any_line_full r c.args.last.now c.args.post.now c.any_from.new.post far (record { same = sound.same; later = sound.later }) met its answer.1.0 answer.0 answer.1.2 answer.1.1
