use Rattle.schedule_replay.proofs.Calls.{receive_got, receive_nothing, receive_ended, receive_line_full}
use Rattle.schedule_replay.proofs.steps.receive.Goals as goal

pub returns-in-Ok-Got-clause-does : goal.returns-in-Ok-Got-clause-does
returns-in-Ok-Got-clause-does c r far met its =
    let sound = c.in-Ok-Got.ensures.sound in
    let answer = rw c.in-Ok-Got.field-0-is at c.in-Ok-Got.ensures.answer in
    receive_got r c.args.last.now c.args.post.now c.receive.new.self far (record { same = sound.same; later = sound.later }) met its c.args.from c.in-Ok-Got.field-0-0 answer

pub returns-in-Ok-Nothing-clause-does : goal.returns-in-Ok-Nothing-clause-does
returns-in-Ok-Nothing-clause-does c r far met its =
    let sound = c.in-Ok-Nothing.ensures.sound in
    let answer = rw c.in-Ok-Nothing.field-0-is at c.in-Ok-Nothing.ensures.answer in
    receive_nothing r c.args.last.now c.args.post.now c.receive.new.self far (record { same = sound.same; later = sound.later }) met its c.args.from answer.0 answer.1

pub returns-in-Ok-Ended-clause-does : goal.returns-in-Ok-Ended-clause-does
returns-in-Ok-Ended-clause-does c r far met its =
    let sound = c.in-Ok-Ended.ensures.sound in
    let answer = rw c.in-Ok-Ended.field-0-is at c.in-Ok-Ended.ensures.answer in
    receive_ended r c.args.last.now c.args.post.now c.receive.new.self far (record { same = sound.same; later = sound.later }) met its c.args.from answer.0 answer.1

pub returns-in-Err-LineFull-clause-does : goal.returns-in-Err-LineFull-clause-does
returns-in-Err-LineFull-clause-does c r far met its =
    let sound = c.in-Err-LineFull.ensures.sound in
    let answer = rw c.in-Err-LineFull.field-0-is at c.in-Err-LineFull.ensures.answer in
    receive_line_full r c.args.last.now c.args.post.now c.receive.new.self far (record { same = sound.same; later = sound.later }) met its c.args.from answer.0 answer.1
