use Rattle.std.proofs.Common.{◌≡◌, ap, ◌∙◌}
use Rattle.schedule_replay.proofs.Calls.{message, send_sent, send_in_coregion, send_closed, send_line_full, send_full}
use Rattle.schedule_replay.proofs.steps.send.Goals as goal

pub returns-in-Ok-send-clause-does : goal.returns-in-Ok-send-clause-does
returns-in-Ok-send-clause-does c from r far met its =
    let sound = c.in-Ok-send.ensures.sound in
    let empty : c.in-Ok.message ≡ message c.args.name = c.in-Ok.ensures.ok ∙ ap (λ bytes. record { name = c.args.name; body = bytes }) c.new.ensures.items in
    send_sent r from c.args.post.now c.send.new.self far (record { same = sound.same; later = sound.later }) met its c.args.to c.args.name c.in-Ok.message c.in-Ok-send.field-0 empty c.in-Ok-send.ensures.answer

pub returns-in-Err-default-InCoregion-clause-does : goal.returns-in-Err-default-InCoregion-clause-does
returns-in-Err-default-InCoregion-clause-does c from r far met its =
    let sound = c.in-Err-default-InCoregion.ensures.sound in
    let answer = rw c.in-Err-default-InCoregion.field-0-1-is at c.in-Err-default-InCoregion.ensures.answer in
    send_in_coregion r from c.args.post.now c.send.new.self far (record { same = sound.same; later = sound.later }) met its c.args.to c.args.name answer.1 answer.2

pub returns-in-Err-default-Closed-clause-does : goal.returns-in-Err-default-Closed-clause-does
returns-in-Err-default-Closed-clause-does c from r far met its =
    let sound = c.in-Err-default-Closed.ensures.sound in
    let answer = rw c.in-Err-default-Closed.field-0-1-is at c.in-Err-default-Closed.ensures.answer in
    send_closed r from c.args.post.now c.send.new.self far (record { same = sound.same; later = sound.later }) met its c.args.to c.args.name answer.1 answer.2

pub returns-in-Err-default-LineFull-clause-does : goal.returns-in-Err-default-LineFull-clause-does
returns-in-Err-default-LineFull-clause-does c from r far met its =
    let sound = c.in-Err-default-LineFull.ensures.sound in
    let answer = rw c.in-Err-default-LineFull.field-0-1-is at c.in-Err-default-LineFull.ensures.answer in
    send_line_full r from c.args.post.now c.send.new.self far (record { same = sound.same; later = sound.later }) met its c.args.to c.args.name answer.1 answer.2

pub returns-in-Err-default-Full-clause-does : goal.returns-in-Err-default-Full-clause-does
returns-in-Err-default-Full-clause-does c from r far met its =
    let sound = c.in-Err-default-Full.ensures.sound in
    let answer = rw c.in-Err-default-Full.field-0-1-is at c.in-Err-default-Full.ensures.answer in
    send_full r from c.args.post.now c.send.new.self far (record { same = sound.same; later = sound.later }) met its c.args.to c.args.name answer.1 answer.2
