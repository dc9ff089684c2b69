use Rattle.std.proofs.Common.{true, false}
use Rattle.board.proofs.Scanning.{sound-onward}
use Rattle.mailbox.proofs.Parts.{first-part, then-found, then-none, then-any}
use Rattle.mailbox.proofs.any.scan_after.Goals as goal

pub returns-in-Message-clause-answer : goal.returns-in-Message-clause-answer
returns-in-Message-clause-answer c =
    let its = rw (c.in-Message.is, c.board_size-size.ensures.value) at c.peek_among.ensures.answer in
    first-part c.args.post.now c.args.last _ c.peek_among.new.self its

pub returns-in-Ended-clause-sound : goal.returns-in-Ended-clause-sound
returns-in-Ended-clause-sound c = sound-onward _ _ _ c.peek_among.ensures.sound c.peek_among-in-Ended.ensures.sound

pub returns-in-Ended-clause-answer : goal.returns-in-Ended-clause-answer
returns-in-Ended-clause-answer c =
    let its = rw (c.in-Ended.is, c.board_size-size.ensures.value) at c.peek_among.ensures.answer in
    then-any c.args.post.now c.args.last c.peek_among.new.self c.peek_among-in-Ended.new.self c.peek_among-in-Ended.result c.peek_among.ensures.sound its c.peek_among-in-Ended.ensures.answer

pub returns-in-Message-peek_among-clause-sound : goal.returns-in-Message-peek_among-clause-sound
returns-in-Message-peek_among-clause-sound c = sound-onward _ _ _ c.peek_among.ensures.sound c.peek_among-in-Nothing.ensures.sound

pub returns-in-Message-peek_among-clause-answer : goal.returns-in-Message-peek_among-clause-answer
returns-in-Message-peek_among-clause-answer c =
    let its = rw (c.in-Nothing.is, c.board_size-size.ensures.value) at c.peek_among.ensures.answer in
    let found = rw c.in-Message-peek_among.is at c.peek_among-in-Nothing.ensures.answer in
    then-found c.args.post.now c.args.last c.peek_among.new.self false c.peek_among.ensures.sound its _ c.peek_among-in-Nothing.new.self found

pub returns-in-Nothing-peek_among-clause-sound : goal.returns-in-Nothing-peek_among-clause-sound
returns-in-Nothing-peek_among-clause-sound c = sound-onward _ _ _ c.peek_among.ensures.sound c.peek_among-in-Nothing.ensures.sound

pub returns-in-Nothing-peek_among-clause-answer : goal.returns-in-Nothing-peek_among-clause-answer
returns-in-Nothing-peek_among-clause-answer c =
    let its = rw (c.in-Nothing.is, c.board_size-size.ensures.value) at c.peek_among.ensures.answer in
    let none = rw c.in-Nothing-peek_among.is at c.peek_among-in-Nothing.ensures.answer in
    then-none c.args.post.now c.args.last c.peek_among.new.self false c.peek_among.ensures.sound its false c.peek_among-in-Nothing.new.self none

pub returns-in-Ended-peek_among-clause-sound : goal.returns-in-Ended-peek_among-clause-sound
returns-in-Ended-peek_among-clause-sound c = sound-onward _ _ _ c.peek_among.ensures.sound c.peek_among-in-Nothing.ensures.sound

pub returns-in-Ended-peek_among-clause-answer : goal.returns-in-Ended-peek_among-clause-answer
returns-in-Ended-peek_among-clause-answer c =
    let its = rw (c.in-Nothing.is, c.board_size-size.ensures.value) at c.peek_among.ensures.answer in
    let none = rw c.in-Ended-peek_among.is at c.peek_among-in-Nothing.ensures.answer in
    then-none c.args.post.now c.args.last c.peek_among.new.self false c.peek_among.ensures.sound its true c.peek_among-in-Nothing.new.self none
