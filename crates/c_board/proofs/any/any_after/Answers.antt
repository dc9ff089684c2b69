use Rattle.std.proofs.Common.{Ok}
use Rattle.board.specs.declared.answer.Taken.TheVariants.{Nothing, Ended}
use Rattle.board.proofs.Scanning.{sound-onward}
use Rattle.mailbox.proofs.Looks.{looked-among, looked-all, message-among}
use Rattle.mailbox.proofs.Parts.{MayScan, is-any}
use Rattle.c_board.proofs.any.any_after.Goals as goal

pub returns-in-Message-clause-sound : goal.returns-in-Message-clause-sound
returns-in-Message-clause-sound c = sound-onward _ _ _ c.scan_after.ensures.sound c.receive_found.ensures.sound

pub returns-in-Message-clause-answer : goal.returns-in-Message-clause-answer
returns-in-Message-clause-answer c =
    let size = c.board_size-size.ensures in
    let may : MayScan c.args.post.now c.args.last = record { among = size.among; known = c.requires.known } in
    let its = rw c.in-Message.is at c.scan_after.ensures.answer in
    let both = message-among _ _ _ _ _ _ size.sound its c.receive_found.ensures.sound c.receive_found.ensures.answer in
    is-any c.args.post.now c.args.last may _ _ both.0 both.1

pub returns-in-Nothing-clause-answer : goal.returns-in-Nothing-clause-answer
returns-in-Nothing-clause-answer c =
    let size = c.board_size-size.ensures in
    let may : MayScan c.args.post.now c.args.last = record { among = size.among; known = c.requires.known } in
    let its = rw c.in-Nothing.is at c.scan_after.ensures.answer in
    let all = looked-all _ _ _ _ (looked-among _ _ _ _ size.sound its) in
    is-any c.args.post.now c.args.last may c.scan_after.new.post (Ok Nothing) (all.0, all.1) all.2

pub returns-in-Ended-clause-answer : goal.returns-in-Ended-clause-answer
returns-in-Ended-clause-answer c =
    let size = c.board_size-size.ensures in
    let may : MayScan c.args.post.now c.args.last = record { among = size.among; known = c.requires.known } in
    let its = rw c.in-Ended.is at c.scan_after.ensures.answer in
    let all = looked-all _ _ _ _ (looked-among _ _ _ _ size.sound its) in
    is-any c.args.post.now c.args.last may c.scan_after.new.post (Ok Ended) (all.0, all.1) all.2
