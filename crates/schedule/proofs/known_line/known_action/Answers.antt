use Rattle.schedule.proofs.KnownLines.{action_is}
use Rattle.schedule.proofs.known_line.known_action.Goals as goal

pub returns-in-115 : goal.returns-in-115
returns-in-115 c =
    let words = rw c.in-Some.is at c.next_word.ensures.words in
    rw (action_is c.args.names.now c.args.line.now c.next_word.result.0.now c.in-Some.rest.now words) c.send_by.ensures

pub returns-in-114 : goal.returns-in-114
returns-in-114 c =
    let words = rw c.in-Some.is at c.next_word.ensures.words in
    rw (action_is c.args.names.now c.args.line.now c.next_word.result.0.now c.in-Some.rest.now words) c.receive_by.ensures
