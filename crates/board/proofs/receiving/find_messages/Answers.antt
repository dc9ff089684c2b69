use Rattle.board.proofs.Looking.{look_end, look_ended, look_nothing, then_did, then_found}
use Rattle.board.proofs.receiving.find_messages.Goals as goal

pub find_more-requires-then-end-word-clause-end : goal.find_more-requires-then-end-word-clause-end
find_more-requires-then-end-word-clause-end c = look_end c.args.lane.now c.args.seat.now.me c.look-word.new.seat.me c.args.end.now c.requires.legal c.requires.own c.requires.end c.look-word.result c.look-word.ensures.looks

pub returns-then-end-word-clause-did : goal.returns-then-end-word-clause-did
returns-then-end-word-clause-did c = then_did c.args.lane.now c.args.seat.now.me c.look-word.new.seat.me c.args.end.now c.requires.legal c.requires.own c.requires.end c.look-word.result c.look-word.ensures.looks c.find_more-then-end-word.new.seat.me c.find_more-then-end-word.ensures.did

pub returns-then-end-word-clause-found : goal.returns-then-end-word-clause-found
returns-then-end-word-clause-found c = then_found c.args.lane.now c.args.seat.now.me c.look-word.new.seat.me c.args.end.now c.requires.legal c.requires.own c.requires.end c.look-word.result c.look-word.ensures.looks c.find_more-then-end-word.new.seat.me c.find_more-then-end-word.ensures.did c.find_more-then-end-word.result c.find_more-then-end-word.ensures.found

pub returns-then-word-eq1-clause-end : goal.returns-then-word-eq1-clause-end
returns-then-word-eq1-clause-end c = look_end c.args.lane.now c.args.seat.now.me c.look-word.new.seat.me c.args.end.now c.requires.legal c.requires.own c.requires.end c.look-word.result c.look-word.ensures.looks

pub returns-then-word-eq1-clause-found : goal.returns-then-word-eq1-clause-found
returns-then-word-eq1-clause-found c = look_ended c.args.lane.now c.args.seat.now.me c.look-word.new.seat.me c.args.end.now c.requires.legal c.requires.own c.requires.end c.look-word.result c.look-word.ensures.looks c.if-end-word.false c.if-word-eq1.true

pub returns-else-word-eq1-clause-end : goal.returns-else-word-eq1-clause-end
returns-else-word-eq1-clause-end c = look_end c.args.lane.now c.args.seat.now.me c.look-word.new.seat.me c.args.end.now c.requires.legal c.requires.own c.requires.end c.look-word.result c.look-word.ensures.looks

pub returns-else-word-eq1-clause-found : goal.returns-else-word-eq1-clause-found
returns-else-word-eq1-clause-found c = look_nothing c.args.lane.now c.args.seat.now.me c.look-word.new.seat.me c.args.end.now c.requires.legal c.requires.own c.requires.end c.look-word.result c.look-word.ensures.looks c.if-end-word.false c.if-word-eq1.false
