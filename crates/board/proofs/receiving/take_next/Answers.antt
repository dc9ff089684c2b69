use Rattle.std.proofs.Common.{arith}
use Rattle.board.proofs.Receives.{taken_few, next_taken}
use Rattle.board.proofs.receiving.take_next.Goals as goal

pub overflow_add-end : goal.overflow_add-end
overflow_add-end c = let few = taken_few c.args.lane.now c.args.seat.now.me c.args.end.now c.requires.may_take.taking c.requires.may_take.legal in omega (arith, few)

pub returns-clause-ok : goal.returns-clause-ok
returns-clause-ok c =
    let took = c.in-Ok.ensures in
    next_taken c.args.lane.now c.args.seat.now.me c.args.end.now c.requires.may_take.taking c.requires.may_take.legal c.take_recorded.new.seat.me took.packet.0 c.take_recorded.new.base c.args.region c.args.recorder.now c.take_recorded.new.recorder
    (record { from = c.args.from; message = c.in-Ok.message; report = c.in-Ok.report }) took.emptying took.held took.packet.1 took.vacant took.recorded c.requires.from took.packet.2
