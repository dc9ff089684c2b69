use Rattle.std.proofs.Common.{arith}
use Rattle.board.proofs.Claiming.{known_least, kept_end, slots_again, fresh_end, slots_anew, no_slots, back_end}
use Rattle.board.proofs.sending.claim_slots.Goals as goal

pub overflow_sub-used : goal.overflow_sub-used
overflow_sub-used c = omega (arith, known_least _ _ _ _ _ c.args.end.now c.requires.legal c.requires.end)

pub returns-then-used-many-clause-end : goal.returns-then-used-many-clause-end
returns-then-used-many-clause-end c = kept_end c.args.lane.now c.args.seat.now.me c.claim_again.new.seat.me c.args.end.now c.args.many c.requires.legal c.requires.own c.requires.rests c.requires.end c.claim_again.ensures.claims.claims

pub returns-then-used-many-clause-yes : goal.returns-then-used-many-clause-yes
returns-then-used-many-clause-yes c = λ yes. slots_again c.args.lane.now c.args.seat.now.me c.claim_again.new.seat.me c.args.end.now c.args.many c.requires.legal c.requires.own c.requires.rests c.requires.end c.claim_again.ensures.claims.claims (omega arith)

pub overflow_sub-end : goal.overflow_sub-end
overflow_sub-end c =
    let fresh = fresh_end c.args.lane.now c.args.seat.now.me c.claim_anew-end.new.seat.me c.args.end.now c.args.many c.requires.legal c.requires.own c.requires.rests c.requires.end c.claim_anew-end.result c.claim_anew-end.ensures.claims in
    omega (arith, known_least _ _ _ _ _ _ c.claim_anew-end.ensures.claims.claims.sees.legal fresh)

pub returns-then-end-many-clause-end : goal.returns-then-end-many-clause-end
returns-then-end-many-clause-end c = fresh_end c.args.lane.now c.args.seat.now.me c.claim_anew-end.new.seat.me c.args.end.now c.args.many c.requires.legal c.requires.own c.requires.rests c.requires.end c.claim_anew-end.result c.claim_anew-end.ensures.claims

pub returns-then-end-many-clause-yes : goal.returns-then-end-many-clause-yes
returns-then-end-many-clause-yes c = λ yes. slots_anew c.args.lane.now c.args.seat.now.me c.claim_anew-end.new.seat.me c.args.end.now c.args.many c.requires.legal c.requires.own c.requires.rests c.requires.end c.claim_anew-end.result c.claim_anew-end.ensures.claims (omega arith)

pub returns-clause-end : goal.returns-clause-end
returns-clause-end c =
    let fresh = fresh_end c.args.lane.now c.args.seat.now.me c.claim_anew-end.new.seat.me c.args.end.now c.args.many c.requires.legal c.requires.own c.requires.rests c.requires.end c.claim_anew-end.result c.claim_anew-end.ensures.claims in
    back_end c.args.lane.now c.args.seat.now.me c.claim_anew-end.new.seat.me c.args.end.now c.args.many c.requires.legal c.requires.own c.requires.rests c.requires.end c.give_back_vacant.new.seat.me _ c.give_back_vacant.ensures.puts_back fresh

pub returns-clause-no : goal.returns-clause-no
returns-clause-no c = λ no. no_slots c.args.lane.now c.args.seat.now.me c.claim_anew-end.new.seat.me c.args.end.now c.args.many c.requires.legal c.requires.own c.requires.rests c.requires.end c.give_back_vacant.new.seat.me c.claim_anew-end.result c.claim_anew-end.ensures.claims c.give_back_vacant.ensures.puts_back (omega arith)

pub returns-clause-looks : goal.returns-clause-looks
returns-clause-looks c = λ enough. absurd (omega (arith, known_least _ _ _ _ _ c.args.end.now c.requires.legal c.requires.end, c.if-used-many.false, c.requires.capacity, enough))
