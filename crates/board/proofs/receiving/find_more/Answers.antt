use Rattle.std.proofs.Common.{arith}
use Rattle.board.proofs.Finding.{kept_end, messages_again, fresh_end, messages_anew, ended, nothing, back_end}
use Rattle.board.proofs.receiving.find_more.Goals as goal

pub returns-then-saturating_sub-many-clause-end : goal.returns-then-saturating_sub-many-clause-end
returns-then-saturating_sub-many-clause-end c = kept_end c.args.lane.now c.args.seat.now.me c.find_again.new.seat.me c.args.end.now c.requires.legal c.requires.own c.requires.rests c.requires.end c.find_again.ensures.finds.finds

pub returns-then-saturating_sub-many-clause-found : goal.returns-then-saturating_sub-many-clause-found
returns-then-saturating_sub-many-clause-found c = messages_again c.args.lane.now c.args.seat.now.me c.find_again.new.seat.me c.args.end.now c.requires.legal c.requires.own c.requires.rests c.requires.end c.find_again.ensures.finds.finds (omega (arith, c.if-saturating_sub-many.true, c.saturating_sub.ensures, c.requires.some))

pub returns-then-end-clause-end : goal.returns-then-end-clause-end
returns-then-end-clause-end c = fresh_end c.args.lane.now c.args.seat.now.me c.find_anew-word.new.seat.me c.args.end.now c.requires.legal c.requires.own c.requires.rests c.requires.end c.find_anew-word.result c.find_anew-word.ensures.finds

pub returns-then-end-clause-found : goal.returns-then-end-clause-found
returns-then-end-clause-found c = messages_anew c.args.lane.now c.args.seat.now.me c.find_anew-word.new.seat.me c.args.end.now c.requires.legal c.requires.own c.requires.rests c.requires.end c.find_anew-word.result c.find_anew-word.ensures.finds c.if-end.true

pub returns-then-word-eq1-clause-end : goal.returns-then-word-eq1-clause-end
returns-then-word-eq1-clause-end c = back_end c.args.lane.now c.args.seat.now.me c.find_anew-word.new.seat.me c.args.end.now c.requires.legal c.requires.own c.requires.rests c.requires.end c.give_back_full.new.seat.me _ c.give_back_full.ensures.puts_back (fresh_end c.args.lane.now c.args.seat.now.me c.find_anew-word.new.seat.me c.args.end.now c.requires.legal c.requires.own c.requires.rests c.requires.end c.find_anew-word.result c.find_anew-word.ensures.finds)

pub returns-then-word-eq1-clause-found : goal.returns-then-word-eq1-clause-found
returns-then-word-eq1-clause-found c = ended c.args.lane.now c.args.seat.now.me c.find_anew-word.new.seat.me c.args.end.now c.requires.legal c.requires.own c.requires.rests c.requires.end c.find_anew-word.result c.find_anew-word.ensures.finds c.give_back_full.new.seat.me c.give_back_full.ensures.puts_back c.if-end.false c.if-word-eq1.true

pub returns-else-word-eq1-clause-end : goal.returns-else-word-eq1-clause-end
returns-else-word-eq1-clause-end c = back_end c.args.lane.now c.args.seat.now.me c.find_anew-word.new.seat.me c.args.end.now c.requires.legal c.requires.own c.requires.rests c.requires.end c.give_back_full.new.seat.me _ c.give_back_full.ensures.puts_back (fresh_end c.args.lane.now c.args.seat.now.me c.find_anew-word.new.seat.me c.args.end.now c.requires.legal c.requires.own c.requires.rests c.requires.end c.find_anew-word.result c.find_anew-word.ensures.finds)

pub returns-else-word-eq1-clause-found : goal.returns-else-word-eq1-clause-found
returns-else-word-eq1-clause-found c = nothing c.args.lane.now c.args.seat.now.me c.find_anew-word.new.seat.me c.args.end.now c.requires.legal c.requires.own c.requires.rests c.requires.end c.find_anew-word.result c.find_anew-word.ensures.finds c.give_back_full.new.seat.me c.give_back_full.ensures.puts_back c.if-end.false c.if-word-eq1.false
