use Rattle.std.proofs.Common.{◌≢◌, ◌<◌, ◌∙◌, length, refl, sym, arith}
use Rattle.std.proofs.lemmas.Bool.{eqb-false}
use Rattle.board.proofs.SendAnswers.{outgoing_at, closed_made, did_sound, did_makes}
use Rattle.board.proofs.Closes.{put_few, close_did, post_closed}
use Rattle.board.proofs.parked.Parked.close.Goals as goal

pub returns-then-end-clause-answer : goal.returns-then-end-clause-answer
returns-then-end-clause-answer c =
    let post = c.self.invariant in
    let ne : c.args.to ≢ c.self.inside.number = eqb-false _ _ (sym c.if-eq.ensures) in
    let end = outgoing_at _ _ _ _ _ _ _ _ post c.args.to c.place.result c.index_mut-end.result.now c.place.ensures.value ne (omega arith) c.index_mut-end.ensures.value in
    rw (← c.self.view_is) (refl, ((post.least, post.most, omega arith, omega arith, λ e. ne (sym e)), closed_made _ _ _ _ _ _ _ _ post c.args.to c.index_mut-end.result.now end ∙ c.if-end.true))

pub close-requires-clause-count : goal.close-requires-clause-count
close-requires-clause-count c =
    let ne : c.args.to ≢ c.self.inside.number = eqb-false _ _ (sym c.if-eq.ensures) in
    let end = outgoing_at _ _ _ _ _ _ _ _ c.self.invariant c.args.to c.place.result c.index_mut-end.result.now c.place.ensures.value ne (omega arith) c.index_mut-end.ensures.value in
    rw c.new-lane.ensures end.put

pub close-requires-clause-within_limit : goal.close-requires-clause-within_limit
close-requires-clause-within_limit c =
    let ne : c.args.to ≢ c.self.inside.number = eqb-false _ _ (sym c.if-eq.ensures) in
    let end = outgoing_at _ _ _ _ _ _ _ _ c.self.invariant c.args.to c.place.result c.index_mut-end.result.now c.place.ensures.value ne (omega arith) c.index_mut-end.ensures.value in
    put_few _ _ _ _ _ _ c.self.invariant.knows.legal end

pub close-requires-clause-unclosed : goal.close-requires-clause-unclosed
close-requires-clause-unclosed c =
    let ne : c.args.to ≢ c.self.inside.number = eqb-false _ _ (sym c.if-eq.ensures) in
    let end = outgoing_at _ _ _ _ _ _ _ _ c.self.invariant c.args.to c.place.result c.index_mut-end.result.now c.place.ensures.value ne (omega arith) c.index_mut-end.ensures.value in
    rw c.new-lane.ensures (sym end.unsent ∙ c.if-end.false)

pub invariant_of-self-2 : goal.invariant_of-self-2
invariant_of-self-2 c =
    let post = c.self.invariant in
    let ne : c.args.to ≢ c.self.inside.number = eqb-false _ _ (sym c.if-eq.ensures) in
    let end = outgoing_at _ _ _ _ _ _ _ _ post c.args.to c.place.result c.index_mut-end.result.now c.place.ensures.value ne (omega arith) c.index_mut-end.ensures.value in
    let within : c.place.result < length c.self.inside.outgoing.items = omega (arith, post.knows.ends.as_many, c.place.ensures.value) in
    post_closed c.self.inside.seat.me c.close.new.seat.me _ _ _ _ _ _ _ post c.new-lane.result c.place.result (rw c.place.ensures.value at c.new-lane.ensures) c.close.ensures.closes _ within (rw c.place.ensures.value at end)

pub returns-clause-sound : goal.returns-clause-sound
returns-clause-sound c =
    let did = close_did c.self.inside.seat.me c.close.new.seat.me _ _ _ _ _ _ _ c.self.invariant c.new-lane.result c.place.result (rw c.place.ensures.value at c.new-lane.ensures) c.close.ensures.closes in
    rw (← c.self.view_is, c.close.ensures.table.0) (did_sound c.self.inside.seat.table_id c.self.inside.seat.me c.close.new.seat.me _ _ _ c.self.inside.region c.self.inside.recorder.room _ _ did c.self.inside.region c.self.inside.recorder.room)

pub returns-clause-answer : goal.returns-clause-answer
returns-clause-answer c =
    let post = c.self.invariant in
    let ne : c.args.to ≢ c.self.inside.number = eqb-false _ _ (sym c.if-eq.ensures) in
    let end = outgoing_at _ _ _ _ _ _ _ _ post c.args.to c.place.result c.index_mut-end.result.now c.place.ensures.value ne (omega arith) c.index_mut-end.ensures.value in
    let did = close_did c.self.inside.seat.me c.close.new.seat.me _ _ _ _ _ _ _ post c.new-lane.result c.place.result (rw c.place.ensures.value at c.new-lane.ensures) c.close.ensures.closes in
    rw (← c.self.view_is, c.close.ensures.table.0, c.place.ensures.value) (record {
      two = (post.least, post.most, omega arith, omega arith, λ e. ne (c.place.ensures.value ∙ sym e));
      opened = (rw c.place.ensures.value at (closed_made _ _ _ _ _ _ _ _ post c.args.to c.index_mut-end.result.now end)) ∙ c.if-end.false;
      makes = (_, did_makes c.self.inside.seat.table_id c.self.inside.seat.me c.close.new.seat.me _ _ _ c.self.inside.region c.self.inside.recorder.room _ _ did c.self.inside.recorder.room);
      room = refl;
    })
