use Rattle.std.proofs.Common.{◌≡◌, ◌<◌, ◌-◌, ◌∙◌, ℕ, suc, length, drop, replicate, sym, subst, arith}
use Rattle.chart.specs.declared.history.Occurrence.TheVariants.{Receive}
use Rattle.board_table.specs.Knowing.{held}
use Rattle.board.specs.Known.{Did}
use Rattle.board.proofs.SendAnswers.{did_sound}
use Rattle.board.proofs.ReceiveAnswers.{did_onward, incoming_at, recorder_then, may_receive, post_looked, post_received, got_many, stopped}
use Rattle.board.proofs.parked.Parked.receive_up_to.Goals as goal

pub find_messages-requires-clause-end : goal.find_messages-requires-clause-end
find_messages-requires-clause-end c =
    let its = rw (← c.self.view_is) at c.in_ok-lane.ensures.ok in
    rw its.is (incoming_at _ _ _ _ _ _ _ _ c.self.invariant c.args.from c.place.result c.index_mut-end.result.now c.place.ensures.value (λ e. its.two.4 (sym e)) its.two.3 c.index_mut-end.ensures.value)

pub invariant_of-self : goal.invariant_of-self
invariant_of-self c =
    let its = rw (← c.self.view_is) at c.in_ok-lane.ensures.ok in
    let post = c.self.invariant in
    let did = rw its.is at c.find_messages.ensures.did in
    let within : c.place.result < length c.self.inside.incoming.items = omega (arith, post.knows.ends.of_each, c.place.ensures.value, its.two.3) in
    let end = rw (its.is, c.place.ensures.value) at c.find_messages.ensures.end in
    let rests = rw its.is at c.in-Nothing.ensures.found.rests in
    post_looked _ _ _ _ _ _ _ _ post _ _ rests (recorder_then _ _ _ _ _ _ _ _ post c.find_messages.new.seat.me did) c.place.result _ within end did

pub invariant_of-self-in-Ended : goal.invariant_of-self-in-Ended
invariant_of-self-in-Ended c =
    let its = rw (← c.self.view_is) at c.in_ok-lane.ensures.ok in
    let post = c.self.invariant in
    let did = rw its.is at c.find_messages.ensures.did in
    let within : c.place.result < length c.self.inside.incoming.items = omega (arith, post.knows.ends.of_each, c.place.ensures.value, its.two.3) in
    let end = rw (its.is, c.place.ensures.value) at c.find_messages.ensures.end in
    let rests = rw its.is at c.in-Ended.ensures.found.rests in
    post_looked _ _ _ _ _ _ _ _ post _ _ rests (recorder_then _ _ _ _ _ _ _ _ post c.find_messages.new.seat.me did) c.place.result _ within end did

pub receive_several-requires-clause-may_receive : goal.receive_several-requires-clause-may_receive
receive_several-requires-clause-may_receive c =
    let its = rw (← c.self.view_is) at c.in_ok-lane.ensures.ok in
    let post = c.self.invariant in
    let did = rw its.is at c.find_messages.ensures.did in
    let found = rw its.is at c.in-Messages.ensures.found in
    let end = rw its.is at c.find_messages.ensures.end in
    rw its.is (may_receive _ _ _ _ _ _ _ _ post c.find_messages.new.seat.me did c.args.from c.find_messages.new.end its.two found end)

pub invariant_of-self-in_err-arrivals : goal.invariant_of-self-in_err-arrivals
invariant_of-self-in_err-arrivals c =
    let its = rw (← c.self.view_is) at c.in_ok-lane.ensures.ok in
    let post = c.self.invariant in
    let did = rw its.is at c.find_messages.ensures.did in
    let within : c.place.result < length c.self.inside.incoming.items = omega (arith, post.knows.ends.of_each, c.place.ensures.value, its.two.3) in
    let rests = rw its.is at c.receive_several.ensures.rests in
    let recorder = rw its.is at c.receive_several.ensures.recorder in
    let end = rw (its.is, c.place.ensures.value) at c.receive_several.ensures.end in
    let unmade = rw its.is at c.in_err-arrivals.ensures.err in
    let then_ = did_onward _ _ _ (held c.self.inside.seat.me) (held c.find_messages.new.seat.me) (held c.receive_several.new.seat.me) _ _ did unmade.did in
    post_looked _ _ _ _ _ _ _ _ post _ _ rests recorder c.place.result _ within end then_

pub returns-in_err-arrivals-clause-sound : goal.returns-in_err-arrivals-clause-sound
returns-in_err-arrivals-clause-sound c =
    let its = rw (← c.self.view_is) at c.in_ok-lane.ensures.ok in
    let did = rw its.is at c.find_messages.ensures.did in
    let unmade = rw its.is at c.in_err-arrivals.ensures.err in
    let then_ = did_onward _ _ _ (held c.self.inside.seat.me) (held c.find_messages.new.seat.me) (held c.receive_several.new.seat.me) _ _ did unmade.did in
    rw (← c.self.view_is, c.receive_several.ensures.table ∙ c.find_messages.ensures.table) (did_sound c.self.inside.seat.table_id c.self.inside.seat.me c.receive_several.new.seat.me _ _ _ c.self.inside.region c.self.inside.recorder.room _ _ then_ c.self.inside.region c.receive_several.new.recorder.room)

pub invariant_of-self-2 : goal.invariant_of-self-2
invariant_of-self-2 c =
    let its = rw (← c.self.view_is) at c.in_ok-lane.ensures.ok in
    let post = c.self.invariant in
    let did = rw its.is at c.find_messages.ensures.did in
    let within : c.place.result < length c.self.inside.incoming.items = omega (arith, post.knows.ends.of_each, c.place.ensures.value, its.two.3) in
    let rests = rw its.is at c.receive_several.ensures.rests in
    let recorder = rw its.is at c.receive_several.ensures.recorder in
    let end = rw (its.is, c.place.ensures.value) at c.receive_several.ensures.end in
    let made = rw (its.is, c.place.ensures.value) at c.in_ok-arrivals.ensures.received in
    let many = length c.in_ok-arrivals.arrivals.items in
    let some : many ≡ suc (many - 1) = omega (arith, c.in_ok-arrivals.ensures.some) in
    let then_ = did_onward _ _ _ (held c.self.inside.seat.me) (held c.find_messages.new.seat.me) (held c.receive_several.new.seat.me) _ _ did made.did in
    post_received _ _ _ _ _ _ _ _ post _ _ rests recorder c.place.result _ within end _ (many - 1)
    (subst (λ (i : ℕ). Did c.self.inside.shape.instances c.self.inside.shape.capacity c.self.inside.number (held c.self.inside.seat.me) (held c.receive_several.new.seat.me) (drop many (held c.receive_several.new.seat.me).seen) (replicate i (Receive c.self.inside.number (suc c.place.result) c.self.inside.region))) some then_)

pub returns-clause-sound : goal.returns-clause-sound
returns-clause-sound c =
    let its = rw (← c.self.view_is) at c.in_ok-lane.ensures.ok in
    let did = rw its.is at c.find_messages.ensures.did in
    let made = rw (its.is, c.place.ensures.value) at c.in_ok-arrivals.ensures.received in
    let then_ = did_onward _ _ _ (held c.self.inside.seat.me) (held c.find_messages.new.seat.me) (held c.receive_several.new.seat.me) _ _ did made.did in
    rw (← c.self.view_is, c.receive_several.ensures.table ∙ c.find_messages.ensures.table) (did_sound c.self.inside.seat.table_id c.self.inside.seat.me c.receive_several.new.seat.me _ _ _ c.self.inside.region c.self.inside.recorder.room _ _ then_ c.self.inside.region c.receive_several.new.recorder.room)

pub returns-clause-answer : goal.returns-clause-answer
returns-clause-answer c =
    let its = rw (← c.self.view_is) at c.in_ok-lane.ensures.ok in
    let did = rw its.is at c.find_messages.ensures.did in
    let made = rw its.is at c.in_ok-arrivals.ensures.received in
    let stop = rw its.is at c.in_ok-arrivals.ensures.stop in
    rw (← c.self.view_is, c.receive_several.ensures.table ∙ c.find_messages.ensures.table) (
      got_many _ _ _ _ _ _ _ _ c.self.invariant c.self.inside.seat.table_id c.args.from its.two c.find_messages.new.seat.me c.receive_several.new.seat.me c.receive_several.new.recorder.room _ did c.in_ok-arrivals.ensures.some made c.in_ok-arrivals.ensures.left,
      c.in_ok-arrivals.ensures.most,
      stopped _ _ _ _ _ _ _ _ c.self.invariant c.self.inside.seat.table_id c.args.from its.two c.find_messages.new.seat.me c.receive_several.new.seat.me c.receive_several.new.recorder.room c.args.max _ c.in_ok-arrivals.stop did made stop,
    )
