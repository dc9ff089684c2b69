use Rattle.std.proofs.Common.{◌<◌, ◌∙◌, ℕ, [], ◌∷◌, length, sym, ap, arith}
use Rattle.chart.specs.Histories.{received}
use Rattle.chart.proofs.Histories.{received_own}
use Rattle.board_table.specs.Knowing.{held}
use Rattle.board.proofs.Untaught.{Untaught, nothing_new}
use Rattle.board.proofs.PostLemmas.{post_saw, post_sends}
use Rattle.board.proofs.SendAnswers.{outgoing_at, may_put, unsent, did_sound, did_makes, did_stays}
use Rattle.board.proofs.parked.Parked.send.Goals as goal
use Rattle.board.proofs.parked.Parked.send.Goals.{in-Ok, in-Err}

pub send_one-requires-clause-may_put : goal.send_one-requires-clause-may_put
send_one-requires-clause-may_put c =
    let may = rw (← c.self.view_is) at c.in_default.ensures.none in
    let end = outgoing_at _ _ _ _ _ _ _ _ c.self.invariant c.args.to c.place.result c.index_mut-end.result.now c.place.ensures.value (λ e. may.allowed.two.4 (sym e)) may.allowed.two.3 c.index_mut-end.ensures.value in
    rw c.new-lane.ensures (may_put _ _ c.self.inside.seat.me _ _ _ _ _ _ _ c.self.invariant c.args.to 1 may _ end)

pub invariant_of-self : goal.invariant_of-self
invariant_of-self c =
    let may = rw (← c.self.view_is) at c.in_default.ensures.none in
    let rests = rw c.new-lane.ensures at c.send_one.ensures.rests in
    let recorder = rw c.new-lane.ensures at c.send_one.ensures.recorder in
    let end = rw (c.new-lane.ensures, c.place.ensures.value) at c.send_one.ensures.end in
    let within : c.place.result < length c.self.inside.outgoing.items = omega (arith, c.self.invariant.knows.ends.as_many, c.place.ensures.value, may.allowed.two.3) in
    elim c.match-send_one.branch [
      | in-Ok w ↦
          let did = rw (c.new-lane.ensures, c.place.ensures.value) at w.in-Ok.ensures.ok in
          post_sends _ _ _ _ _ _ _ _ _ _ c.self.invariant rests recorder c.place.result _ within end _ (c.args.message ∷ []) may.allowed.outside did
      | in-Err w ↦
          let unmade = rw c.new-lane.ensures at w.in-Err.ensures.err in
          post_saw _ _ _ _ _ _ _ _ _ _ c.self.invariant rests recorder c.place.result _ within end unmade.1.did
    ]

pub returns-clause-sound : goal.returns-clause-sound
returns-clause-sound c =
    elim c.match-send_one.branch [
      | in-Ok w ↦
          let did = rw c.new-lane.ensures at w.in-Ok.ensures.ok in
          rw (← c.self.view_is, c.send_one.ensures.table) (did_sound c.self.inside.seat.table_id c.self.inside.seat.me c.send_one.new.seat.me _ _ _ c.self.inside.region c.self.inside.recorder.room _ _ did c.self.inside.region c.send_one.new.recorder.room)
      | in-Err w ↦
          let unmade = rw c.new-lane.ensures at w.in-Err.ensures.err in
          rw (← c.self.view_is, c.send_one.ensures.table) (did_sound c.self.inside.seat.table_id c.self.inside.seat.me c.send_one.new.seat.me _ _ _ c.self.inside.region c.self.inside.recorder.room _ _ unmade.1.did c.self.inside.region c.send_one.new.recorder.room)
    ]

pub returns-clause-answer : goal.returns-clause-answer
returns-clause-answer c =
    let may = rw (← c.self.view_is) at c.in_default.ensures.none in
    let recorder = rw c.new-lane.ensures at c.send_one.ensures.recorder in
    elim c.match-send_one.branch [
      | in-Ok w ↦
          let did = rw c.new-lane.ensures at w.in-Ok.ensures.ok in
          rw (w.result-is, ← c.self.view_is, c.send_one.ensures.table) (record {
            allowed = may.allowed;
            makes = (_, did_makes c.self.inside.seat.table_id c.self.inside.seat.me c.send_one.new.seat.me _ _ _ c.self.inside.region c.self.inside.recorder.room _ _ did c.send_one.new.recorder.room);
            event = ap (λ (i : ℕ). record { instance = c.self.inside.number; index = i }) (w.len.ensures.value ∙ ap (λ l. length l.events) (w.line.ensures ∙ recorder.line));
            room = w.in-Ok.ensures.left;
          })
      | in-Err w ↦
          let unmade = rw c.new-lane.ensures at w.in-Err.ensures.err in
          rw (w.result-is, ← c.self.view_is, c.send_one.ensures.table) (unmade.0, did_stays c.self.inside.seat.table_id c.self.inside.seat.me c.send_one.new.seat.me _ _ _ c.self.inside.region c.self.inside.recorder.room c.send_one.new.recorder.room unmade.1.did w.in-Err.ensures.kept, unsent _ _ c.send_one.new.seat.me _ _ _ _ _ _ _ c.self.invariant c.args.to 1 may c.send_one.new.recorder.room c.new-lane.result c.new-lane.ensures _ unmade.1.did (omega arith) w.in-Err.ensures.err.1.cause)
    ]

pub returns-clause-alone : goal.returns-clause-alone
returns-clause-alone c = λ room nothing.
    let may = rw (← c.self.view_is) at c.in_default.ensures.none in
    let post = c.self.invariant in
    let n = c.self.inside.shape.instances in
    let h = (held c.self.inside.seat.me).seen in
    let p = c.self.inside.number in
    let none = rw (← c.self.view_is) at nothing in
    let untaught : Untaught h p = λ q. sym (received_own h q p) ∙ ap (λ x. received x q p) post.made ∙ none q in
    let end = outgoing_at _ _ _ _ _ _ _ _ post c.args.to c.place.result c.index_mut-end.result.now c.place.ensures.value (λ e. may.allowed.two.4 (sym e)) may.allowed.two.3 c.index_mut-end.ensures.value in
    let agree = nothing_new n h p c.args.to c.index_mut-end.result.now c.self.inside.recorder untaught end post.knows.own.recorder in
    let some = rw (← c.self.view_is) at room in
    elim c.match-send_one.branch [
      | in-Ok w ↦ rw w.result-is tt
      | in-Err w ↦ rw w.result-is (w.in-Err.ensures.alone some (rw c.new-lane.ensures agree))
    ]
