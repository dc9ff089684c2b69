use Rattle.std.proofs.Common.{rules, ◌≡◌, ◌≢◌, ◌<◌, length, sym, arith}
use Rattle.board.proofs.SendAnswers.{outgoing_at, may_put}
use Rattle.board.proofs.SendAllAnswers.{sent_none, sound_all, answer_all, post_all}
use Rattle.board.proofs.parked.Parked.send_all.Goals as goal

pub returns-then-is_empty-clause-answer : goal.returns-then-is_empty-clause-answer
returns-then-is_empty-clause-answer c =
    let may = c.in_default.ensures.none in
    let none : length c.args.messages.items ≡ 0 = search rules in
    sent_none _ _ c.args.messages.items c.new.result.items none c.new.ensures.items may.allowed

pub send_several-requires-clause-may_put : goal.send_several-requires-clause-may_put
send_several-requires-clause-may_put c =
    let many : c.len.result ≡ length c.args.messages.items = search rules in
    let may = rw (← c.self.view_is, many) at c.in_default.ensures.none in
    let end = outgoing_at _ _ _ _ _ _ _ _ c.self.invariant c.args.to c.place.result c.index_mut-end.result.now c.place.ensures.value (λ e. may.allowed.two.4 (sym e)) may.allowed.two.3 c.index_mut-end.ensures.value in
    rw c.new-lane.ensures (may_put _ _ c.self.inside.seat.me _ _ _ _ _ _ _ c.self.invariant c.args.to _ may _ end)

pub invariant_of-self : goal.invariant_of-self
invariant_of-self c =
    let may = rw (← c.self.view_is) at c.in_default.ensures.none in
    let rests = rw c.new-lane.ensures at c.send_several.ensures.rests in
    let recorder = rw c.new-lane.ensures at c.send_several.ensures.recorder in
    let end = rw (c.new-lane.ensures, c.place.ensures.value) at c.send_several.ensures.end in
    let made = rw (c.new-lane.ensures, c.place.ensures.value) at c.send_several.ensures.ok in
    let unmade = rw (c.new-lane.ensures, c.place.ensures.value) at c.send_several.ensures.err in
    let within : c.place.result < length c.self.inside.outgoing.items = omega (arith, c.self.invariant.knows.ends.as_many, c.place.ensures.value, may.allowed.two.3) in
    post_all _ _ _ _ _ _ _ _ _ _ c.self.invariant rests recorder c.place.result _ within end may.allowed.outside c.args.messages.items c.send_several.result made unmade

pub returns-clause-sound : goal.returns-clause-sound
returns-clause-sound c =
    let made = rw c.new-lane.ensures at c.send_several.ensures.ok in
    let unmade = rw c.new-lane.ensures at c.send_several.ensures.err in
    rw (← c.self.view_is, c.send_several.ensures.table) (sound_all c.self.inside.seat.table_id c.self.inside.seat.me c.send_several.new.seat.me _ _ _ c.self.inside.region c.self.inside.recorder.room c.send_several.new.recorder.room c.args.to c.args.messages.items c.send_several.result made unmade)

pub returns-clause-answer : goal.returns-clause-answer
returns-clause-answer c =
    let many : c.len.result ≡ length c.args.messages.items = search rules in
    let may = rw (← c.self.view_is, many) at c.in_default.ensures.none in
    let some : length c.args.messages.items ≢ 0 = search rules in
    let made = rw c.new-lane.ensures at c.send_several.ensures.ok in
    let unmade = rw c.new-lane.ensures at c.send_several.ensures.err in
    rw (← c.self.view_is, c.send_several.ensures.table) (answer_all _ _ c.send_several.new.seat.me _ _ _ _ _ _ _ c.self.invariant c.args.to c.send_several.new.recorder.room c.args.messages.items may (omega (arith, some)) c.send_several.result made unmade c.send_several.ensures.left c.send_several.ensures.kept)
