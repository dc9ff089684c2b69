use Rattle.std.proofs.Common.{◌<◌, ◌≤◌, ◌*◌, suc, length, refl, sym, arith}
use Rattle.board_table.specs.Layout.{LaneView}
use Rattle.board_table.specs.Knowing.{held}
use Rattle.board.proofs.ReceiveAnswers.{incoming_at, recorder_then, post_looked}
use Rattle.board.proofs.Looking.{known_waits, look_did, look_end, look_fresh, look_twice, look_waits, look_ended, look_nothing}
use Rattle.board.proofs.parked.Parked.peek_at.Goals as goal

pub returns-then-taken-end-clause-answer : goal.returns-then-taken-end-clause-answer
returns-then-taken-end-clause-answer c =
    let its = rw (← c.self.view_is) at c.requires.lane in
    let post = c.self.invariant in
    let end = incoming_at _ _ _ _ _ _ _ _ post (suc c.args.place) c.args.place c.index_mut-end.result.now refl (λ e. its.two.4 (sym e)) its.two.3 c.index_mut-end.ensures.value in
    rw (← c.self.view_is) (
      record { made = refl; region = refl; room = refl },
      record { two = its.two; waits = known_waits _ _ (held c.self.inside.seat.me).seen _ _ _ post.knows.legal end c.if-taken-end.true },
    )

pub overflow_mul-taken : goal.overflow_mul-taken
overflow_mul-taken c =
    let its = rw (← c.self.view_is) at c.requires.lane in
    let post = c.self.invariant in
    let end = incoming_at _ _ _ _ _ _ _ _ post (suc c.args.place) c.args.place c.index_mut-end.result.now refl (λ e. its.two.4 (sym e)) its.two.3 c.index_mut-end.ensures.value in
    let looks = rw its.is at c.look-word.ensures.looks in
    let less : 2 * c.index_mut-end.result.now.taken ≤ c.look-word.result = look_twice (record { instances = c.self.inside.shape.instances; capacity = c.self.inside.shape.capacity; sender = (suc c.args.place); receiver = c.self.inside.number }) c.self.inside.seat.me c.look-word.new.seat.me c.index_mut-end.result.now post.knows.legal post.made end c.look-word.result looks in
    omega arith

pub invariant_of-self-then-word-taken : goal.invariant_of-self-then-word-taken
invariant_of-self-then-word-taken c =
    let its = rw (← c.self.view_is) at c.requires.lane in
    let post = c.self.invariant in
    let lane : LaneView = record { instances = c.self.inside.shape.instances; capacity = c.self.inside.shape.capacity; sender = suc c.args.place; receiver = c.self.inside.number } in
    let looks = rw its.is at c.look-word.ensures.looks in
    let end = incoming_at _ _ _ _ _ _ _ _ post (suc c.args.place) c.args.place c.index_mut-end.result.now refl (λ e. its.two.4 (sym e)) its.two.3 c.index_mut-end.ensures.value in
    let within : c.args.place < length c.self.inside.incoming.items = omega (arith, post.knows.ends.of_each, its.two.3) in
    let did = look_did lane c.self.inside.seat.me c.look-word.new.seat.me c.index_mut-end.result.now post.knows.legal post.made end c.look-word.result looks in
    let kept = look_end lane c.self.inside.seat.me c.look-word.new.seat.me c.index_mut-end.result.now post.knows.legal post.made end c.look-word.result looks in
    post_looked _ _ _ _ _ _ _ _ post _ _ looks.rests (recorder_then _ _ _ _ _ _ _ _ post c.look-word.new.seat.me did) c.args.place _ within kept did

pub returns-then-word-taken-clause-answer : goal.returns-then-word-taken-clause-answer
returns-then-word-taken-clause-answer c =
    let its = rw (← c.self.view_is) at c.requires.lane in
    let post = c.self.invariant in
    let end = incoming_at _ _ _ _ _ _ _ _ post (suc c.args.place) c.args.place c.index_mut-end.result.now refl (λ e. its.two.4 (sym e)) its.two.3 c.index_mut-end.ensures.value in
    let looks = rw its.is at c.look-word.ensures.looks in
    let none = look_nothing (record { instances = c.self.inside.shape.instances; capacity = c.self.inside.shape.capacity; sender = (suc c.args.place); receiver = c.self.inside.number }) c.self.inside.seat.me c.look-word.new.seat.me c.index_mut-end.result.now post.knows.legal post.made end c.look-word.result looks (omega (arith, c.if-word-taken.true)) (λ odd. absurd (omega (arith, odd, c.if-word-taken.true))) in
    rw (← c.self.view_is, c.look-word.ensures.table.0) (
      record { made = looks.sees.made; region = refl; room = refl },
      record { two = its.two; waits = none.waits; closed = none.closed; before = none.before; looked = none.looked },
    )

pub invariant_of-self-then-taken-end-2 : goal.invariant_of-self-then-taken-end-2
invariant_of-self-then-taken-end-2 c =
    let its = rw (← c.self.view_is) at c.requires.lane in
    let post = c.self.invariant in
    let lane : LaneView = record { instances = c.self.inside.shape.instances; capacity = c.self.inside.shape.capacity; sender = suc c.args.place; receiver = c.self.inside.number } in
    let looks = rw its.is at c.look-word.ensures.looks in
    let end = incoming_at _ _ _ _ _ _ _ _ post (suc c.args.place) c.args.place c.index_mut-end.result.now refl (λ e. its.two.4 (sym e)) its.two.3 c.index_mut-end.ensures.value in
    let within : c.args.place < length c.self.inside.incoming.items = omega (arith, post.knows.ends.of_each, its.two.3) in
    let did = look_did lane c.self.inside.seat.me c.look-word.new.seat.me c.index_mut-end.result.now post.knows.legal post.made end c.look-word.result looks in
    let fresh = look_fresh lane c.self.inside.seat.me c.look-word.new.seat.me c.index_mut-end.result.now post.knows.legal post.made end c.look-word.result looks in
    post_looked _ _ _ _ _ _ _ _ post _ _ looks.rests (recorder_then _ _ _ _ _ _ _ _ post c.look-word.new.seat.me did) c.args.place _ within fresh did

pub returns-then-taken-end-2-clause-answer : goal.returns-then-taken-end-2-clause-answer
returns-then-taken-end-2-clause-answer c =
    let its = rw (← c.self.view_is) at c.requires.lane in
    let post = c.self.invariant in
    let end = incoming_at _ _ _ _ _ _ _ _ post (suc c.args.place) c.args.place c.index_mut-end.result.now refl (λ e. its.two.4 (sym e)) its.two.3 c.index_mut-end.ensures.value in
    let looks = rw its.is at c.look-word.ensures.looks in
    rw (← c.self.view_is, c.look-word.ensures.table.0) (
      record { made = looks.sees.made; region = refl; room = refl },
      record { two = its.two; waits = look_waits (record { instances = c.self.inside.shape.instances; capacity = c.self.inside.shape.capacity; sender = (suc c.args.place); receiver = c.self.inside.number }) c.self.inside.seat.me c.look-word.new.seat.me c.index_mut-end.result.now post.knows.legal post.made end c.look-word.result looks c.if-taken-end-2.true },
    )

pub invariant_of-self-2 : goal.invariant_of-self-2
invariant_of-self-2 c =
    let its = rw (← c.self.view_is) at c.requires.lane in
    let post = c.self.invariant in
    let lane : LaneView = record { instances = c.self.inside.shape.instances; capacity = c.self.inside.shape.capacity; sender = suc c.args.place; receiver = c.self.inside.number } in
    let looks = rw its.is at c.look-word.ensures.looks in
    let end = incoming_at _ _ _ _ _ _ _ _ post (suc c.args.place) c.args.place c.index_mut-end.result.now refl (λ e. its.two.4 (sym e)) its.two.3 c.index_mut-end.ensures.value in
    let within : c.args.place < length c.self.inside.incoming.items = omega (arith, post.knows.ends.of_each, its.two.3) in
    let did = look_did lane c.self.inside.seat.me c.look-word.new.seat.me c.index_mut-end.result.now post.knows.legal post.made end c.look-word.result looks in
    let fresh = look_fresh lane c.self.inside.seat.me c.look-word.new.seat.me c.index_mut-end.result.now post.knows.legal post.made end c.look-word.result looks in
    post_looked _ _ _ _ _ _ _ _ post _ _ looks.rests (recorder_then _ _ _ _ _ _ _ _ post c.look-word.new.seat.me did) c.args.place _ within fresh did

pub returns-clause-answer : goal.returns-clause-answer
returns-clause-answer c =
    let its = rw (← c.self.view_is) at c.requires.lane in
    let post = c.self.invariant in
    let end = incoming_at _ _ _ _ _ _ _ _ post (suc c.args.place) c.args.place c.index_mut-end.result.now refl (λ e. its.two.4 (sym e)) its.two.3 c.index_mut-end.ensures.value in
    let looks = rw its.is at c.look-word.ensures.looks in
    let less : 2 * c.index_mut-end.result.now.taken ≤ c.look-word.result = look_twice (record { instances = c.self.inside.shape.instances; capacity = c.self.inside.shape.capacity; sender = (suc c.args.place); receiver = c.self.inside.number }) c.self.inside.seat.me c.look-word.new.seat.me c.index_mut-end.result.now post.knows.legal post.made end c.look-word.result looks in
    let none = look_ended (record { instances = c.self.inside.shape.instances; capacity = c.self.inside.shape.capacity; sender = (suc c.args.place); receiver = c.self.inside.number }) c.self.inside.seat.me c.look-word.new.seat.me c.index_mut-end.result.now post.knows.legal post.made end c.look-word.result looks c.if-taken-end-2.false (omega (arith, less, c.if-word-taken.false, c.if-taken-end-2.false)) in
    rw (← c.self.view_is, c.look-word.ensures.table.0) (
      record { made = looks.sees.made; region = refl; room = refl },
      record { two = its.two; waits = none.waits; closed = none.closed; before = none.before; looked = none.looked },
    )
