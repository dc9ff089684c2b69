use Rattle.std.proofs.Common.{◌≤◌, ◌*◌, suc, refl, sym, arith}
use Rattle.std.proofs.lemmas.Bool.{eqb-true}
use Rattle.board_table.specs.Layout.{LaneView}
use Rattle.board_table.specs.Knowing.{held}
use Rattle.board.proofs.EndLemmas.{ends_later}
use Rattle.board.proofs.OneSend.{saw_same}
use Rattle.board.proofs.ReceiveAnswers.{incoming_at, recorder_then, region_then}
use Rattle.board.proofs.Looking.{look_did, look_twice, look_nothing}
use Rattle.board.proofs.parked.Parked.finds_nothing.Goals as goal

pub overflow_mul-result : goal.overflow_mul-result
overflow_mul-result c =
    let its = rw (← c.self.view_is) at c.requires.lane in
    let post = c.self.invariant in
    let end = incoming_at _ _ _ _ _ _ _ _ post (suc c.args.place) c.args.place c.index.result.now refl (λ e. its.two.4 (sym e)) its.two.3 c.index.ensures in
    let looks = rw its.is at c.look_there.ensures.looks in
    let less : 2 * c.index.result.now.taken ≤ c.look_there.result = look_twice (record { instances = c.self.inside.shape.instances; capacity = c.self.inside.shape.capacity; sender = suc c.args.place; receiver = c.self.inside.number }) c.self.inside.seat.me c.look_there.new.seat.me c.index.result.now post.knows.legal post.made end c.look_there.result looks in
    omega (arith, less)

pub invariant_of-self : goal.invariant_of-self
invariant_of-self c =
    let its = rw (← c.self.view_is) at c.requires.lane in
    let post = c.self.invariant in
    let lane : LaneView = record { instances = c.self.inside.shape.instances; capacity = c.self.inside.shape.capacity; sender = suc c.args.place; receiver = c.self.inside.number } in
    let looks = rw its.is at c.look_there.ensures.looks in
    let end = incoming_at _ _ _ _ _ _ _ _ post (suc c.args.place) c.args.place c.index.result.now refl (λ e. its.two.4 (sym e)) its.two.3 c.index.ensures in
    let did = look_did lane c.self.inside.seat.me c.look_there.new.seat.me c.index.result.now post.knows.legal post.made end c.look_there.result looks in
    let same = saw_same lane.instances lane.capacity lane.receiver (held c.self.inside.seat.me) (held c.look_there.new.seat.me) post.knows.legal post.made did in
    record {
      sized = post.sized;
      least = post.least;
      most = post.most;
      rests = looks.rests;
      knows = record {
        legal = did.legal;
        own = record { recorder = recorder_then _ _ _ _ _ _ _ _ post c.look_there.new.seat.me did; region_fits = region_then _ _ _ _ _ _ _ _ post c.look_there.new.seat.me did };
        ends = ends_later lane.instances lane.capacity (held c.self.inside.seat.me).seen (held c.look_there.new.seat.me).seen lane.receiver 0 0 c.self.inside.outgoing.items c.self.inside.incoming.items post.knows.legal did.later same post.knows.ends;
      };
      made = did.own;
    }

pub returns-clause-nothing : goal.returns-clause-nothing
returns-clause-nothing c equal =
    let its = rw (← c.self.view_is) at c.requires.lane in
    let post = c.self.invariant in
    let end = incoming_at _ _ _ _ _ _ _ _ post (suc c.args.place) c.args.place c.index.result.now refl (λ e. its.two.4 (sym e)) its.two.3 c.index.ensures in
    let looks = rw its.is at c.look_there.ensures.looks in
    let is = eqb-true c.look_there.result (2 * c.index.result.now.taken) equal in
    let none = look_nothing (record { instances = c.self.inside.shape.instances; capacity = c.self.inside.shape.capacity; sender = suc c.args.place; receiver = c.self.inside.number }) c.self.inside.seat.me c.look_there.new.seat.me c.index.result.now post.knows.legal post.made end c.look_there.result looks (omega (arith, is)) (λ odd. absurd (omega (arith, odd, is))) in
    rw (← c.self.view_is, c.look_there.ensures.table.0) (record { two = its.two; waits = none.waits; closed = none.closed; before = none.before; looked = none.looked })
