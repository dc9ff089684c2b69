use Rattle.std.proofs.Common.{◌+◌, ◌++◌, ◌∷◌, [], List, length, length-append, sym, ap, ◌∙◌, subst, arith}
use Rattle.chart.specs.Messages.{Content}
use Rattle.board.specs.Parting.{HasDrained}
use Rattle.board.proofs.Draining.{drained_first, drained_next}
use Rattle.board.proofs.parting.take_all.Goals as goal

pub take_out-requires-clause-first : goal.take_out-requires-clause-first
take_out-requires-clause-first c =
    drained_first c.args.room.lane c.args.room.taken c.args.room.many c.loop-place.place c.args.seat.now.me.1 c.loop-place.seat.me.1 c.loop-place.messages.items c.loop-place.invariant.drained c.loop-place-test.true c.requires.first

pub loop-place-preserved : goal.loop-place-preserved
loop-place-preserved c =
    let its = c.loop-place.invariant in
    let room = c.args.room in
    let place = c.loop-place.place in
    let first = c.args.seat.now.me.1 in
    let drained = c.take_out.ensures.drained in
    let pushed = c.push_reserved.ensures in
    record {
      table = c.take_out.ensures.table ∙ its.table;
      drained = subst (λ (ms : List Content). HasDrained room.lane room.taken room.many (place + 1) first c.take_out.new.seat.me.1 ms) (ap (λ (m : Content). c.loop-place.messages.items ++ m ∷ []) (sym drained.2) ∙ sym pushed.items)
          (drained_next room.lane room.taken room.many place first c.loop-place.seat.me.1 c.loop-place.messages.items its.drained c.loop-place-test.true drained.0 c.take_out.new.seat.me.1 drained.1 c.take_out.ensures.turned);
      reserved = omega (arith, pushed.capacity, its.reserved);
      counted = omega (arith, ap length pushed.items, length-append c.loop-place.messages.items (c.take_out.result ∷ []), its.counted);
    }
