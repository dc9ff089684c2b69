use Rattle.std.proofs.Common.{rules, ◌<◌, [], ◌∷◌, length, ap, refl, arith}
use Rattle.chart.specs.Charts.{LineView}
use Rattle.chart.specs.declared.line.TheConstants.{MAX_EVENTS}
use Rattle.board.proofs.Receives.{none_taken, may_take, one_more, room_left, all_recorder, all_end, one_received}
use Rattle.board.proofs.receiving.receive_one.Goals as goal

pub take_next-requires-clause-may_take : goal.take_next-requires-clause-may_take
take_next-requires-clause-may_take c =
    let l = c.args.lane.now in
    let s = c.args.seat.now.me in
    let u = c.args.end.now in
    let r = c.args.recorder.now in
    let may = c.requires.may_receive in
    let short : length r.line.events < MAX_EVENTS = omega (arith, ap (λ (line : LineView). length line.events) c.line.ensures, c.len.ensures.value, c.if-len-ge-MAX_EVENTS.false) in
    may_take l c.args.region s u r may [] s u r (none_taken l c.args.region s u r may) may.found.some short

pub returns : goal.returns
returns c =
    let l = c.args.lane.now in
    let region = c.args.region in
    let s = c.args.seat.now.me in
    let u = c.args.end.now in
    let r = c.args.recorder.now in
    let may = c.requires.may_receive in
    let arrival = c.in-Ok.arrival in
    let t = c.take_next.new.seat.me in
    let o = c.take_next.new.end in
    let v = c.take_next.new.recorder in
    let w = c.free.new.seat.me in
    let short : length r.line.events < MAX_EVENTS = omega (arith, ap (λ (line : LineView). length line.events) c.line.ensures, c.len.ensures.value, c.if-len-ge-MAX_EVENTS.false) in
    let one = one_more l region s u r may [] s u r (none_taken l region s u r may) t o v arrival short c.in-Ok.ensures.ok in
    record {
      table = search rules;
      rests = search rules;
      recorder = all_recorder l region s u r may (arrival ∷ []) t o v one w c.free.ensures.frees;
      end = all_end l region s u r may (arrival ∷ []) t o v one w c.free.ensures.frees;
      ok = one_received l region s u r may (arrival ∷ []) t o v one w c.free.ensures.frees arrival refl;
      err = search rules;
      left = room_left l region s u r may (arrival ∷ []) t o v one;
      kept = search rules;
    }
