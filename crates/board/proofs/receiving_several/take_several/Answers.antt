use Rattle.std.proofs.Common.{rules, ◌<◌, ◌∙◌, [], ◌∷◌, ◌++◌, List, length, sym, ap, subst, arith}
use Rattle.chart.specs.Charts.{LineView}
use Rattle.chart.specs.declared.line.TheConstants.{MAX_EVENTS}
use Rattle.board_table.specs.Knowing.{packets_out}
use Rattle.board.specs.declared.answer.Arrival.{Arrival}
use Rattle.board.specs.Receipts.{AreTaken}
use Rattle.board.proofs.Receives.{receiving, none_taken, may_take, one_more}
use Rattle.board.proofs.receiving_several.take_several.Goals as goal

pub loop-init : goal.loop-init
loop-init c =
    let l = c.args.lane.now in
    let s = c.args.seat.now.me in
    let u = c.args.end.now in
    let r = c.args.recorder.now in
    record {
      table = c.requires.table;
      taken = subst (λ (xs : List Arrival). AreTaken l c.args.region (receiving s u r) xs (receiving s u r)) (sym (c.reserve.ensures.items ∙ c.requires.none)) (none_taken l c.args.region s u r c.requires.may_receive);
      as_many = ap length (c.reserve.ensures.items ∙ c.requires.none);
    }

pub take_next-requires-clause-may_take : goal.take_next-requires-clause-may_take
take_next-requires-clause-may_take c =
    let some : 0 < length (packets_out c.loop.seat.me) = search rules in
    let short : length c.loop.recorder.line.events < MAX_EVENTS = omega (arith, ap (λ (line : LineView). length line.events) c.line.ensures, c.len.ensures.value, c.if-len-ge-MAX_EVENTS.false) in
    may_take c.args.lane.now c.args.region c.args.seat.now.me c.args.end.now c.args.recorder.now c.requires.may_receive c.loop.arrivals.items c.loop.seat.me c.loop.end c.loop.recorder c.loop.invariant.taken some short

pub loop-preserved : goal.loop-preserved
loop-preserved c =
    let l = c.args.lane.now in
    let s = c.args.seat.now.me in
    let u = c.args.end.now in
    let r = c.args.recorder.now in
    let t = c.take_next.new.seat.me in
    let o = c.take_next.new.end in
    let v = c.take_next.new.recorder in
    let short : length c.loop.recorder.line.events < MAX_EVENTS = omega (arith, ap (λ (line : LineView). length line.events) c.line.ensures, c.len.ensures.value, c.if-len-ge-MAX_EVENTS.false) in
    let grown = c.push_reserved.ensures.items in
    record {
      table = c.take_next.ensures.table ∙ c.loop.invariant.table;
      taken = subst (λ (xs : List Arrival). AreTaken l c.args.region (receiving s u r) xs (receiving t o v)) (sym c.push_reserved.ensures.items)
          (subst (λ (xs : List Arrival). AreTaken l c.args.region (receiving s u r) (xs ++ c.in-Ok.arrival ∷ []) (receiving t o v)) (sym c.reserve-in-loop.ensures.items)
          (one_more l c.args.region s u r c.requires.may_receive c.loop.arrivals.items c.loop.seat.me c.loop.end c.loop.recorder c.loop.invariant.taken t o v c.in-Ok.arrival short c.in-Ok.ensures.ok));
      as_many = search rules;
    }
