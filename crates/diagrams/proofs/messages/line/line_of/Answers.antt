use Rattle.std.proofs.Common.{◌≡◌, ◌+◌, ◌++◌, ◌∷◌, [], None, drop, sym, ◌∙◌, refl, ap}
use Rattle.chart.specs.Charts.{LineView}
use Rattle.chart.specs.Events.{greatest_region}
use Rattle.diagrams.specs.Messages.Regions.{with_ends, line_of, event_of, region_of}
use Rattle.diagrams.proofs.MessagesLemmas.LineLemmas.{open_none, end_here, line_more, open_more, line_end, whole_line}
use Rattle.diagrams.proofs.MessagesLemmas.RoomLemmas.{room_in_turn, room_here, room_more}
use Rattle.diagrams.proofs.messages.line.line_of.Goals as goal

pub add_end-requires-clause-coregion : goal.add_end-requires-clause-coregion
add_end-requires-clause-coregion c =
    rw c.behind-others.ensures (end_here c.as_slice-own.result.now c.loop-place.place c.index-own-place.result c.loop-place.last c.loop-place.line.events
    c.loop-place-test.true c.index-own-place.is c.loop-place.invariant.is_open)

pub add_end-requires-clause-room : goal.add_end-requires-clause-room
add_end-requires-clause-room c =
    rw (c.behind-others.ensures, c.loop-place.invariant.instance) (room_here c.args.instance c.loop-place.line.events c.as_slice-own.result.now c.loop-place.place c.index-own-place.result
    c.loop-place-test.true c.index-own-place.is c.loop-place.invariant.room)

pub loop-place-init : goal.loop-place-init
loop-place-init c = record {
  instance = ap (λ (l : LineView). l.instance) c.new-line.ensures;
  is_open = rw c.new-line.ensures (open_none c.as_slice-own.result.now);
  room = rw (c.new-line.ensures, c.as_slice-own.ensures.value, c.in_ok-in_turn.ensures) (room_in_turn c.args.instance _ c.requires);
  so_far = rw c.new-line.ensures refl;
}

pub loop-place-preserved : goal.loop-place-preserved
loop-place-preserved c =
    let own = c.as_slice-own.result.now in
    let e = c.index-own-place.result in
    let line = c.loop-place.line in
    let others = drop (c.loop-place.place + 1) own in
    let more : c.add_end.new.line ≡ record line { events = line.events ++ event_of e (region_of c.loop-place.last (greatest_region line.events) e others) ∷ [] } =
    rw c.behind-others.ensures at c.in_ok-add_end.ensures in
    let events = ap (λ (l : LineView). l.events) more in
    let is_open = end_here own c.loop-place.place e c.loop-place.last line.events c.loop-place-test.true c.index-own-place.is c.loop-place.invariant.is_open in
    record {
      instance = ap (λ (l : LineView). l.instance) more ∙ c.loop-place.invariant.instance;
      is_open = open_more c.loop-place.last line.events _ own c.loop-place.place e is_open events;
      room = room_more c.args.instance line.events _ _ e others (room_here c.args.instance line.events own c.loop-place.place e c.loop-place-test.true c.index-own-place.is c.loop-place.invariant.room) events;
      so_far = line_more c.loop-place.last line.events _ own c.loop-place.place e c.loop-place-test.true c.index-own-place.is events ∙ c.loop-place.invariant.so_far;
    }

pub returns : goal.returns
unfolding line_of
returns c =
    whole_line c.loop-place.line c.args.instance _ c.loop-place.invariant.instance
    (sym (line_end c.loop-place.last c.loop-place.line.events c.as_slice-own.result.now c.loop-place.place c.loop-place-test.false) ∙ c.loop-place.invariant.so_far
    ∙ ap (with_ends None []) (c.as_slice-own.ensures.value ∙ c.in_ok-in_turn.ensures))
