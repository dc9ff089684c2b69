use Rattle.std.proofs.Common.{rules, ◌≡◌, length, sym, ap, subst}
use Rattle.line_recorder.specs.Recorders.{RecorderView}
use Rattle.line_recorder.specs.Recording.{IsRecorder}
use Rattle.board_table.specs.Knowing.{held}
use Rattle.board.specs.Receipts.{IsUnrecorded}
use Rattle.board.proofs.Receives.{none_recorded, room_left, back_recorder, back_unreceived, free_short, all_recorder, all_end, all_received, all_stopped}
use Rattle.board.proofs.receiving_several.receive_several.Goals as goal
use Rattle.board.proofs.receiving_several.receive_several.Goals.{in_default-via-in-Refused+else-is_empty, in_default-via-in_default}

pub free-requires-clause-short : goal.free-requires-clause-short
free-requires-clause-short c =
    let is = c.take_several-stop in
    free_short c.args.lane.now c.args.region c.args.seat.now.me c.args.end.now c.args.recorder.now c.requires.may_receive is.new.arrivals.items is.new.seat.me is.new.end is.new.recorder is.ensures.taken

pub returns-in-Refused-clause-recorder : goal.returns-in-Refused-clause-recorder
returns-in-Refused-clause-recorder c =
    let l = c.args.lane.now in
    let is = c.take_several-stop in
    let none : length is.new.arrivals.items ≡ 0 = search rules in
    let same = none_recorded l c.args.region c.args.seat.now.me c.args.end.now c.args.recorder.now c.requires.may_receive is.new.arrivals.items is.new.seat.me is.new.end is.new.recorder is.ensures.taken none in
    subst (λ (x : RecorderView). IsRecorder l.instances (held c.give_back_full.new.seat.me).seen l.receiver x) (sym same)
    (back_recorder l c.args.region c.args.seat.now.me c.args.end.now c.args.recorder.now c.requires.may_receive is.new.seat.me c.give_back_full.new.seat.me is.ensures.taken.kept c.give_back_full.ensures.puts_back)

pub returns-in-Refused-clause-err : goal.returns-in-Refused-clause-err
returns-in-Refused-clause-err c =
    let l = c.args.lane.now in
    let is = c.take_several-stop in
    let none : length is.new.arrivals.items ≡ 0 = search rules in
    let same = none_recorded l c.args.region c.args.seat.now.me c.args.end.now c.args.recorder.now c.requires.may_receive is.new.arrivals.items is.new.seat.me is.new.end is.new.recorder is.ensures.taken none in
    back_unreceived l c.args.region c.args.seat.now.me c.args.end.now c.args.recorder.now c.requires.may_receive is.new.seat.me c.give_back_full.new.seat.me c.in-Refused.error is.ensures.taken.kept c.give_back_full.ensures.puts_back
    (subst (λ (x : RecorderView). IsUnrecorded (length x.line.events) c.in-Refused.error) same c.in-Refused.ensures.stop.2)

pub returns-in-Refused-clause-kept : goal.returns-in-Refused-clause-kept
returns-in-Refused-clause-kept c =
    let is = c.take_several-stop in
    let none : length is.new.arrivals.items ≡ 0 = search rules in
    ap (λ (x : RecorderView). x.room) (none_recorded c.args.lane.now c.args.region c.args.seat.now.me c.args.end.now c.args.recorder.now c.requires.may_receive is.new.arrivals.items is.new.seat.me is.new.end is.new.recorder is.ensures.taken none)

pub returns-in_default-clause-left : goal.returns-in_default-clause-left
returns-in_default-clause-left c =
    let is = c.take_several-stop in
    room_left c.args.lane.now c.args.region c.args.seat.now.me c.args.end.now c.args.recorder.now c.requires.may_receive is.new.arrivals.items is.new.seat.me is.new.end is.new.recorder is.ensures.taken

pub returns-in_default-clause-recorder : goal.returns-in_default-clause-recorder
returns-in_default-clause-recorder c =
    let is = c.take_several-stop in
    all_recorder c.args.lane.now c.args.region c.args.seat.now.me c.args.end.now c.args.recorder.now c.requires.may_receive is.new.arrivals.items is.new.seat.me is.new.end is.new.recorder is.ensures.taken c.free.new.seat.me c.free.ensures.frees

pub returns-in_default-clause-end : goal.returns-in_default-clause-end
returns-in_default-clause-end c =
    let is = c.take_several-stop in
    all_end c.args.lane.now c.args.region c.args.seat.now.me c.args.end.now c.args.recorder.now c.requires.may_receive is.new.arrivals.items is.new.seat.me is.new.end is.new.recorder is.ensures.taken c.free.new.seat.me c.free.ensures.frees

pub returns-in_default-clause-received : goal.returns-in_default-clause-received
returns-in_default-clause-received c =
    let is = c.take_several-stop in
    all_received c.args.lane.now c.args.region c.args.seat.now.me c.args.end.now c.args.recorder.now c.requires.may_receive is.new.arrivals.items is.new.seat.me is.new.end is.new.recorder is.ensures.taken c.free.new.seat.me c.free.ensures.frees

pub returns-in_default-clause-stop : goal.returns-in_default-clause-stop
returns-in_default-clause-stop c =
    let is = c.take_several-stop in
    all_stopped c.args.lane.now c.args.region c.args.seat.now.me c.args.end.now c.args.recorder.now c.requires.may_receive is.new.arrivals.items is.new.seat.me is.new.end is.new.recorder is.ensures.taken c.free.new.seat.me c.free.ensures.frees c.args.max c.in_default.stop c.requires.knows
    (elim c.in_default.branch [ in_default-via-in-Refused+else-is_empty w ↦ search rules | in_default-via-in_default w ↦ search rules ])
