use Rattle.std.proofs.Common.{rules, ◌≡◌, ◌+◌, ◌-◌, ◌∙◌, ℕ, List, max, length, true, sym, ap, subst, arith}
use Rattle.std.proofs.lemmas.List.{length-map}
use Rattle.chart.specs.Charts.{LineView}
use Rattle.chart.specs.Messages.{Content}
use Rattle.clock.specs.Clocks.{with_entry}
use Rattle.line_recorder.specs.Recorders.{RecorderView, send_clock, after_sends}
use Rattle.line_recorder.specs.Recording.{IsRecorder}
use Rattle.line_recorder.proofs.SendsLemmas.{after_sends_is}
use Rattle.board_table.specs.Knowing.{Mine, held, packets_out}
use Rattle.board.specs.Known.{IsOutgoing}
use Rattle.board.specs.Parts.{HasSlots}
use Rattle.board.specs.Sending.{numbered}
use Rattle.board.specs.SendingMany.{IsPrepared, AreFilled}
use Rattle.board.proofs.Claiming.{sent_within}
use Rattle.board.proofs.OneSend.{known_many, recorder_saw, line_saw}
use Rattle.board.proofs.SeveralSends.{names_of, last_base, last_stamped, carried_next}
use Rattle.board.proofs.SentAtOnce.{Fills, prepared_filled, fills_of, recorded_is, count_is, unclosed, short, sender, next, did_send, recorder_sent, end_sent}
use Rattle.board.proofs.sending_several.send_several.Goals as goal

pub claim_slots-requires-clause-within_limit : goal.claim_slots-requires-clause-within_limit
claim_slots-requires-clause-within_limit c =
    let within = sent_within (held c.args.seat.now.me).seen c.args.lane.now.sender c.args.lane.now.receiver in
    omega (arith, c.requires.may_put.outgoing.put, c.requires.may_put.short, within)

pub returns-then-not-claim_slots-clause-recorder : goal.returns-then-not-claim_slots-clause-recorder
returns-then-not-claim_slots-clause-recorder c = recorder_saw c.args.lane.now.instances c.args.lane.now.capacity c.args.lane.now.sender (held c.args.seat.now.me) (held c.claim_slots.new.seat.me) c.requires.may_put.legal c.requires.may_put.own c.claim_slots.ensures.did c.args.recorder.now c.requires.may_put.recorded

pub prepare-requires-clause-base : goal.prepare-requires-clause-base
prepare-requires-clause-base c = let many = known_many c.args.lane.now.instances c.args.lane.now.capacity (held c.args.seat.now.me).seen c.args.lane.now.sender c.args.recorder.now c.requires.may_put.legal c.requires.may_put.recorded in c.claim_slots.ensures.end.long ∙ sym many

pub returns-in-Err-clause-recorder : goal.returns-in-Err-clause-recorder
returns-in-Err-clause-recorder c =
    let kept : c.prepare.new.recorder ≡ c.args.recorder.now = search rules in
    subst (λ (r : RecorderView). IsRecorder c.args.lane.now.instances (held c.give_back_vacant.new.seat.me).seen c.args.lane.now.sender r) (sym kept)
    (subst (λ (x : Mine). IsRecorder c.args.lane.now.instances (held x).seen c.args.lane.now.sender c.args.recorder.now) (sym c.give_back_vacant.ensures.puts_back) (recorder_saw c.args.lane.now.instances c.args.lane.now.capacity c.args.lane.now.sender (held c.args.seat.now.me) (held c.claim_slots.new.seat.me) c.requires.may_put.legal c.requires.may_put.own c.claim_slots.ensures.did c.args.recorder.now c.requires.may_put.recorded))

pub fill_slots-end-requires-clause-within_limit : goal.fill_slots-end-requires-clause-within_limit
fill_slots-end-requires-clause-within_limit c =
    let l = c.args.lane.now in
    let line = line_saw l.instances l.capacity l.sender (held c.args.seat.now.me) (held c.claim_slots.new.seat.me) c.requires.may_put.legal c.requires.may_put.own c.claim_slots.ensures.did in
    let within = sent_within (held c.claim_slots.new.seat.me).seen l.sender l.receiver in
    omega (arith, ap length line, within, c.claim_slots.ensures.end.put, c.requires.may_put.short)

pub stamp-requires : goal.stamp-requires
stamp-requires c =
    let l = c.args.lane.now in
    let r = c.args.recorder.now in
    let q = c.prepare.new.recorder in
    let v = c.fill_slots-end.new.recorder in
    let ms = c.args.messages.items in
    let u = c.claim_slots.new.end in
    let prepared : IsPrepared u.base r ms c.in-Ok.prepared q = rw c.as_slice.ensures.value at c.in-Ok.ensures.ok in
    let filled = prepared_filled u.base r q v l.receiver ms c.in-Ok.prepared (packets_out c.fill_slots-end.new.seat.me) prepared c.fill_slots-end.ensures.filled in
    let own : v.line.instance ≡ q.line.instance = ap (λ (x : RecorderView). x.line.instance) (recorded_is u.base q v l.receiver ms (packets_out c.fill_slots-end.new.seat.me) filled ∙ after_sends_is q l.receiver (names_of ms)) in
    let before : q.line.instance ≡ r.line.instance = ap (λ (x : RecorderView). x.line.instance) prepared.room in
    let its : r.line.instance ≡ l.sender = ap (λ (x : LineView). x.instance) c.requires.may_put.recorded.line in
    let here : c.instance.result ≡ v.line.instance = c.instance.ensures ∙ ap (λ (x : LineView). x.instance) c.line-line.ensures in
    omega (arith, here, own, before, its, c.apply.ensures.len, c.claim_slots.ensures.end.long, c.requires.may_put.two)

-- the slots are filled, and the sends recorded
are_filled : (c : goal.After-publish-arg-1) → AreFilled c.claim_slots.new.end.base c.prepare.new.recorder c.args.lane.now.receiver c.args.messages.items (packets_out c.fill_slots-end.new.seat.me) c.fill_slots-end.new.recorder
are_filled c =
    let prepared : IsPrepared c.claim_slots.new.end.base c.args.recorder.now c.args.messages.items c.in-Ok.prepared c.prepare.new.recorder = rw c.as_slice.ensures.value at c.in-Ok.ensures.ok in
    prepared_filled c.claim_slots.new.end.base c.args.recorder.now c.prepare.new.recorder c.fill_slots-end.new.recorder c.args.lane.now.receiver c.args.messages.items c.in-Ok.prepared (packets_out c.fill_slots-end.new.seat.me) prepared c.fill_slots-end.ensures.filled

fills : (c : goal.After-publish-arg-1) → Fills c.args.lane.now c.args.seat.now.me c.claim_slots.new.seat.me c.fill_slots-end.new.seat.me c.prepare.new.recorder c.claim_slots.new.end c.args.messages.items (packets_out c.fill_slots-end.new.seat.me)
fills c =
    let l = c.args.lane.now in
    let s = c.claim_slots.new.seat.me in
    let yes : c.claim_slots.result ≡ true = search rules in
    let many : c.len.result ≡ length c.args.messages.items = search rules in
    let slots = subst (λ (i : ℕ). HasSlots l i s) many (c.claim_slots.ensures.yes yes) in
    let prepared : IsPrepared c.claim_slots.new.end.base c.args.recorder.now c.args.messages.items c.in-Ok.prepared c.prepare.new.recorder = rw c.as_slice.ensures.value at c.in-Ok.ensures.ok in
    fills_of l c.args.seat.now.me s c.fill_slots-end.new.seat.me c.args.recorder.now c.prepare.new.recorder c.fill_slots-end.new.recorder c.args.end.now c.claim_slots.new.end c.args.messages.items c.in-Ok.prepared c.requires.may_put c.claim_slots.ensures.did c.claim_slots.ensures.end slots prepared c.fill_slots-end.ensures.held (are_filled c)

pub publish-requires-clause-count : goal.publish-requires-clause-count
publish-requires-clause-count c =
    let l = c.args.lane.now in
    let m = c.args.seat.now.me in
    let s = c.claim_slots.new.seat.me in
    let f = c.fill_slots-end.new.seat.me in
    let q = c.prepare.new.recorder in
    let u = c.claim_slots.new.end in
    let ms = c.args.messages.items in
    count_is l m s f q u ms (packets_out f) (fills c) c.fill_slots-end.result c.fill_slots-end.ensures.count

pub publish-requires-clause-within_limit : goal.publish-requires-clause-within_limit
publish-requires-clause-within_limit c =
    let l = c.args.lane.now in
    let line = line_saw l.instances l.capacity l.sender (held c.args.seat.now.me) (held c.claim_slots.new.seat.me) c.requires.may_put.legal c.requires.may_put.own c.claim_slots.ensures.did in
    let within = sent_within (held c.claim_slots.new.seat.me).seen l.sender l.receiver in
    omega (arith, ap length line, within, c.claim_slots.ensures.end.put, c.requires.may_put.short, c.fill_slots-end.ensures.count)

pub publish-requires-clause-unclosed : goal.publish-requires-clause-unclosed
publish-requires-clause-unclosed c =
    let l = c.args.lane.now in
    let m = c.args.seat.now.me in
    let s = c.claim_slots.new.seat.me in
    let f = c.fill_slots-end.new.seat.me in
    let q = c.prepare.new.recorder in
    let u = c.claim_slots.new.end in
    let ms = c.args.messages.items in
    unclosed l m s f q u ms (packets_out f) (fills c) c.requires.may_put.unclosed

pub publish-requires-clause-short : goal.publish-requires-clause-short
publish-requires-clause-short c =
    let l = c.args.lane.now in
    let m = c.args.seat.now.me in
    let s = c.claim_slots.new.seat.me in
    let f = c.fill_slots-end.new.seat.me in
    let q = c.prepare.new.recorder in
    let u = c.claim_slots.new.end in
    let ms = c.args.messages.items in
    short l m s f q u ms (packets_out f) (fills c) c.requires.may_put.short

pub publish-requires-clause-next : goal.publish-requires-clause-next
publish-requires-clause-next c =
    let l = c.args.lane.now in
    let m = c.args.seat.now.me in
    let s = c.claim_slots.new.seat.me in
    let f = c.fill_slots-end.new.seat.me in
    let q = c.prepare.new.recorder in
    let u = c.claim_slots.new.end in
    let ms = c.args.messages.items in
    let are = are_filled c in
    next l m s f q u ms (packets_out f) (fills c) (carried_next l.instances l.sender l.receiver (packets_out f) are.parcels u.base (held s).seen q (sender l m s f q u ms (packets_out f) (fills c)) are.carried are.clocks)

are_sent : (c : goal.After-publish) → AreFilled c.claim_slots.new.end.base c.prepare.new.recorder c.args.lane.now.receiver c.args.messages.items (packets_out c.fill_slots-end.new.seat.me) c.fill_slots-end.new.recorder
are_sent c =
    let prepared : IsPrepared c.claim_slots.new.end.base c.args.recorder.now c.args.messages.items c.in-Ok.prepared c.prepare.new.recorder = rw c.as_slice.ensures.value at c.in-Ok.ensures.ok in
    prepared_filled c.claim_slots.new.end.base c.args.recorder.now c.prepare.new.recorder c.fill_slots-end.new.recorder c.args.lane.now.receiver c.args.messages.items c.in-Ok.prepared (packets_out c.fill_slots-end.new.seat.me) prepared c.fill_slots-end.ensures.filled

sends : (c : goal.After-publish) → Fills c.args.lane.now c.args.seat.now.me c.claim_slots.new.seat.me c.fill_slots-end.new.seat.me c.prepare.new.recorder c.claim_slots.new.end c.args.messages.items (packets_out c.fill_slots-end.new.seat.me)
sends c =
    let l = c.args.lane.now in
    let s = c.claim_slots.new.seat.me in
    let yes : c.claim_slots.result ≡ true = search rules in
    let many : c.len.result ≡ length c.args.messages.items = search rules in
    let slots = subst (λ (i : ℕ). HasSlots l i s) many (c.claim_slots.ensures.yes yes) in
    let prepared : IsPrepared c.claim_slots.new.end.base c.args.recorder.now c.args.messages.items c.in-Ok.prepared c.prepare.new.recorder = rw c.as_slice.ensures.value at c.in-Ok.ensures.ok in
    fills_of l c.args.seat.now.me s c.fill_slots-end.new.seat.me c.args.recorder.now c.prepare.new.recorder c.fill_slots-end.new.recorder c.args.end.now c.claim_slots.new.end c.args.messages.items c.in-Ok.prepared c.requires.may_put c.claim_slots.ensures.did c.claim_slots.ensures.end slots prepared c.fill_slots-end.ensures.held (are_sent c)

-- the recorder has recorded the sends
recorded : (c : goal.After-publish) → c.fill_slots-end.new.recorder ≡ after_sends c.prepare.new.recorder c.args.lane.now.receiver (names_of c.args.messages.items)
recorded c = recorded_is c.claim_slots.new.end.base c.prepare.new.recorder c.fill_slots-end.new.recorder c.args.lane.now.receiver c.args.messages.items (packets_out c.fill_slots-end.new.seat.me) (are_sent c)

pub returns-clause-recorder : goal.returns-clause-recorder
returns-clause-recorder c =
    let l = c.args.lane.now in
    let m = c.args.seat.now.me in
    let s = c.claim_slots.new.seat.me in
    let f = c.fill_slots-end.new.seat.me in
    let q = c.prepare.new.recorder in
    let u = c.claim_slots.new.end in
    let ms = c.args.messages.items in
    subst (λ (x : RecorderView). IsRecorder l.instances (held c.publish.new.seat.me).seen l.sender x) (sym (recorded c)) (recorder_sent l m s f q u ms (packets_out f) (sends c) c.publish.new.seat.me c.publish.ensures.publishes)

pub returns-clause-end : goal.returns-clause-end
returns-clause-end c =
    let l = c.args.lane.now in
    let m = c.args.seat.now.me in
    let s = c.claim_slots.new.seat.me in
    let f = c.fill_slots-end.new.seat.me in
    let q = c.prepare.new.recorder in
    let u = c.claim_slots.new.end in
    let ms = c.args.messages.items in
    let v = c.fill_slots-end.new.recorder in
    let prepared : IsPrepared u.base c.args.recorder.now ms c.in-Ok.prepared q = rw c.as_slice.ensures.value at c.in-Ok.ensures.ok in
    let first : c.apply.new.self ≡ send_clock q = c.apply.ensures.value ∙ prepared.first.applied ∙ ap send_clock (sym prepared.room) in
    let own : c.instance.result ≡ v.line.instance = c.instance.ensures ∙ ap (λ (x : LineView). x.instance) c.line-line.ensures in
    let many : c.len-2.result ≡ length v.line.events = c.len-2.ensures.value ∙ ap (λ (x : LineView). length x.events) c.line-line.ensures in
    let sends_all = after_sends q l.receiver (names_of ms) in
    let stamped : c.stamp.new.self ≡ last_base u.base q l.receiver ms =
    c.stamp.ensures.value ∙ ap (λ (b : List ℕ). with_entry b c.instance.result c.len-2.result) first
    ∙ ap (λ (i : ℕ). with_entry (send_clock q) i c.len-2.result) (own ∙ ap (λ (x : RecorderView). x.line.instance) (recorded c))
    ∙ ap (λ (i : ℕ). with_entry (send_clock q) sends_all.line.instance i) (many ∙ ap (λ (x : RecorderView). length x.line.events) (recorded c))
    ∙ last_stamped u.base q l.receiver ms (omega (arith, c.requires.some)) in
    subst (λ (base : List ℕ). IsOutgoing l.instances (held c.publish.new.seat.me).seen l.sender l.receiver (record u { put = c.fill_slots-end.result; base = base })) (sym stamped) (end_sent l m s f q u ms (packets_out f) (sends c) c.publish.new.seat.me c.publish.ensures.publishes c.fill_slots-end.result c.fill_slots-end.ensures.count)

pub returns-clause-left : goal.returns-clause-left
returns-clause-left c =
    let r = c.args.recorder.now in
    let q = c.prepare.new.recorder in
    let ms = c.args.messages.items in
    let prepared : IsPrepared c.claim_slots.new.end.base r ms c.in-Ok.prepared q = rw c.as_slice.ensures.value at c.in-Ok.ensures.ok in
    let room : c.fill_slots-end.new.recorder.room ≡ q.room - length (names_of ms) = ap (λ (x : RecorderView). x.room) (recorded c) ∙ ap (λ (x : RecorderView). x.room) (after_sends_is q c.args.lane.now.receiver (names_of ms)) in
    let many : length (names_of ms) ≡ length ms = length-map ms (λ (message : Content). message.name) in
    let made : q.room ≡ max r.room (length ms) = ap (λ (x : RecorderView). x.room) prepared.room in
    omega (arith, room, many, made)

pub returns-clause-ok : goal.returns-clause-ok
returns-clause-ok c =
    let l = c.args.lane.now in
    let m = c.args.seat.now.me in
    let s = c.claim_slots.new.seat.me in
    let f = c.fill_slots-end.new.seat.me in
    let q = c.prepare.new.recorder in
    let u = c.claim_slots.new.end in
    let ms = c.args.messages.items in
    let prepared : IsPrepared u.base c.args.recorder.now ms c.in-Ok.prepared q = rw c.as_slice.ensures.value at c.in-Ok.ensures.ok in
    record {
      did = did_send l m s f q u ms (packets_out f) (sends c) c.publish.new.seat.me c.publish.ensures.publishes;
      events = prepared.sents ∙ ap (λ (line : LineView). numbered line.instance (length line.events + 1) ms) c.requires.may_put.recorded.line;
    }
