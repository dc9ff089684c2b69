use Rattle.std.proofs.Common.{rules, ◌≡◌, suc, List, [], ◌∷◌, ◌++◌, length, refl, sym, ap, ◌∙◌, subst, arith, append_assoc, append-nil}
use Rattle.std.proofs.lemmas.List.{length_push}
use Rattle.std.specs.Vec.Iter.{into_iter_items}
use Rattle.chart.specs.Histories.{sent}
use Rattle.chart.specs.Messages.{Content}
use Rattle.line_recorder.specs.Recorders.{RecorderView, after_send}
use Rattle.board_table.specs.declared.held.Held.{Held}
use Rattle.board_table.specs.declared.packet.Packet.{Packet}
use Rattle.board_table.specs.Knowing.{packets_out}
use Rattle.board.specs.SendingMany.{AreFilled}
use Rattle.board.proofs.FilledSlots.{GoesOn, goes_on, filled_none, filled_more, filled_first}
use Rattle.board.proofs.sending_several.fill_slots.Goals as goal

nothing_left : {X : Type 0} (xs : List X) → length xs ≡ 0 → xs ≡ []
nothing_left [] e = refl
nothing_left (x ∷ xs) e = absurd (omega (arith, e))

pub loop-message-init : goal.loop-message-init
loop-message-init c =
    let l = c.args.lane.now in
    let r = c.args.recorder.now in
    let ms = c.args.messages.items in
    let message = c.in-Some.message in
    let rest = into_iter_items c.next.new.self in
    let all : ms ≡ message ∷ rest = sym c.into_iter-rest.ensures.rest ∙ c.in-Some.ensures.cases.0 in
    let many : length ms ≡ suc (length rest) = ap length all in
    let gives = c.into_iter-message-iterator.ensures.into_iter_gives in
    let here : into_iter_items c.into_iter-message-iterator.result ≡ rest = ap (λ it. into_iter_items it) gives in
    let few : length (into_iter_items c.into_iter-message-iterator.result) ≡ length rest = ap length here in
    let filled = ap length c.fill.ensures.packets ∙ length_push (packets_out c.args.seat.now.me) (record { message = message; diff = c.args.first }) in
    let unfilled = ap length c.requires.slots.unfilled in
    let same = ap (λ (h : Held). length (sent h.seen l.sender l.receiver)) c.fill.ensures.held in
    let two = c.receiver.ensures.two in
    record {
      seated = search rules;
      filling = c.fill.ensures.filling;
      kept = refl;
      room = omega (arith, few, many, c.fill.ensures.vacant, c.requires.slots.enough);
      rest = search rules;
      put = omega (arith, c.requires.count, filled, unfilled, same);
      many = refl;
      goes = subst (λ (z : RecorderView). GoesOn l.sender (length (into_iter_items c.into_iter-message-iterator.result)) z) (sym c.send_ready.ensures)
          (goes_on l.sender (length (into_iter_items c.into_iter-message-iterator.result)) c.receiver.result c.name-name.result r (omega (arith, two)) c.requires.its (omega (arith, two, c.requires.knows)) (omega (arith, few, many, c.requires.short)) (omega (arith, few, many, c.requires.room)));
      filled = ([], [], sym (append-nil (packets_out c.fill.new.seat.me)), refl, filled_none c.send_ready.new.self l.receiver);
    }

pub loop-message-preserved : goal.loop-message-preserved
loop-message-preserved c =
    let l = c.args.lane.now in
    let inv = c.loop-message.invariant in
    let so = inv.filled in
    let m = c.in-Some-message.message in
    let rest = into_iter_items c.next-in-loop-message.new.self in
    let steps : into_iter_items c.loop-message.message-iterator ≡ m ∷ rest = c.in-Some-message.ensures.steps.0 in
    let few : length (into_iter_items c.loop-message.message-iterator) ≡ suc (length rest) = ap length steps in
    let v = c.loop-message.recorder in
    let recorded : c.fill_next.new.recorder ≡ after_send v l.receiver m.name = c.fill_next.ensures.recorder in
    let x = c.fill_next.ensures.packet.0 in
    let packets = c.fill_next.ensures.packet.1 in
    let filled = ap length packets ∙ length_push (packets_out c.loop-message.seat.me) x in
    let same = ap (λ (h : Held). length (sent h.seen l.sender l.receiver)) c.fill_next.ensures.held in
    let two = c.receiver.ensures.two in
    record {
      seated = c.fill_next.ensures.table.0 ∙ inv.seated;
      filling = c.fill_next.ensures.filling;
      kept = c.fill_next.ensures.held ∙ inv.kept;
      room = omega (arith, few, inv.room, c.fill_next.ensures.vacant);
      rest = omega (arith, few, inv.rest, c.in-Some-message.ensures.steps.1);
      put = omega (arith, inv.put, filled, same);
      many = omega (arith, inv.many, few);
      goes = subst (λ (z : RecorderView). GoesOn l.sender (length rest) z) (sym recorded)
          (goes_on l.sender (length rest) l.receiver m.name v (omega (arith, two)) inv.goes.its inv.goes.among (omega (arith, few, inv.goes.short)) (omega (arith, few, inv.goes.room)));
      filled = (
        so.0 ++ m ∷ [],
        so.1 ++ x ∷ [],
        packets ∙ ap (λ (ps : List Packet). ps ++ x ∷ []) so.2 ∙ append_assoc (packets_out c.fill.new.seat.me) so.1 (x ∷ []),
        append_assoc so.0 (m ∷ []) rest ∙ rw (← steps) so.3,
        subst (λ (z : RecorderView). AreFilled c.send_ready.new.self.knowledge c.send_ready.new.self l.receiver (so.0 ++ m ∷ []) (so.1 ++ x ∷ []) z) (sym recorded)
            (filled_more c.send_ready.new.self v l.receiver so.0 so.1 m x so.4 c.fill_next.ensures.packet.2),
      );
    }

pub returns-clause-filled : goal.returns-clause-filled
returns-clause-filled c = λ base first.
    let l = c.args.lane.now in
    let r = c.args.recorder.now in
    let ms = c.args.messages.items in
    let message = c.in-Some.message in
    let inv = c.loop-message.invariant in
    let so = inv.filled in
    let v = c.loop-message.recorder in
    let none : into_iter_items c.loop-message.message-iterator ≡ [] = nothing_left _ (sym inv.rest ∙ c.in-None.ensures.steps.0) in
    let gives = c.into_iter-message-iterator.ensures.into_iter_gives in
    let done : so.0 ≡ into_iter_items c.next.new.self = sym (append-nil so.0) ∙ rw none at so.3 ∙ ap (λ it. into_iter_items it) gives in
    let all : message ∷ so.0 ≡ ms = ap (λ (zs : List Content). message ∷ zs) done ∙ sym (sym c.into_iter-rest.ensures.rest ∙ c.in-Some.ensures.cases.0) in
    let x : Packet = record { message = message; diff = c.args.first } in
    let packets : packets_out c.loop-message.seat.me ≡ x ∷ so.1 = so.2 ∙ ap (λ (ps : List Packet). ps ++ so.1) (c.fill.ensures.packets ∙ ap (λ (ps : List Packet). ps ++ x ∷ []) c.requires.slots.unfilled) in
    let recorded : c.send_ready.new.self ≡ after_send r l.receiver message.name = rw (← c.receiver.ensures.value, ← c.name-name.ensures) c.send_ready.ensures in
    let after = subst (λ (z : RecorderView). AreFilled z.knowledge z l.receiver so.0 so.1 v) recorded so.4 in
    subst (λ (zs : List Content). AreFilled base r l.receiver zs (packets_out c.loop-message.seat.me) v) all
    (subst (λ (ps : List Packet). AreFilled base r l.receiver (message ∷ so.0) ps v) (sym packets) (filled_first base r v l.receiver message so.0 c.args.first so.1 first after))
