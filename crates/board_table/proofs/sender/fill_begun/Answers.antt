use Rattle.std.proofs.Common.{◌≡◌, ℕ, suc, ◌∷◌, [], ◌++◌, sym, ap, ◌∙◌, subst, length}
use Rattle.std.specs.Prelude.{Option, Some, None}
use Rattle.line_recorder.proofs.KeptLemmas.{refused}
use Rattle.atomic_table.specs.Table.{rest}
use Rattle.line_recorder.specs.Recorders.{send_clock}
use Rattle.board_table.specs.declared.packet.Packet.{Packet}
use Rattle.chart.specs.Histories.{sent}
use Rattle.board_table.specs.Layout.{slot_of}
use Rattle.board_table.specs.Carrying.{Carries}
use Rattle.board_table.specs.Knowing.{Mine, held, packets_out, vacant_out, IsFilling}
use Rattle.board_table.proofs.Handling.{contained, first_vacant, fill_first, filled_is}
use Rattle.board_table.proofs.OutSlots.{filling_slots, filling_packets, filling_vacant}
use Rattle.board_table.proofs.sender.fill_begun.Goals as goal

-- the packet that was put
put : (c : goal.After-turn) → (x : Packet) × (c.begin_in.new.slot ≡ Some x) × Carries c.args.base.now x (record { message = c.args.message; clock = send_clock c.args.recorder.now })
put c =
    let r = c.in_ok-begin_in.ensures in
    contained c.begin_in.new.slot (λ x. Carries c.args.base.now x (record { message = c.args.message; clock = send_clock c.args.recorder.now })) r.full r.put

-- the slots that are out with the sender afterwards
after : (c : goal.After-turn) → let me = c.args.seat.now.me in let l = c.args.lane.now in
    (v : ℕ) × (suc v ≡ vacant_out me) × (c.turn.new.self.me ≡ (held me ∷ [], filling_slots l.instances l.capacity l.sender l.receiver (length (sent (held me).seen l.sender l.receiver)) v (packets_out me ++ (put c).0 ∷ [])))
after c =
    let me = c.args.seat.now.me in
    let l = c.args.lane.now in
    fill_first c.args.lane.now me c.turn.new.self.me c.args.count (put c).0 c.requires.filling c.requires.room c.requires.count
    (c.turn.ensures.2 ∙ ap (λ i. (me.0, rest me.1 ++ (i, c.begin_in.new.slot) ∷ [])) c.slot.ensures.value ∙ ap (λ (o : Option Packet). (me.0, rest me.1 ++ (slot_of l.instances l.capacity l.sender l.receiver c.args.count, o) ∷ [])) (put c).1)

pub returns-clause-filling : goal.returns-clause-filling
returns-clause-filling c = let a = after c in filled_is c.args.lane.now c.args.seat.now.me c.turn.new.self.me (put c).0 a.0 c.requires.filling a.1 a.2

pub returns-clause-packet : goal.returns-clause-packet
returns-clause-packet c = let a = after c in let l = c.args.lane.now in let me = c.args.seat.now.me in
    ((put c).0, ap (λ (m : Mine). packets_out m) a.2 ∙ filling_packets l.instances l.capacity l.sender l.receiver (length (sent (held me).seen l.sender l.receiver)) a.0 (packets_out me ++ (put c).0 ∷ []), (put c).2)

pub returns-clause-vacant : goal.returns-clause-vacant
returns-clause-vacant c = let a = after c in let l = c.args.lane.now in let me = c.args.seat.now.me in
    ap suc (ap (λ (m : Mine). vacant_out m) a.2 ∙ filling_vacant l.instances l.capacity l.sender l.receiver (length (sent (held me).seen l.sender l.receiver)) a.0 (packets_out me ++ (put c).0 ∷ [])) ∙ a.1

-- the slot is empty as before
emptied : (c : goal.After-from_residual) → (c.args.seat.now.me.0, (c.slot.result, c.begin_in.new.slot) ∷ rest c.args.seat.now.me.1) ≡ c.args.seat.now.me
emptied c =
    let me = c.args.seat.now.me in
    let slots : (c.slot.result, c.begin_in.new.slot) ∷ rest me.1 ≡ me.1 = ap (λ (o : Option Packet). (c.slot.result, o) ∷ rest me.1) c.in_err-begin_in.ensures.slot_err ∙ ap (λ i. (i, None) ∷ rest me.1) c.slot.ensures.value ∙ sym (first_vacant c.args.lane.now me c.args.count c.requires.filling c.requires.room c.requires.count) in
    λ t. (me.0, slots t)

pub returns-in_err-begin_in-clause-same : goal.returns-in_err-begin_in-clause-same
returns-in_err-begin_in-clause-same c = refused c.from_residual.result _ (emptied c)

pub returns-in_err-begin_in-clause-filling : goal.returns-in_err-begin_in-clause-filling
returns-in_err-begin_in-clause-filling c = subst (λ (m : Mine). IsFilling c.args.lane.now m) (sym (emptied c)) c.requires.filling
