use Rattle.std.proofs.Common.{◌≡◌, ℕ, suc, ◌∷◌, [], ◌++◌, ap, ◌∙◌, length}
use Rattle.std.specs.Prelude.{Option, Some}
use Rattle.atomic_table.specs.Table.{rest}
use Rattle.line_recorder.specs.Recorders.{send_clock}
use Rattle.board_table.specs.declared.packet.Packet.{Packet}
use Rattle.chart.specs.Histories.{sent}
use Rattle.board_table.specs.Layout.{slot_of}
use Rattle.board_table.specs.Carrying.{Carries}
use Rattle.board_table.specs.Knowing.{Mine, held, packets_out, vacant_out}
use Rattle.board_table.proofs.Handling.{contained, fill_first, filled_is}
use Rattle.board_table.proofs.OutSlots.{filling_slots, filling_packets, filling_vacant}
use Rattle.board_table.proofs.filling.fill_next.Goals as goal

-- the packet that was put
put : (c : goal.After-turn) → (x : Packet) × (c.put_next.new.slot ≡ Some x) × Carries c.args.recorder.now.knowledge x (record { message = c.args.message; clock = send_clock c.args.recorder.now })
put c = contained c.put_next.new.slot (λ x. Carries c.args.recorder.now.knowledge x (record { message = c.args.message; clock = send_clock c.args.recorder.now })) c.put_next.ensures.full c.put_next.ensures.put

-- the slots that are out with the sender afterwards
after : (c : goal.After-turn) → let me = c.args.seat.now.me in let l = c.args.lane.now in
    (v : ℕ) × (suc v ≡ vacant_out me) × (c.turn.new.self.me ≡ (held me ∷ [], filling_slots l.instances l.capacity l.sender l.receiver (length (sent (held me).seen l.sender l.receiver)) v (packets_out me ++ (put c).0 ∷ [])))
after c =
    let me = c.args.seat.now.me in
    let l = c.args.lane.now in
    fill_first c.args.lane.now me c.turn.new.self.me c.args.count (put c).0 c.requires.filling c.requires.room c.requires.count
    (c.turn.ensures.2 ∙ ap (λ i. (me.0, rest me.1 ++ (i, c.put_next.new.slot) ∷ [])) c.slot.ensures.value ∙ ap (λ (o : Option Packet). (me.0, rest me.1 ++ (slot_of l.instances l.capacity l.sender l.receiver c.args.count, o) ∷ [])) (put c).1)

pub returns-clause-filling : goal.returns-clause-filling
returns-clause-filling c = let a = after c in filled_is c.args.lane.now c.args.seat.now.me c.turn.new.self.me (put c).0 a.0 c.requires.filling a.1 a.2

pub returns-clause-held : goal.returns-clause-held
returns-clause-held c = ap (λ (m : Mine). held m) (after c).2

pub returns-clause-packet : goal.returns-clause-packet
returns-clause-packet c = let a = after c in let l = c.args.lane.now in let me = c.args.seat.now.me in
    ((put c).0, ap (λ (m : Mine). packets_out m) a.2 ∙ filling_packets l.instances l.capacity l.sender l.receiver (length (sent (held me).seen l.sender l.receiver)) a.0 (packets_out me ++ (put c).0 ∷ []), (put c).2)

pub returns-clause-vacant : goal.returns-clause-vacant
returns-clause-vacant c = let a = after c in let l = c.args.lane.now in let me = c.args.seat.now.me in
    ap suc (ap (λ (m : Mine). vacant_out m) a.2 ∙ filling_vacant l.instances l.capacity l.sender l.receiver (length (sent (held me).seen l.sender l.receiver)) a.0 (packets_out me ++ (put c).0 ∷ [])) ∙ a.1
