use Rattle.std.proofs.Common.{◌≡◌, ℕ, suc, ◌∷◌, [], ◌++◌, sym, ap, ◌∙◌, List, length}
use Rattle.std.proofs.lemmas.Bool.{false≢true}
use Rattle.std.specs.Prelude.{Option, Some, None}
use Rattle.std.specs.Option.{is_some}
use Rattle.atomic_table.specs.Table.{rest, turned}
use Rattle.board_table.specs.declared.packet.Packet.{Packet}
use Rattle.chart.specs.Histories.{sent}
use Rattle.board_table.specs.Knowing.{Mine, held, packets_out, vacant_out}
use Rattle.board_table.proofs.Handling.{first_vacant, fill_first, filled_is}
use Rattle.board_table.proofs.OutSlots.{filling_slots, filling_packets, filling_vacant}
use Rattle.board_table.proofs.sender.fill.Goals as goal

-- the content of the first slot
abbrev value_of : ℕ × Option Packet → List (ℕ × Option Packet) → Option Packet
value_of d [] = d.1
value_of d (x ∷ xs) = x.1

pub unreachable-requires : goal.unreachable-requires
unreachable-requires c =
    let slots = c.args.seat.now.me.1 in
    let d : ℕ × Option Packet = (c.slot.result, c.exchange.result) in
    let first = first_vacant c.args.lane.now c.args.seat.now.me c.args.count c.requires.filling c.requires.room c.requires.count in
    let none : c.exchange.result ≡ None = sym (ap (value_of d) c.exchange.ensures.2) ∙ ap (value_of d) first in
    false≢true (sym (ap is_some none) ∙ sym c.if-is_some.ensures)

-- the slots that are out with the sender afterwards
after : (c : goal.After-turn) → let me = c.args.seat.now.me in let l = c.args.lane.now in
    (v : ℕ) × (suc v ≡ vacant_out me) × (c.turn.new.self.me ≡ (held me ∷ [], filling_slots l.instances l.capacity l.sender l.receiver (length (sent (held me).seen l.sender l.receiver)) v (packets_out me ++ c.args.packet ∷ [])))
after c =
    let me = c.args.seat.now.me in
    fill_first c.args.lane.now me c.turn.new.self.me c.args.count c.args.packet c.requires.filling c.requires.room c.requires.count
    (c.turn.ensures.2 ∙ ap (λ (m : Mine). (m.0, turned m.1)) c.exchange.ensures.3 ∙ ap (λ i. (me.0, rest me.1 ++ (i, Some c.args.packet) ∷ [])) c.slot.ensures.value)

pub returns-clause-filling : goal.returns-clause-filling
returns-clause-filling c = let a = after c in filled_is c.args.lane.now c.args.seat.now.me c.turn.new.self.me c.args.packet a.0 c.requires.filling a.1 a.2

pub returns-clause-held : goal.returns-clause-held
returns-clause-held c = ap (λ (m : Mine). held m) (after c).2

pub returns-clause-packets : goal.returns-clause-packets
returns-clause-packets c = let a = after c in let l = c.args.lane.now in let me = c.args.seat.now.me in
    ap (λ (m : Mine). packets_out m) a.2 ∙ filling_packets l.instances l.capacity l.sender l.receiver (length (sent (held me).seen l.sender l.receiver)) a.0 (packets_out me ++ c.args.packet ∷ [])

pub returns-clause-vacant : goal.returns-clause-vacant
returns-clause-vacant c = let a = after c in let l = c.args.lane.now in let me = c.args.seat.now.me in
    ap suc (ap (λ (m : Mine). vacant_out m) a.2 ∙ filling_vacant l.instances l.capacity l.sender l.receiver (length (sent (held me).seen l.sender l.receiver)) a.0 (packets_out me ++ c.args.packet ∷ [])) ∙ a.1

-- the first slot is empty
pub exchange-requires : goal.exchange-requires
exchange-requires c =
    let me = c.args.seat.now.me in
    let first = first_vacant c.args.lane.now me c.args.count c.requires.filling c.requires.room c.requires.count in
    (c.requires.table, (None, first ∙ ap (λ (i : ℕ). (i, None) ∷ rest me.1) (sym c.slot.ensures.value)))
