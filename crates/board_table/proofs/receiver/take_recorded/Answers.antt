use Rattle.std.proofs.Common.{◌≡◌, ℕ, suc, ◌∷◌, [], ◌++◌, sym, ap, ◌∙◌, List}
use Rattle.std.specs.Prelude.{Option, Some, None}
use Rattle.atomic_table.specs.Table.{rest}
use Rattle.chart.specs.Histories.{received}
use Rattle.board_table.specs.declared.packet.Packet.{Packet}
use Rattle.board_table.specs.Knowing.{Mine, held, packets_out, vacant_out}
use Rattle.board_table.proofs.Handling.{first_full, take_first, taken_is}
use Rattle.board_table.proofs.OutSlots.{emptying_slots, emptying_packets, emptying_vacant}
use Rattle.board_table.proofs.receiver.take_recorded.Goals as goal

-- the content of the first slot
abbrev value_of : ℕ × Option Packet → List (ℕ × Option Packet) → Option Packet
value_of d [] = d.1
value_of d (x ∷ xs) = x.1

abbrev packet_of : Packet → Option Packet → Packet
packet_of d None = d
packet_of d (Some x) = x

pub slot_mut-slot-requires : goal.slot_mut-slot-requires
slot_mut-slot-requires c =
    let first = first_full c.args.lane.now c.args.seat.now.me c.args.count c.requires.emptying c.requires.some c.requires.count in
    (c.requires.table, (Some first.0, first.3 ∙ ap (λ i. (i, Some first.0) ∷ rest c.args.seat.now.me.1) (sym c.slot.ensures.value)))

pub unreachable-requires : goal.unreachable-requires
unreachable-requires c =
    let first = first_full c.args.lane.now c.args.seat.now.me c.args.count c.requires.emptying c.requires.some c.requires.count in
    let d : ℕ × Option Packet = (c.slot.result, c.slot_mut-slot.result.now) in
    c.in_default.not-Some first.0 (sym (ap (value_of d) c.slot_mut-slot.ensures.value) ∙ ap (value_of d) first.3)

-- the slots that are out with the receiver afterwards
after : (c : goal.After-turn) → let me = c.args.seat.now.me in let l = c.args.lane.now in
    (x : Packet) × (xs : List Packet) × (packets_out me ≡ x ∷ xs) × (c.in-Some-take.field-0 ≡ x) × (c.turn.new.self.me ≡ (held me ∷ [], emptying_slots l.instances l.capacity l.sender l.receiver (received (held me).seen l.sender l.receiver) (suc (vacant_out me)) xs))
after c =
    let me = c.args.seat.now.me in
    let first = first_full c.args.lane.now me c.args.count c.requires.emptying c.requires.some c.requires.count in
    let d : ℕ × Option Packet = (c.slot.result, c.slot_mut-slot.result.now) in
    let full : c.slot_mut-slot.result.now ≡ Some first.0 = sym (ap (value_of d) c.slot_mut-slot.ensures.value) ∙ ap (value_of d) first.3 in (
      first.0,
      first.1,
      first.2,
      ap (packet_of first.0) (sym c.in-Some-take.is ∙ c.take.ensures.value ∙ sym c.in-Some.is ∙ full),
      take_first c.args.lane.now me c.turn.new.self.me c.args.count first.0 first.1 c.requires.emptying first.2 c.requires.count
          (c.turn.ensures.2 ∙ ap (λ (o : Option Packet). (me.0, rest me.1 ++ (c.slot.result, o) ∷ [])) c.take.ensures.after ∙ ap (λ i. (me.0, rest me.1 ++ (i, None) ∷ [])) c.slot.ensures.value),
    )

pub returns-clause-emptying : goal.returns-clause-emptying
returns-clause-emptying c = let a = after c in taken_is c.args.lane.now c.args.seat.now.me c.turn.new.self.me a.0 a.1 c.requires.emptying a.2 a.4

pub returns-clause-packet : goal.returns-clause-packet
returns-clause-packet c = let a = after c in let l = c.args.lane.now in let me = c.args.seat.now.me in
    let left = ap (λ (m : Mine). packets_out m) a.4 ∙ emptying_packets l.instances l.capacity l.sender l.receiver (received (held me).seen l.sender l.receiver) (suc (vacant_out me)) a.1 in
    (a.0, a.2 ∙ ap (λ ys. a.0 ∷ ys) (sym left), ap (λ (x : Packet). x.message) a.3)

pub returns-clause-vacant : goal.returns-clause-vacant
returns-clause-vacant c = let a = after c in let l = c.args.lane.now in let me = c.args.seat.now.me in
    ap (λ (m : Mine). vacant_out m) a.4 ∙ emptying_vacant l.instances l.capacity l.sender l.receiver (received (held me).seen l.sender l.receiver) (suc (vacant_out me)) a.1
