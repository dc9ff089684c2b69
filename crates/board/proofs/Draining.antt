-- The messages of a lane, drawn one after another from the slots that left with a seat.
use Rattle.std.proofs.Common.{◌≡◌, ℕ, zero, suc, ◌+◌, ◌<◌, List, [], ◌∷◌, ◌++◌, length, take, drop, refl, sym, ap, ap₂, ◌∙◌, arith, append-nil, append_assoc, length-drop}
use Rattle.std.specs.Prelude.{Option, Some, None}
use Rattle.std.proofs.lemmas.List.{drop-map}
use Rattle.atomic_table.specs.Table.{rest}
use Rattle.chart.specs.Messages.{Content}
use Rattle.board_table.specs.declared.packet.Packet.{Packet}
use Rattle.board_table.specs.Layout.{LaneView, slot_of}
use Rattle.board_table.specs.Carrying.{full_slots}
use Rattle.board_table.specs.Leaving.{ComeFirst}
use Rattle.board.specs.Parting.{Slots, messages_in, HasDrained}

-- a list after its first elements
split_next : {X : Type 0} (i : ℕ) (xs : List X) (y : X) (ys : List X) → drop i xs ≡ y ∷ ys → (take (suc i) xs ≡ take i xs ++ y ∷ []) × (drop (suc i) xs ≡ ys)
split_next zero [] y ys at = absurd (omega (arith, ap length at))
split_next zero (x ∷ xs) y ys at = (ap (take 1) at, ap (drop 1) at)
split_next (suc i) [] y ys at = absurd (omega (arith, ap length at))
split_next (suc i) (x ∷ xs) y ys at = let its = split_next i xs y ys at in (ap (λ zs. x ∷ zs) its.0, its.1)

abbrev content_of : Option Packet → Slots → Option Packet
content_of d [] = d
content_of d (x ∷ xs) = x.1

some_packet : (x y : Packet) → Some x ≡ Some y → x ≡ y
some_packet x y same = cc

pub drained_none : (l : LaneView) (taken many : ℕ) (first : Slots) → HasDrained l taken many 0 first first []
drained_none l taken many first = record {
  drained = λ packets others come long.
      let none : taken + 0 ≡ taken = omega arith in
      (refl, [], record { are = come.are ∙ ap₂ (λ c zs. full_slots l.instances l.capacity l.sender l.receiver c packets ++ zs) (sym none) (sym (append-nil others)) });
}

module _ (l : LaneView) (taken many place : ℕ) (first now : Slots) (messages : List Content) (its : HasDrained l taken many place first now messages) (less : place < many) where
  abbrev slot : ℕ
  slot = slot_of l.instances l.capacity l.sender l.receiver (taken + place)

  -- the next packet comes first
  record HasNext (packets : List Packet) (others : Slots) : Type 0 where
    next : Packet
    later : List Packet
    more : Slots
    cut : drop place packets ≡ next ∷ later
    stated : messages ≡ take place (messages_in packets)
    slots : now ≡ (slot, Some next) ∷ (full_slots l.instances l.capacity l.sender l.receiver (suc (taken + place)) later ++ (others ++ more))

  has_next : (packets : List Packet) (others : Slots) → ComeFirst l taken packets first others → length packets ≡ many → HasNext packets others
  has_next packets others come long = go (drop place packets) refl (its.drained packets others come long)
    where
      go : (ys : List Packet) → drop place packets ≡ ys
          → (messages ≡ take place (messages_in packets)) × (more : Slots) × ComeFirst l (taken + place) (drop place packets) now (others ++ more) → HasNext packets others
      go [] cut so = absurd (omega (arith, ap length cut, length-drop place packets, long))
      go (y ∷ ys) cut so = record {
        next = y;
        later = ys;
        more = so.1;
        cut = cut;
        stated = so.0;
        slots = so.2.are ∙ ap (λ zs. full_slots l.instances l.capacity l.sender l.receiver (taken + place) zs ++ (others ++ so.1)) cut;
      }

  pub drained_first : (packets : List Packet) × (others : Slots) × ComeFirst l taken packets first others × (length packets ≡ many) → (x : Packet) × (now ≡ (slot, Some x) ∷ rest now)
  drained_first (packets, others, come, long) =
      let it = has_next packets others come long in
      (it.next, it.slots ∙ ap (λ zs. (slot, Some it.next) ∷ zs) (sym (ap rest it.slots)))

  pub drained_next : (x : Packet) (after : Slots) → now ≡ (slot, Some x) ∷ rest now → after ≡ rest now ++ (slot, None) ∷ [] → HasDrained l taken many (place + 1) first after (messages ++ x.message ∷ [])
  drained_next x after front turned = record {
    drained = λ packets others come long.
        let it = has_next packets others come long in
        let same : it.next ≡ x = some_packet it.next x (ap (content_of None) (sym it.slots ∙ front)) in
        let onward : place + 1 ≡ suc place = omega arith in
        let further : taken + (place + 1) ≡ suc (taken + place) = omega arith in
        let cut = split_next place packets it.next it.later it.cut in
        let named = split_next place (messages_in packets) it.next.message (messages_in it.later) (drop-map (λ (z : Packet). z.message) place packets ∙ ap messages_in it.cut) in
        let filled = full_slots l.instances l.capacity l.sender l.receiver (suc (taken + place)) it.later in
        let slots : after ≡ filled ++ (others ++ (it.more ++ (slot, None) ∷ [])) =
        turned ∙ ap (λ zs. zs ++ (slot, None) ∷ []) (ap rest it.slots) ∙ append_assoc filled (others ++ it.more) ((slot, None) ∷ []) ∙ ap (λ zs. filled ++ zs) (append_assoc others it.more ((slot, None) ∷ [])) in (
          ap₂ (λ ms m. ms ++ m ∷ []) it.stated (ap (λ (z : Packet). z.message) (sym same)) ∙ sym named.0 ∙ ap (λ i. take i (messages_in packets)) (sym onward),
          it.more ++ (slot, None) ∷ [],
          record { are = slots ∙ ap₂ (λ c zs. full_slots l.instances l.capacity l.sender l.receiver c zs ++ (others ++ (it.more ++ (slot, None) ∷ []))) (sym further) (sym cut.1 ∙ ap (λ i. drop i packets) (sym onward)) },
        );
  }
