-- What follows from the slots that are out with an end.
use Rattle.std.proofs.Common.{◌≡◌, ℕ, zero, suc, ◌+◌, List, [], ◌∷◌, ◌++◌, length, refl, sym, ap, ap₂, ◌∙◌, arith, append-nil, length-append}
use Rattle.std.specs.Prelude.{Option}
use Rattle.chart.specs.Histories.{sent}
use Rattle.board_table.specs.declared.packet.Packet.{Packet}
use Rattle.board_table.specs.declared.held.Hold.TheVariants.{Filling}
use Rattle.board_table.specs.declared.held.Held.{Held}
use Rattle.board_table.specs.Layout.{LaneView}
use Rattle.board_table.specs.Carrying.{vacant_slots, full_slots, packets_in, vacant_in}
use Rattle.board_table.specs.Knowing.{IsPost, IsFilling}

module _ (n k q p : ℕ) where
  pub packets_full : (c : ℕ) (xs : List Packet) (slots : List (ℕ × Option Packet)) → packets_in (full_slots n k q p c xs ++ slots) ≡ xs ++ packets_in slots
  packets_full c [] slots = refl
  packets_full c (x ∷ xs) slots = ap (λ ys. x ∷ ys) (packets_full (suc c) xs slots)

  pub packets_vacant : (c many : ℕ) (slots : List (ℕ × Option Packet)) → packets_in (vacant_slots n k q p c many ++ slots) ≡ packets_in slots
  packets_vacant c zero slots = refl
  packets_vacant c (suc many) slots = packets_vacant (suc c) many slots

  pub vacant_full : (c : ℕ) (xs : List Packet) (slots : List (ℕ × Option Packet)) → vacant_in (full_slots n k q p c xs ++ slots) ≡ vacant_in slots
  vacant_full c [] slots = refl
  vacant_full c (x ∷ xs) slots = vacant_full (suc c) xs slots

  pub vacant_vacant : (c many : ℕ) (slots : List (ℕ × Option Packet)) → vacant_in (vacant_slots n k q p c many ++ slots) ≡ many + vacant_in slots
  vacant_vacant c zero slots = omega arith
  vacant_vacant c (suc many) slots = omega (arith, vacant_vacant (suc c) many slots)

  pub full_many : (c : ℕ) (xs : List Packet) → length (full_slots n k q p c xs) ≡ length xs
  full_many c [] = refl
  full_many c (x ∷ xs) = ap suc (full_many (suc c) xs)

  pub vacant_many : (c many : ℕ) → length (vacant_slots n k q p c many) ≡ many
  vacant_many c zero = refl
  vacant_many c (suc many) = ap suc (vacant_many (suc c) many)

  -- the slots of a sender, of which `many` are empty, and the others have these packets
  abbrev pub filling_slots : ℕ → ℕ → List Packet → List (ℕ × Option Packet)
  filling_slots m many xs = vacant_slots n k q p (m + length xs) many ++ full_slots n k q p m xs

  -- the slots of a receiver, which has emptied `many`, and the others have these packets
  abbrev pub emptying_slots : ℕ → ℕ → List Packet → List (ℕ × Option Packet)
  emptying_slots m many xs = full_slots n k q p (m + many) xs ++ vacant_slots n k q p m many

  pub filling_packets : (m many : ℕ) (xs : List Packet) → packets_in (filling_slots m many xs) ≡ xs
  filling_packets m many xs = packets_vacant (m + length xs) many (full_slots n k q p m xs) ∙ ap packets_in (sym (append-nil (full_slots n k q p m xs))) ∙ packets_full m xs [] ∙ append-nil xs

  pub filling_vacant : (m many : ℕ) (xs : List Packet) → vacant_in (filling_slots m many xs) ≡ many
  filling_vacant m many xs = let a = vacant_vacant (m + length xs) many (full_slots n k q p m xs) in let b = ap vacant_in (sym (append-nil (full_slots n k q p m xs))) ∙ vacant_full m xs [] in omega (arith, a, b)

  pub filling_many : (m many : ℕ) (xs : List Packet) → length (filling_slots m many xs) ≡ many + length xs
  filling_many m many xs = length-append (vacant_slots n k q p (m + length xs) many) (full_slots n k q p m xs) ∙ ap₂ (λ (a b : ℕ). a + b) (vacant_many (m + length xs) many) (full_many m xs)

  pub emptying_packets : (m many : ℕ) (xs : List Packet) → packets_in (emptying_slots m many xs) ≡ xs
  emptying_packets m many xs = packets_full (m + many) xs (vacant_slots n k q p m many) ∙ ap (λ ys. xs ++ ys) (ap packets_in (sym (append-nil (vacant_slots n k q p m many))) ∙ packets_vacant m many []) ∙ append-nil xs

  pub emptying_vacant : (m many : ℕ) (xs : List Packet) → vacant_in (emptying_slots m many xs) ≡ many
  emptying_vacant m many xs = let a = vacant_full (m + many) xs (vacant_slots n k q p m many) in let b = ap vacant_in (sym (append-nil (vacant_slots n k q p m many))) ∙ vacant_vacant m many [] in omega (arith, a, b)

  pub emptying_many : (m many : ℕ) (xs : List Packet) → length (emptying_slots m many xs) ≡ many + length xs
  emptying_many m many xs = let a = length-append (full_slots n k q p (m + many) xs) (vacant_slots n k q p m many) in let b = full_many (m + many) xs in let c = vacant_many m many in omega (arith, a, b, c)

-- a seat with such slots is filling
pub is_filling : (l : LaneView) (e : Held) (many : ℕ) (xs : List Packet) → IsPost l.instances l.capacity l.sender (e ∷ [], []) → e.hold ≡ Filling l.receiver (many + length xs) → let m : ℕ = length (sent e.seen l.sender l.receiver) in IsFilling l (e ∷ [], filling_slots l.instances l.capacity l.sender l.receiver m many xs)
is_filling l e many xs post hold = let m : ℕ = length (sent e.seen l.sender l.receiver) in record {
  post = record { alone = refl; instances = post.instances; capacity = post.capacity; number = post.number };
  hold = hold ∙ ap (λ i. Filling l.receiver i) (sym (filling_many l.instances l.capacity l.sender l.receiver m many xs));
  slots = ap₂ (λ ys v. filling_slots l.instances l.capacity l.sender l.receiver m v ys) (sym (filling_packets l.instances l.capacity l.sender l.receiver m many xs)) (sym (filling_vacant l.instances l.capacity l.sender l.receiver m many xs));
}
