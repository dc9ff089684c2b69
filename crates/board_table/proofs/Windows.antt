-- The slots of neighbouring places on one lane, taken out and put back.
use Rattle.std.proofs.Common.{◌≡◌, ◌≢◌, ℕ, zero, suc, ◌+◌, ◌<◌, ◌≤◌, List, [], ◌∷◌, length, set, refl, sym, ap, ◌∙◌, subst, lt_of_not-le, arith, length-set}
use Rattle.std.specs.Prelude.{Option, Some, None}
use mathlib.Core.Option.{none, some, some-ne-none, some-injective}
use mathlib.Core.Option as maybe
use native.Mathlib.Decide.{dec_le}
use lib.ListN.{get_elem?}
use Rattle.atomic_table.specs.Table.{Valid}
use Rattle.atomic_table.proofs.Lists.{set_here}
use Rattle.chart.specs.Histories.{AreTwo}
use Rattle.board_table.specs.declared.packet.Packet.{Packet}
use Rattle.board_table.specs.Layout.{slot_of, slot_count}
use Rattle.board_table.specs.Carrying.{vacant_slots, full_slots}
use Rattle.board_table.proofs.Homes.{takes_all, put_in, Apart, takes_all-homes, taken_out-else, put_in-else}
use Rattle.board_table.proofs.Places.{slot_within, slot_other}

abbrev pub Homes : Type 0
Homes = List (maybe.Option (Option Packet))

module _ (n k q p : ℕ) where
  abbrev pub slot : ℕ → ℕ
  slot c = slot_of n k q p c

  -- the slot of d is empty after these are put back
  abbrev Found : Homes → ℕ → ℕ → ℕ → Type 0
  Found homes c many d = get_elem? (put_in homes (vacant_slots n k q p c many)) (slot d) ≡ some (some None)

  pub apart_full : (xs : List Packet) (c j : ℕ) → ((e : ℕ) → c ≤ e → e < c + length xs → j ≢ slot e) → Apart j (full_slots n k q p c xs)
  apart_full [] c j away = tt
  apart_full (x ∷ xs) c j away = (away c (omega arith) (omega arith), apart_full xs (suc c) j (λ e low high. away e (omega arith) (omega arith)))

  pub apart_vacant : (many c j : ℕ) → ((e : ℕ) → c ≤ e → e < c + many → j ≢ slot e) → Apart j (vacant_slots n k q p c many)
  apart_vacant zero c j away = tt
  apart_vacant (suc many) c j away = (away c (omega arith) (omega arith), apart_vacant many (suc c) j (λ e low high. away e (omega arith) (omega arith)))

  module _ (two : AreTwo n q p) (some_place : 0 < k) where
    -- a place before a window, or after it, less than a ring away from all of it
    pub before_window : (c d many : ℕ) → d < c → c + many ≤ d + k → (e : ℕ) → c ≤ e → e < c + many → slot d ≢ slot e
    before_window c d many less near e low high = slot_other n k q p d e two (omega arith) (omega arith)

    pub behind_window : (c d many : ℕ) → c + many ≤ d → d < c + k → (e : ℕ) → c ≤ e → e < c + many → slot d ≢ slot e
    behind_window c d many less near e low high same = slot_other n k q p e d two (omega arith) (omega arith) (sym same)

    pub put_full : (xs : List Packet) (homes : Homes) (c i d : ℕ) (x : Packet) → length homes ≡ slot_count n k → length xs ≤ k → d ≡ c + i → get_elem? xs i ≡ some x → get_elem? (put_in homes (full_slots n k q p c xs)) (slot d) ≡ some (some (Some x))
    put_full [] homes c i d x sized fit at is = absurd (some-ne-none x (sym is))
    put_full (y ∷ ys) homes c zero d x sized fit at is =
        let here : d ≡ c = omega arith in
        let within = slot_within n k q p c two some_place in
        subst (λ z. get_elem? (put_in (set homes (slot c) (some (Some y))) (full_slots n k q p (suc c) ys)) (slot z) ≡ some (some (Some x))) (sym here)
        (put_in-else (set homes (slot c) (some (Some y))) (full_slots n k q p (suc c) ys) (slot c) (apart_full ys (suc c) (slot c) (before_window (suc c) c (length ys) (omega arith) (omega arith)))
        ∙ set_here homes (slot c) (some (Some y)) (omega (arith, within, sized))
        ∙ ap (λ (z : Packet). some (some (Some z))) (some-injective y x is))
    put_full (y ∷ ys) homes c (suc i) d x sized fit at is = put_full ys (set homes (slot c) (some (Some y))) (suc c) i d x (length-set homes (slot c) (some (Some y)) ∙ sized) (omega arith) (omega arith) is

    pub put_vacant : (many : ℕ) (homes : Homes) (c d : ℕ) → length homes ≡ slot_count n k → many ≤ k → c ≤ d → d < c + many → get_elem? (put_in homes (vacant_slots n k q p c many)) (slot d) ≡ some (some None)
    put_vacant zero homes c d sized fit low high = absurd (omega arith)
    put_vacant (suc many) homes c d sized fit low high = go (dec_le d c) (λ more. put_vacant many (set homes (slot c) (some None)) (suc c) d (length-set homes (slot c) (some None) ∙ sized) (omega arith) more (omega arith))
      where
        here : c ≡ d → Found (set homes (slot c) (some None)) (suc c) many d
        here same =
            let within = slot_within n k q p c two some_place in
            subst (Found (set homes (slot c) (some None)) (suc c) many) same
            (put_in-else (set homes (slot c) (some None)) (vacant_slots n k q p (suc c) many) (slot c) (apart_vacant many (suc c) (slot c) (before_window (suc c) c many (omega arith) (omega arith)))
            ∙ set_here homes (slot c) (some None) (omega (arith, within, sized)))

        go : Dec (d ≤ c) → (suc c ≤ d → Found (set homes (slot c) (some None)) (suc c) many d) → Found (set homes (slot c) (some None)) (suc c) many d
        go (yes le) onward = here (omega arith)
        go (no gt) onward = onward (lt_of_not-le gt)

    pub valid_full : (xs : List Packet) (homes : Homes) (c : ℕ) → length xs ≤ k → ((i d : ℕ) (x : Packet) → d ≡ c + i → get_elem? xs i ≡ some x → get_elem? homes (slot d) ≡ some (some (Some x))) → Valid homes [] (takes_all (full_slots n k q p c xs))
    valid_full [] homes c fit home = tt
    valid_full (x ∷ xs) homes c fit home = (
      valid_full xs homes (suc c) (omega arith) (λ i d y at is. home (suc i) d y (omega arith) is),
      ap (λ hs. get_elem? hs (slot c)) (takes_all-homes homes [] (full_slots n k q p (suc c) xs))
          ∙ taken_out-else homes (full_slots n k q p (suc c) xs) (slot c) (apart_full xs (suc c) (slot c) (before_window (suc c) c (length xs) (omega arith) (omega arith)))
          ∙ home zero c x (omega arith) refl,
    )

    pub valid_vacant : (many : ℕ) (homes : Homes) (c : ℕ) → many ≤ k → ((d : ℕ) → c ≤ d → d < c + many → get_elem? homes (slot d) ≡ some (some None)) → Valid homes [] (takes_all (vacant_slots n k q p c many))
    valid_vacant zero homes c fit home = tt
    valid_vacant (suc many) homes c fit home = (
      valid_vacant many homes (suc c) (omega arith) (λ d low high. home d (omega arith) (omega arith)),
      ap (λ hs. get_elem? hs (slot c)) (takes_all-homes homes [] (vacant_slots n k q p (suc c) many))
          ∙ taken_out-else homes (vacant_slots n k q p (suc c) many) (slot c) (apart_vacant many (suc c) (slot c) (before_window (suc c) c many (omega arith) (omega arith)))
          ∙ home c (omega arith) (omega arith),
    )
