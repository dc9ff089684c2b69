-- The rows of a layout, and what a picture has for them.
use Rattle.std.proofs.Common.{◌≡◌, ℕ, zero, suc, ◌+◌, ◌<◌, Bool, true, false, cond, List, [], ◌∷◌, ◌++◌, length, take, Option, None, Some, refl, sym, ap, ◌∙◌, arith, append_assoc}
use Rattle.std.specs.Prelude.{slice_get, option_map}
use Rattle.std.specs.List.{flat_map, range_with_len}
use Rattle.std.proofs.lemmas.Option.{none-some, same_Some}
use Rattle.chart.specs.Charts.{Place}
use Rattle.chart_layout.specs.declared.row.Row.{Row}
use Rattle.chart_layout.specs.Layouts.{has_event, row_of}
use Rattle.picture_parts.specs.Columns.Choices.{ChoiceView, next_count, places_from, count_from}

-- an event is in the row that has its number
pub row_there : (rows : List Row) (e : Place) (i : ℕ) → row_of rows e ≡ Some i → (row : Row) × (slice_get rows i ≡ Some row) × (has_event e row ≡ true)
row_there [] e i is = absurd (none-some i is)
row_there (row ∷ rows) e i is = go (has_event e row) refl (row_of rows e) (λ n at_n. row_there rows e n at_n) i is
  where
    go : (here : Bool) → has_event e row ≡ here → (found : Option ℕ) → ((n : ℕ) → found ≡ Some n → (x : Row) × (slice_get rows n ≡ Some x) × (has_event e x ≡ true)) → (k : ℕ)
        → cond here (Some 0) (option_map suc found) ≡ Some k → (x : Row) × (slice_get (row ∷ rows) k ≡ Some x) × (has_event e x ≡ true)
    go true its found later zero at_k = (row, refl, its)
    go true its found later (suc k) at_k = let same = same_Some 0 (suc k) at_k in absurd (omega (arith, same))
    go false its None later k at_k = absurd (none-some k at_k)
    go false its (Some n) later zero at_k = let same = same_Some (suc n) 0 at_k in absurd (omega (arith, same))
    go false its (Some n) later (suc k) at_k = let same = same_Some (suc n) (suc k) at_k in later k (ap (λ j. Some j) (omega (arith, same)))

-- as many rows are drawn above a row as the picture has for it
pub place_there : (v : ChoiceView) (n : ℕ) (rows : List Row) (i : ℕ) → i < length rows → slice_get (places_from v n rows) i ≡ Some (count_from v n (take i rows))
place_there v n [] i inside = absurd (omega (arith, inside))
place_there v n (row ∷ rows) zero inside = refl
place_there v n (row ∷ rows) (suc i) inside = place_there v (next_count v n row) rows i (omega (arith, inside))

-- the text of an element in the text of all
pub split_there : {X : Type 0} (f : X → List ℕ) (xs : List X) (i : ℕ) (x : X) → slice_get xs i ≡ Some x → (before : List ℕ) × (after : List ℕ) × (flat_map f xs ≡ before ++ (f x ++ after))
split_there f [] i x is = absurd (none-some x is)
split_there f (y ∷ xs) zero x is = ([], flat_map f xs, ap (λ z. f z ++ flat_map f xs) (same_Some y x is))
split_there f (y ∷ xs) (suc i) x is =
    let rest = split_there f xs i x is in (f y ++ rest.0, rest.1, ap (λ t. f y ++ t) rest.2 ∙ sym (append_assoc (f y) rest.0 (f x ++ rest.1)))

pub length_range : (a n : ℕ) → length (range_with_len a n) ≡ n
length_range a zero = refl
length_range a (suc n) = ap suc (length_range (a + 1) n)
