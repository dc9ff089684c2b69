-- The row of an event, when a row is added.
use Rattle.std.proofs.Common.{◌≡◌, ℕ, suc, ◌<◌, Bool, true, false, cond, List, [], ◌∷◌, ◌++◌, length, Option, None, Some, refl, sym, ap, ◌∙◌, arith}
use Rattle.std.specs.Prelude.{option_map}
use Rattle.std.proofs.lemmas.Option.{none-some, same_Some}
use Rattle.chart.specs.Charts.{Place}
use Rattle.chart_layout.specs.declared.row.Row.{Row}
use Rattle.chart_layout.specs.Layouts.{has_event, row_of}

-- the number of a later row
under : (found more : Option ℕ) → ((n : ℕ) → found ≡ Some n → more ≡ Some n) → (here : Bool) (i : ℕ) → cond here (Some 0) (option_map suc found) ≡ Some i → cond here (Some 0) (option_map suc more) ≡ Some i
under found more same true i its = its
under None more same false i none = absurd (none-some i none)
under (Some j) more same false i at_i = ap (option_map suc) (same j refl) ∙ at_i

-- a row that has an event keeps its number
pub row_of-push_old : (rows : List Row) (row : Row) (e : Place) (i : ℕ) → row_of rows e ≡ Some i → row_of (rows ++ row ∷ []) e ≡ Some i
row_of-push_old [] row e i is = absurd (none-some i is)
row_of-push_old (first ∷ rows) row e i is = under (row_of rows e) (row_of (rows ++ row ∷ []) e) (λ n at_n. row_of-push_old rows row e n at_n) (has_event e first) i is

-- no row, and no later one
past : (found more : Option ℕ) (last : Bool) (n : ℕ) → (found ≡ None → more ≡ cond last (Some n) None) → (here : Bool) → cond here (Some 0) (option_map suc found) ≡ None → cond here (Some 0) (option_map suc more) ≡ cond last (Some (suc n)) None
past found more last n same true none = absurd (none-some 0 (sym none))
past (Some j) more last n same false none = absurd (none-some (suc j) (sym none))
past None more true n same false none = ap (option_map suc) (same refl)
past None more false n same false none = ap (option_map suc) (same refl)

-- an event that no row had is in the new one, or in none
pub row_of-push_new : (rows : List Row) (row : Row) (e : Place) → row_of rows e ≡ None → row_of (rows ++ row ∷ []) e ≡ cond (has_event e row) (Some (length rows)) None
row_of-push_new [] row e none = refl
row_of-push_new (first ∷ rows) row e none = past (row_of rows e) (row_of (rows ++ row ∷ []) e) (has_event e row) (length rows) (λ never. row_of-push_new rows row e never) (has_event e first) none

-- a row that has an event is one of the rows
pub row_of-within : (rows : List Row) (e : Place) (i : ℕ) → row_of rows e ≡ Some i → i < length rows
row_of-within [] e i is = absurd (none-some i is)
row_of-within (row ∷ rows) e i is = go (has_event e row) (row_of rows e) (λ n at_n. row_of-within rows e n at_n) is
  where
    go : (here : Bool) (found : Option ℕ) → ((n : ℕ) → found ≡ Some n → n < length rows) → cond here (Some 0) (option_map suc found) ≡ Some i → i < length (row ∷ rows)
    go true found within first = let e = same_Some 0 i first in omega arith
    go false None within none = absurd (none-some i none)
    go false (Some n) within later = let e = same_Some (suc n) i later in let less = within n refl in omega arith
