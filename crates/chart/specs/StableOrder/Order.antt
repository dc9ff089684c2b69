-- The stable order of things by a number that each of them has.
use Rattle.std.specs.Prelude.{ℕ, List, [], ◌∷◌, fold, nat_lt, if◌then◌else◌}

-- the thing, put after those with lower numbers or its own number, and before those with higher numbers
unfoldable pub put_by : {X : Type 0} → (X → ℕ) → List X → X → List X
put_by key [] e = e ∷ []
put_by key (x ∷ xs) e = if nat_lt (key e) (key x) then e ∷ x ∷ xs else x ∷ put_by key xs e

-- things by their numbers; those of one number stay in the order in which they came
unfoldable pub in_order_by : {X : Type 0} → (X → ℕ) → List X → List X
in_order_by key things = fold (put_by key) [] things
