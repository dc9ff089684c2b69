-- Lists that are mapped, filtered and searched.
use Rattle.std.proofs.Common.{◌≡◌, ◌||◌, Bool, true, false, cond, List, [], ◌∷◌, ◌++◌, length, map, filter, refl, ap}
use Rattle.std.specs.Prelude.{fold, slice_get, Some}
use Rattle.std.specs.List.{list_any}

pub map_map : {A B C : Type 0} (f : A → B) (g : B → C) (xs : List A) → map g (map f xs) ≡ map (λ x. g (f x)) xs
map_map f g [] = refl
map_map f g (x ∷ xs) = ap (λ l. g (f x) ∷ l) (map_map f g xs)

pub filter_map : {A B : Type 0} (f : A → B) (test : B → Bool) (xs : List A) → filter test (map f xs) ≡ map f (filter (λ x. test (f x)) xs)
filter_map f test [] = refl
filter_map f test (x ∷ xs) = go (test (f x)) (filter_map f test xs)
  where
    go : (its : Bool) → filter test (map f xs) ≡ map f (filter (λ y. test (f y)) xs)
        → cond its (f x ∷ filter test (map f xs)) (filter test (map f xs)) ≡ map f (cond its (x ∷ filter (λ y. test (f y)) xs) (filter (λ y. test (f y)) xs))
    go true rest = ap (λ l. f x ∷ l) rest
    go false rest = rest

pub any_map : {A B : Type 0} (f : A → B) (test : B → Bool) (xs : List A) → list_any test (map f xs) ≡ list_any (λ x. test (f x)) xs
any_map f test [] = refl
any_map f test (x ∷ xs) = ap (λ b. test (f x) || b) (any_map f test xs)

pub fold_push : {A B : Type 0} (f : B → A → B) (acc : B) (xs : List A) (x : A) → fold f acc (xs ++ x ∷ []) ≡ f (fold f acc xs) x
fold_push f acc [] x = refl
fold_push f acc (y ∷ xs) x = fold_push f (f acc y) xs x

pub get_seam : {A : Type 0} (xs : List A) (x : A) (ys : List A) → slice_get (xs ++ x ∷ ys) (length xs) ≡ Some x
get_seam [] x ys = refl
get_seam (first ∷ xs) x ys = get_seam xs x ys
