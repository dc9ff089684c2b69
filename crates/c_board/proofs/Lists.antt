-- Lists that a loop overwrites, element by element.
use Rattle.std.proofs.Common.{◌≡◌, ℕ, zero, suc, ◌+◌, ◌<◌, ◌≤◌, ◌⊎◌, inl, inr, List, [], ◌∷◌, ◌++◌, length, take, drop, map, min, set, get_or, refl, ap, subst, arith}
use Rattle.std.specs.Prelude.{slice_get, None, Some}

-- the next element of one list overwrites the next of the other
pub put_step : {X : Type 0} (xs ys : List X) (n : ℕ) (x : X) (rest : List X) → n < length ys → drop n xs ≡ x ∷ rest
    → set (take n xs ++ drop n ys) n x ≡ take (suc n) xs ++ drop (suc n) ys
put_step [] ys zero x rest less e = cc
put_step [] ys (suc n) x rest less e = cc
put_step (a ∷ xs) [] n x rest less e = absurd (omega (arith, less))
put_step (a ∷ xs) (b ∷ ys) zero x rest less e = cc
put_step (a ∷ xs) (b ∷ ys) (suc n) x rest less e = ap (λ zs. a ∷ zs) (put_step xs ys n x rest (omega (arith, less)) e)

-- all elements for which there is room were written
pub put_all : {X : Type 0} (xs ys : List X) (n : ℕ) → n ≤ length ys → n ≤ length xs → (drop n xs ≡ []) ⊎ (n ≡ length ys)
    → take n xs ++ drop n ys ≡ take (length ys) xs ++ drop (length xs) ys
put_all [] [] zero less few done = refl
put_all [] (y ∷ ys) zero less few done = refl
put_all [] ys (suc n) less few done = absurd (omega (arith, few))
put_all (x ∷ xs) [] zero less few done = refl
put_all (x ∷ xs) [] (suc n) less few done = absurd (omega (arith, less))
put_all (x ∷ xs) (y ∷ ys) zero less few (inl done) = cc
put_all (x ∷ xs) (y ∷ ys) zero less few (inr done) = absurd (omega (arith, done))
put_all (x ∷ xs) (y ∷ ys) (suc n) less few (inl done) = ap (λ zs. x ∷ zs) (put_all xs ys n (omega (arith, less)) (omega (arith, few)) (inl done))
put_all (x ∷ xs) (y ∷ ys) (suc n) less few (inr done) = ap (λ zs. x ∷ zs) (put_all xs ys n (omega (arith, less)) (omega (arith, few)) (inr (omega (arith, done))))

-- no old element is left if the lists have one length
pub take_none : {X : Type 0} (xs ys : List X) → length xs ≡ length ys → take (length ys) xs ++ drop (length xs) ys ≡ xs
take_none [] [] same = refl
take_none [] (y ∷ ys) same = absurd (omega (arith, same))
take_none (x ∷ xs) [] same = absurd (omega (arith, same))
take_none (x ∷ xs) (y ∷ ys) same = ap (λ zs. x ∷ zs) (take_none xs ys (omega (arith, same)))

-- the same, with the next number as loops count it
pub put_next : {X : Type 0} (xs ys : List X) (n : ℕ) (x : X) (rest : List X) → n < length ys → drop n xs ≡ x ∷ rest
    → set (take n xs ++ drop n ys) n x ≡ take (n + 1) xs ++ drop (n + 1) ys
put_next xs ys n x rest less e = let next : suc n ≡ n + 1 = omega arith in subst (λ (m : ℕ). set (take n xs ++ drop n ys) n x ≡ take m xs ++ drop m ys) next (put_step xs ys n x rest less e)

drop_step : {X : Type 0} (xs : List X) (n : ℕ) (x : X) (rest : List X) → drop n xs ≡ x ∷ rest → drop (suc n) xs ≡ rest
drop_step [] zero x rest e = cc
drop_step [] (suc n) x rest e = cc
drop_step (a ∷ xs) zero x rest e = cc
drop_step (a ∷ xs) (suc n) x rest e = drop_step xs n x rest e

-- the elements after the next one
pub drop_next : {X : Type 0} (xs : List X) (n : ℕ) (x : X) (rest : List X) → drop n xs ≡ x ∷ rest → drop (n + 1) xs ≡ rest
drop_next xs n x rest e = let next : suc n ≡ n + 1 = omega arith in subst (λ (m : ℕ). drop m xs ≡ rest) next (drop_step xs n x rest e)

-- if elements are left, there is a next one
pub drop_less : {X : Type 0} (xs : List X) (n : ℕ) (x : X) (rest : List X) → drop n xs ≡ x ∷ rest → n < length xs
drop_less [] zero x rest e = cc
drop_less [] (suc n) x rest e = cc
drop_less (a ∷ xs) zero x rest e = omega arith
drop_less (a ∷ xs) (suc n) x rest e = omega (arith, drop_less xs n x rest e)

-- the next element is still as it was
pub mid_at : {X : Type 0} (xs ys : List X) (n : ℕ) → n ≤ length xs → n < length ys → slice_get (take n xs ++ drop n ys) n ≡ slice_get ys n
mid_at xs ys zero few less = refl
mid_at [] ys (suc n) few less = absurd (omega (arith, few))
mid_at (x ∷ xs) [] (suc n) few less = absurd (omega (arith, less))
mid_at (x ∷ xs) (y ∷ ys) (suc n) few less = mid_at xs ys n (omega (arith, few)) (omega (arith, less))

-- the rest of a mapped list begins with the image of the next element
pub drop_mapped : {X Y : Type 0} (f : X → Y) (xs : List X) (n : ℕ) (d : X) → n < length xs → drop n (map f xs) ≡ f (get_or xs n d) ∷ drop (n + 1) (map f xs)
drop_mapped {X = X} f xs n d less = let next : suc n ≡ n + 1 = omega arith in subst (λ (m : ℕ). drop n (map f xs) ≡ f (get_or xs n d) ∷ drop m (map f xs)) next (go xs n less)
  where
    go : (xs : List X) (n : ℕ) → n < length xs → drop n (map f xs) ≡ f (get_or xs n d) ∷ drop (suc n) (map f xs)
    go [] n less = absurd (omega (arith, less))
    go (x ∷ xs) zero less = refl
    go (x ∷ xs) (suc n) less = go xs n (omega (arith, less))

-- all elements for which there is room were written, by the number of the writes
pub put_min : {X : Type 0} (xs ys : List X) (n : ℕ) → n ≡ min (length xs) (length ys) → take n xs ++ drop n ys ≡ take (length ys) xs ++ drop (length xs) ys
put_min [] [] zero same = refl
put_min [] [] (suc n) same = absurd (omega (arith, same))
put_min [] (y ∷ ys) zero same = refl
put_min [] (y ∷ ys) (suc n) same = absurd (omega (arith, same))
put_min (x ∷ xs) [] zero same = refl
put_min (x ∷ xs) [] (suc n) same = absurd (omega (arith, same))
put_min (x ∷ xs) (y ∷ ys) zero same = absurd (omega (arith, same))
put_min (x ∷ xs) (y ∷ ys) (suc n) same = ap (λ zs. x ∷ zs) (put_min xs ys n (omega (arith, same)))

-- an element is at one of the list's places
pub some_within : {X : Type 0} (xs : List X) (i : ℕ) (x : X) → slice_get xs i ≡ Some x → i < length xs
some_within [] i x there = absurd (never there)
  where
    never : {Y : Type 0} {y : Y} → None ≡ Some y → ⊥
    never e = cc
some_within (y ∷ xs) zero x there = omega arith
some_within (y ∷ xs) (suc i) x there = omega (arith, some_within xs i x there)

-- a list with an element has a first one
pub first_of : {X : Type 0} (xs : List X) → (length xs ≡ 0 → ⊥) → (x : X) × (slice_get xs 0 ≡ Some x)
first_of [] some = absurd (some refl)
first_of (x ∷ xs) some = (x, refl)

-- the element that was read at a place is the one there
pub read_there : {X : Type 0} (xs : List X) (i : ℕ) (x read : X) → slice_get xs i ≡ Some x → read ≡ get_or xs i read → x ≡ read
read_there [] i x read there is = absurd (never there)
  where
    never : {Y : Type 0} {y : Y} → None ≡ Some y → ⊥
    never e = cc
read_there (y ∷ xs) zero x read there is = cc
read_there (y ∷ xs) (suc i) x read there is = read_there xs i x read there is
