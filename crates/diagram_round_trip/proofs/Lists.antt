-- A property of each element of a list, and a relation between each element and each later one.
use Rattle.std.proofs.Common.{◌≡◌, ℕ, zero, suc, ◌+◌, ◌<◌, ◌≤◌, ◌⊎◌, inl, inr, arith, Bool, true, false, List, [], ◌∷◌, ◌++◌, None, Some, All, length, nat_lt, lt-ltb, refl, ap, ◌∙◌, subst}
use Rattle.std.specs.Prelude.{slice_get, position}
use Rattle.std.proofs.lemmas.List.Elements.{All-nil, All-cons}
use Rattle.std.specs.List.{position_or_len, range_with_len}
use Rattle.std.proofs.lemmas.Bool.Decides.{nat_tests}
use Rattle.std.proofs.lemmas.Option.{none-some, same_Some, slice_get_within, get_or_from_slice_get}
use Rattle.diagrams.specs.Messages.Each.{Each, Pairs}

-- a property at each place
pub each_of : {A : Type 0} (P : A → Type 0) (xs : List A) → ((i : ℕ) (x : A) → slice_get xs i ≡ Some x → P x) → Each P xs
each_of P [] all = tt
each_of P (x ∷ xs) all = (all 0 x refl, each_of P xs (λ i y e. all (suc i) y e))

pub pairs_of : {A : Type 0} (R : A → A → Type 0) (xs : List A) → ((i j : ℕ) (x y : A) → slice_get xs i ≡ Some x → slice_get xs (suc (i + j)) ≡ Some y → R x y) → Pairs R xs
pairs_of R [] all = tt
pairs_of R (x ∷ xs) all =
    (each_of (R x) xs (λ j y e. all 0 j x y refl (subst (λ k. slice_get xs k ≡ Some y) (omega arith) e)), pairs_of R xs (λ i j y z e f. all (suc i) j y z e (subst (λ k. slice_get xs k ≡ Some z) (omega arith) f)))

pub each_append : {A : Type 0} (P : A → Type 0) (xs ys : List A) → Each P xs → Each P ys → Each P (xs ++ ys)
each_append P [] ys all more = more
each_append P (x ∷ xs) ys all more = (all.0, each_append P xs ys all.1 more)

pub each_weaker : {A : Type 0} (P Q : A → Type 0) → ((x : A) → P x → Q x) → (xs : List A) → Each P xs → Each Q xs
each_weaker P Q f [] all = tt
each_weaker P Q f (x ∷ xs) all = (f x all.0, each_weaker P Q f xs all.1)

-- places in joined lists
pub get_front : {A : Type 0} (xs ys : List A) (i : ℕ) (x : A) → slice_get xs i ≡ Some x → slice_get (xs ++ ys) i ≡ Some x
get_front [] ys i x e = absurd (none-some x e)
get_front (y ∷ xs) ys zero x e = e
get_front (y ∷ xs) ys (suc i) x e = get_front xs ys i x e

pub get_seam : {A : Type 0} (xs : List A) (y : A) (ys : List A) → slice_get (xs ++ y ∷ ys) (length xs) ≡ Some y
get_seam [] y ys = refl
get_seam (x ∷ xs) y ys = get_seam xs y ys

-- no element passes a test
pub none_passes : {A : Type 0} (test : A → Bool) (xs : List A) → ((i : ℕ) (x : A) → slice_get xs i ≡ Some x → test x ≡ false) → position_or_len test xs ≡ length xs
none_passes test [] all = refl
none_passes test (x ∷ xs) all = rw (all 0 x refl, none_passes test xs (λ i y e. all (suc i) y e)) (omega arith)

pub no_place : {A : Type 0} (test : A → Bool) (xs : List A) → ((i : ℕ) (x : A) → slice_get xs i ≡ Some x → test x ≡ false) → position test xs ≡ None
no_place test xs all =
    let here = none_passes test xs all in
    let past : nat_lt (length xs) (length xs) ≡ false = grind (arith, nat_tests) in
    rw (here, past) refl

-- the first element that passes
first_at : {A : Type 0} (test : A → Bool) (xs : List A) (i : ℕ) (x : A) → slice_get xs i ≡ Some x → test x ≡ true → ((j : ℕ) (y : A) → j < i → slice_get xs j ≡ Some y → test y ≡ false) → position_or_len test xs ≡ i
first_at test [] i x e its before = absurd (none-some x e)
first_at test (y ∷ xs) zero x e its before = rw (ap test (same_Some y x e) ∙ its) refl
first_at test (y ∷ xs) (suc i) x e its before =
    rw (before 0 y (omega arith) refl, first_at test xs i x e its (λ j z l f. before (suc j) z (omega arith) f)) (omega arith)

pub its_place : {A : Type 0} (test : A → Bool) (xs : List A) (i : ℕ) (x : A) → slice_get xs i ≡ Some x → test x ≡ true → ((j : ℕ) (y : A) → j < i → slice_get xs j ≡ Some y → test y ≡ false) → position test xs ≡ Some i
its_place test xs i x e its before =
    let here = first_at test xs i x e its before in
    let within : nat_lt i (length xs) ≡ true = lt-ltb _ _ (slice_get_within xs i x e) in
    rw (here, within) refl

-- numbers that go up by one from this one on
abbrev pub Counts : ℕ → List ℕ → Type 0
Counts k [] = Unit {0}
Counts k (x ∷ xs) = (x ≡ k) × Counts (k + 1) xs

pub counts_range : (k n : ℕ) → Counts k (range_with_len k n)
counts_range k zero = tt
counts_range k (suc n) = (refl, counts_range (k + 1) n)

pub counts_on : (k : ℕ) (xs ys : List ℕ) → Counts k (xs ++ ys) → Counts (k + length xs) ys
counts_on k [] ys all = subst (λ n. Counts n ys) (omega arith) all
counts_on k (x ∷ xs) ys all = subst (λ n. Counts n ys) (omega arith) (counts_on (k + 1) xs ys all.1)

pub counts_front : (k : ℕ) (xs ys : List ℕ) → Counts k (xs ++ ys) → Counts k xs
counts_front k [] ys all = tt
counts_front k (x ∷ xs) ys all = (all.0, counts_front (k + 1) xs ys all.1)

-- the number is one of these
abbrev pub Has : List ℕ → ℕ → Type 0
Has [] x = ⊥
Has (y ∷ ys) x = (y ≡ x) ⊎ Has ys x

pub has_left : (xs ys : List ℕ) (x : ℕ) → Has xs x → Has (xs ++ ys) x
has_left [] ys x h = absurd h
has_left (y ∷ xs) ys x (inl e) = inl e
has_left (y ∷ xs) ys x (inr h) = inr (has_left xs ys x h)

pub has_right : (xs ys : List ℕ) (x : ℕ) → Has ys x → Has (xs ++ ys) x
has_right [] ys x h = h
has_right (y ∷ xs) ys x h = inr (has_right xs ys x h)

pub counts_has : (k : ℕ) (xs : List ℕ) (x : ℕ) → Counts k xs → Has xs x → (k ≤ x) × (x < k + length xs)
counts_has k [] x all h = absurd h
counts_has k (y ∷ xs) x all (inl e) = let first = all.0 in (omega arith, omega arith)
counts_has k (y ∷ xs) x all (inr h) = let w = counts_has (k + 1) xs x all.1 h in let low = w.0 in let high = w.1 in (omega arith, omega arith)

-- an element of a list whose elements all have a property
pub all_at : {A : Type 0} (P : A → Type 0) (xs : List A) (i : ℕ) (x : A) → slice_get xs i ≡ Some x → All P xs → P x
all_at P xs i x e all = subst P (get_or_from_slice_get xs i x x e) (all i x (slice_get_within xs i x e))

pub each_get : {A : Type 0} (P : A → Type 0) (xs : List A) (i : ℕ) (x : A) → slice_get xs i ≡ Some x → Each P xs → P x
each_get P [] i x e all = absurd (none-some x e)
each_get P (y ∷ xs) zero x e all = subst P (same_Some y x e) all.0
each_get P (y ∷ xs) (suc i) x e all = each_get P xs i x e all.1

pub all_of : {A : Type 0} (P : A → Type 0) (xs : List A) → Each P xs → All P xs
all_of P [] all = All-nil P
all_of P (x ∷ xs) all = All-cons P x xs all.0 (all_of P xs all.1)
