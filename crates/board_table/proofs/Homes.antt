-- Slots that go out with a seat and come home.
use Rattle.std.proofs.Common.{◌≡◌, ◌≢◌, ℕ, List, [], ◌∷◌, ◌++◌, length, set, refl, ap, ◌∙◌, length-set}
use mathlib.Core.Option.{none, some}
use mathlib.Core.Option as maybe
use lib.ListN.{get_elem?}
use Rattle.atomic_table.specs.Table.{Act, keeps, takes, gives, chain, carried_after, homes_after, Valid}
use Rattle.atomic_table.proofs.Lists.{set_else}

module _ {S : Type 0} where
  -- the act that takes these slots, the first one last
  abbrev pub takes_all : List (ℕ × S) → Act S
  takes_all [] = keeps
  takes_all (x ∷ xs) = chain (takes_all xs) (takes x.0 x.1)

  -- the act that gives all of them back
  abbrev pub gives_all : List (ℕ × S) → Act S
  gives_all [] = keeps
  gives_all (x ∷ xs) = chain gives (gives_all xs)

  abbrev pub taken_out : List (maybe.Option S) → List (ℕ × S) → List (maybe.Option S)
  taken_out homes [] = homes
  taken_out homes (x ∷ xs) = set (taken_out homes xs) x.0 none

  abbrev pub put_in : List (maybe.Option S) → List (ℕ × S) → List (maybe.Option S)
  put_in homes [] = homes
  put_in homes (x ∷ xs) = put_in (set homes x.0 (some x.1)) xs

  -- none of these slots is j
  abbrev pub Apart : ℕ → List (ℕ × S) → Type 0
  Apart j [] = Unit {0}
  Apart j (x ∷ xs) = (j ≢ x.0) × Apart j xs

  pub Apart-append : (j : ℕ) (xs ys : List (ℕ × S)) → Apart j xs → Apart j ys → Apart j (xs ++ ys)
  Apart-append j [] ys away these = these
  Apart-append j (x ∷ xs) ys away these = (away.0, Apart-append j xs ys away.1 these)

  pub takes_all-carried : (xs : List (ℕ × S)) → carried_after [] (takes_all xs) ≡ xs
  takes_all-carried [] = refl
  takes_all-carried (x ∷ xs) = ap (λ ys. x ∷ ys) (takes_all-carried xs)

  pub takes_all-homes : (homes : List (maybe.Option S)) (c : List (ℕ × S)) (xs : List (ℕ × S)) → homes_after homes c (takes_all xs) ≡ taken_out homes xs
  takes_all-homes homes c [] = refl
  takes_all-homes homes c (x ∷ xs) = ap (λ hs. set hs x.0 none) (takes_all-homes homes c xs)

  pub gives_all-carried : (xs : List (ℕ × S)) → carried_after xs (gives_all xs) ≡ []
  gives_all-carried [] = refl
  gives_all-carried (x ∷ xs) = gives_all-carried xs

  pub gives_all-homes : (homes : List (maybe.Option S)) (xs : List (ℕ × S)) → homes_after homes xs (gives_all xs) ≡ put_in homes xs
  gives_all-homes homes [] = refl
  gives_all-homes homes (x ∷ xs) = gives_all-homes (set homes x.0 (some x.1)) xs

  pub gives_all-valid : (homes : List (maybe.Option S)) (xs : List (ℕ × S)) → Valid homes xs (gives_all xs)
  gives_all-valid homes [] = tt
  gives_all-valid homes (x ∷ xs) = (tt, gives_all-valid (set homes x.0 (some x.1)) xs)

  pub taken_out-else : (homes : List (maybe.Option S)) (xs : List (ℕ × S)) (j : ℕ) → Apart j xs → get_elem? (taken_out homes xs) j ≡ get_elem? homes j
  taken_out-else homes [] j away = refl
  taken_out-else homes (x ∷ xs) j away = set_else (taken_out homes xs) x.0 j none away.0 ∙ taken_out-else homes xs j away.1

  pub put_in-else : (homes : List (maybe.Option S)) (xs : List (ℕ × S)) (j : ℕ) → Apart j xs → get_elem? (put_in homes xs) j ≡ get_elem? homes j
  put_in-else homes [] j away = refl
  put_in-else homes (x ∷ xs) j away = put_in-else (set homes x.0 (some x.1)) xs j away.1 ∙ set_else homes x.0 j (some x.1) away.0

  pub taken_out-length : (homes : List (maybe.Option S)) (xs : List (ℕ × S)) → length (taken_out homes xs) ≡ length homes
  taken_out-length homes [] = refl
  taken_out-length homes (x ∷ xs) = length-set (taken_out homes xs) x.0 none ∙ taken_out-length homes xs

  pub put_in-length : (homes : List (maybe.Option S)) (xs : List (ℕ × S)) → length (put_in homes xs) ≡ length homes
  put_in-length homes [] = refl
  put_in-length homes (x ∷ xs) = put_in-length (set homes x.0 (some x.1)) xs ∙ length-set homes x.0 (some x.1)

  pub put_in-append : (homes : List (maybe.Option S)) (xs ys : List (ℕ × S)) → put_in homes (xs ++ ys) ≡ put_in (put_in homes xs) ys
  put_in-append homes [] ys = refl
  put_in-append homes (x ∷ xs) ys = put_in-append (set homes x.0 (some x.1)) xs ys
