-- Lists in two tables that get a number or lose their first one.
use Rattle.std.proofs.Common.{◌≡◌, ◌≢◌, ℕ, ◌<◌, ◌==◌, Bool, true, false, cond, List, [], ◌∷◌, Option, None, Some, length, set, get_or, refl, sym, subst, arith, eqb-true}
use Rattle.std.proofs.lemmas.Bool.{eqb-false}
use Rattle.std.proofs.lemmas.List.{length-set, get_or-set_same, get_or-set_other}
use Rattle.log_chart.specs.Chains.{IsBelow, IsChain, AreChains, with_first}

-- a chain of numbers above a number that changes
chain_set : (next : List (Option ℕ)) (n : ℕ) (y k : Option ℕ) (xs : List ℕ) → IsBelow n xs → IsChain next k xs → IsChain (set next n y) k xs
chain_set next n y None [] below chain = tt
chain_set next n y None (x ∷ xs) below chain = absurd chain
chain_set next n y (Some k) [] below chain = absurd chain
chain_set next n y (Some k) (x ∷ xs) below chain =
    let apart : x ≢ n = λ e. absurd (omega (arith, below.0)) in
    (chain.0, omega (arith, chain.1, length-set next n y), subst (λ m. IsChain (set next n y) m xs) (sym (get_or-set_other next n x y None apart)) (chain_set next n y (get_or next x None) xs below.1 chain.2))

-- the same lists
pub chains_same : (first next : List (Option ℕ)) (f g : ℕ → List ℕ) → ((c : ℕ) → f c ≡ g c) → AreChains first next f → AreChains first next g
chains_same first next f g same are = λ c within. subst (IsChain next (get_or first c None)) (same c) (are c within)

-- a number is put before the numbers of a list
pub put_chains : (first next : List (Option ℕ)) (lists : ℕ → List ℕ) (c n : ℕ) → c < length first → n < length next → AreChains first next lists
    → ((d : ℕ) → IsBelow n (lists d)) → AreChains (set first c (Some n)) (set next n (get_or first c None)) (with_first lists c n)
put_chains first next lists c n within fits are below d d_within = go (c == d) refl
  where
    inside : d < length first
    inside = omega (arith, d_within, length-set first c (Some n))

    next' : List (Option ℕ)
    next' = set next n (get_or first c None)

    old : IsChain next' (get_or first d None) (lists d)
    old = chain_set next n (get_or first c None) (get_or first d None) (lists d) (below d) (are d inside)

    go : (its : Bool) → (c == d) ≡ its → IsChain (set next n (get_or first c None)) (get_or (set first c (Some n)) d None) (cond its (n ∷ lists d) (lists d))
    go true same =
        let e : c ≡ d = eqb-true c d same in
        subst (λ x. IsChain (set next n (get_or first c None)) (get_or (set first c (Some n)) x None) (n ∷ lists d)) e
        (subst (λ k. IsChain (set next n (get_or first c None)) k (n ∷ lists d)) (sym (get_or-set_same first c (Some n) None within)) (
          refl,
          omega (arith, fits, length-set next n (get_or first c None)),
          subst (λ k. IsChain (set next n (get_or first c None)) k (lists d)) (sym (get_or-set_same next n (get_or first c None) None fits))
              (subst (λ x. IsChain (set next n (get_or first c None)) (get_or first x None) (lists d)) (sym e) old),
        ))
    go false other =
        let apart : d ≢ c = λ e. absurd (eqb-false c d other (sym e)) in
        subst (λ k. IsChain (set next n (get_or first c None)) k (lists d)) (sym (get_or-set_other first c d (Some n) None apart)) old
