-- Bytes that are compared all at once.
use Rattle.std.proofs.Common.{◌≡◌, ℕ, ◌+◌, ◌*◌, ◌%◌, ◌^◌, ◌-◌, ◌≤◌, not, ◌&&◌, Bool, true, false, cond, List, [], ◌∷◌, length, map, nat_eq, refl, sym, ap, ◌∙◌, arith}
use Rattle.std.proofs.lemmas.Bool.{eqb-true, eq-eqb, false≢true, false_from_ne_true}
use Rattle.std.proofs.lemmas.Simd.{tops_compared, mask_l-mod, length-zip2}
use Rattle.std.specs.Cmp.Lexicographic.{pointwise}
use lib.Lanes.{zip2, mask_l, top}
use mir.Syntax.{w8}

abbrev differs : ℕ → ℕ → Bool
differs a b = not (nat_eq a b)

-- twice a number is 0 exactly if the number is
double : (m : ℕ) (b : Bool) → nat_eq m 0 ≡ b → nat_eq (0 + 2 * m) 0 ≡ b
double m true e = let z = eqb-true m 0 e in eq-eqb (0 + 2 * m) 0 (omega (arith, z))
double m false e = false_from_ne_true (nat_eq (0 + 2 * m) 0) (λ h. let z = eqb-true (0 + 2 * m) 0 h in false≢true (sym e ∙ eq-eqb m 0 (omega (arith, z))))

odd : (m : ℕ) → nat_eq (1 + 2 * m) 0 ≡ false
odd m = false_from_ne_true (nat_eq (1 + 2 * m) 0) (λ h. let z = eqb-true (1 + 2 * m) 0 h in absurd (omega (arith, z)))

at_first : (m : ℕ) (rest b : Bool) → nat_eq m 0 ≡ rest → nat_eq (cond (not b) 1 0 + 2 * m) 0 ≡ b && rest
at_first m rest true e = double m rest e
at_first m rest false e = odd m

-- no bit is set exactly if no bytes differ
none_set : (xs ys : List ℕ) → length xs ≡ length ys → nat_eq (mask_l (zip2 differs xs ys)) 0 ≡ pointwise nat_eq xs ys
none_set [] [] l = refl
none_set [] (y ∷ ys) l = absurd (omega (arith, l))
none_set (x ∷ xs) [] l = absurd (omega (arith, l))
none_set (x ∷ xs) (y ∷ ys) l = at_first (mask_l (zip2 differs xs ys)) (pointwise nat_eq xs ys) (nat_eq x y) (none_set xs ys (omega (arith, l)))

pub same_by_mask : (xs ys : List ℕ) → length xs ≡ 32 → length ys ≡ 32 → nat_eq (mask_l (map (top 7) (zip2 (λ a b. cond (differs a b) (2 ^ 8 - 1) 0) xs ys)) % 2 ^ 64) 0 ≡ pointwise nat_eq xs ys
same_by_mask xs ys m n =
    let long : length xs ≡ length ys = m ∙ sym n in
    ap (λ ms. nat_eq (mask_l ms % 2 ^ 64) 0) (tops_compared w8 differs xs ys) ∙ ap (λ k. nat_eq k 0) (mask_l-mod (zip2 differs xs ys) 64 (omega (arith, m, length-zip2 differs xs ys long))) ∙ none_set xs ys long
