-- Words one after another in bytes.
use Rattle.std.proofs.Common.{◌≡◌, ℕ, zero, suc, ◌+◌, ◌≤◌, List, [], ◌∷◌, length, take, drop, min, refl, sym, ap, ◌∙◌, subst, arith, length-drop, ◌-◌}
use Rattle.c_board.proofs.ChairLemmas.{take_all}

take_nil : (n : ℕ) → take {A = ℕ} n [] ≡ []
take_nil zero = refl
take_nil (suc n) = refl

drop_nil : (n : ℕ) → drop {A = ℕ} n [] ≡ []
drop_nil zero = refl
drop_nil (suc n) = refl

take_min : (xs : List ℕ) (n m : ℕ) → m ≡ min n (length xs) → take m xs ≡ take n xs
take_min [] n m e = take_nil m ∙ sym (take_nil n)
take_min (x ∷ xs) zero zero e = refl
take_min (x ∷ xs) zero (suc m) e = absurd (omega (arith, e))
take_min (x ∷ xs) (suc n) zero e = absurd (omega (arith, e))
take_min (x ∷ xs) (suc n) (suc m) e = ap (λ (zs : List ℕ). x ∷ zs) (take_min xs n m (omega (arith, e)))

-- the word of a length at a place
pub word_is_at : (bytes : List ℕ) (start many m : ℕ) → start ≤ length bytes → m ≡ min many (length (take (length bytes - start) (drop start bytes)))
    → take m (take (length bytes - start) (drop start bytes)) ≡ take many (drop start bytes)
word_is_at bytes start many m within e =
    let whole : take (length bytes - start) (drop start bytes) ≡ drop start bytes = take_all (drop start bytes) (length bytes - start) (omega (arith, length-drop start bytes)) in
    ap (λ (xs : List ℕ). take m xs) whole ∙ take_min (drop start bytes) many m (e ∙ ap (λ (xs : List ℕ). min many (length xs)) whole)

short : (xs : List ℕ) (n : ℕ) → length (take n xs) ≤ length xs
short [] zero = omega arith
short [] (suc n) = omega arith
short (x ∷ xs) zero = omega arith
short (x ∷ xs) (suc n) = omega (arith, short xs n)

drop_short : (xs : List ℕ) (n : ℕ) → drop (length (take n xs)) xs ≡ drop n xs
drop_short [] zero = refl
drop_short [] (suc n) = refl
drop_short (x ∷ xs) zero = refl
drop_short (x ∷ xs) (suc n) = drop_short xs n

-- where the next word begins
pub start_more : (bytes : List ℕ) (start many : ℕ) → start ≤ length bytes → start + length (take many (drop start bytes)) ≤ length bytes
start_more bytes zero many less = omega (arith, short bytes many)
start_more [] (suc start) many less = absurd (omega (arith, less))
start_more (b ∷ bytes) (suc start) many less = omega (arith, start_more bytes start many (omega (arith, less)))

pub drop_more : (bytes : List ℕ) (start many : ℕ) → drop (start + length (take many (drop start bytes))) bytes ≡ drop many (drop start bytes)
drop_more bytes zero many = let e : 0 + length (take many bytes) ≡ length (take many bytes) = omega arith in
    subst (λ (m : ℕ). drop m bytes ≡ drop many bytes) (sym e) (drop_short bytes many)
drop_more [] (suc start) many = drop_nil (suc start + length (take many (drop (suc start) []))) ∙ sym (drop_nil many)
drop_more (b ∷ bytes) (suc start) many = let many_more = length (take many (drop start bytes)) in let e : suc start + many_more ≡ suc (start + many_more) = omega arith in
    subst (λ (m : ℕ). drop m (b ∷ bytes) ≡ drop many (drop start bytes)) (sym e) (drop_more bytes start many)
