-- Words with a byte between each two.
use Rattle.std.proofs.Common.{◌≡◌, ℕ, ◌<◌, Bool, true, false, cond, List, [], ◌∷◌, ◌++◌, length, filter, nat_lt, refl, sym, ap, ◌∙◌, arith}
use Rattle.std.specs.List.{join_with_byte}
use Rattle.std.proofs.lemmas.List.{append_assoc, append-nil, length-append}
use Rattle.std.proofs.lemmas.List.Elements.{filter-append}
use Rattle.std.proofs.lemmas.Bool.{lt-ltb}

abbrev pub is_empty : {X : Type 0} → List X → Bool
is_empty [] = true
is_empty (x ∷ xs) = false

-- a word after the others
pub join_push : (c : ℕ) (xs : List (List ℕ)) (w : List ℕ) → join_with_byte c (xs ++ w ∷ []) ≡ cond (is_empty xs) w (join_with_byte c xs ++ c ∷ w)
join_push c [] w = refl
join_push c (x ∷ []) w = refl
join_push c (x ∷ y ∷ xs) w =
    ap (λ l. x ++ c ∷ l) (join_push c (y ∷ xs) w) ∙ sym (append_assoc x (c ∷ join_with_byte c (y ∷ xs)) (c ∷ w))

-- the words that aren't empty
abbrev pub filled : List (List ℕ) → List (List ℕ)
filled parts = filter (λ word. nat_lt 0 (length word)) parts

filled_step : (c : ℕ) (w : List ℕ) (parts : List (List ℕ)) (b : Bool) → nat_lt 0 (length w) ≡ b → (length (join_with_byte c parts) ≡ 0 → is_empty parts ≡ true)
    → length (join_with_byte c (cond b (w ∷ parts) parts)) ≡ 0 → is_empty (cond b (w ∷ parts) parts) ≡ true
filled_step c w parts false e h l = h l
filled_step c w [] true e h l = absurd (grind (arith, e, l))
filled_step c w (x ∷ parts) true e h l = absurd (omega (arith, l, length-append w (c ∷ join_with_byte c (x ∷ parts))))

-- if the joined bytes are empty, there is no word
pub nothing_joined : (c : ℕ) (parts : List (List ℕ)) → length (join_with_byte c (filled parts)) ≡ 0 → is_empty (filled parts) ≡ true
nothing_joined c [] l = refl
nothing_joined c (w ∷ parts) l = filled_step c w (filled parts) (nat_lt 0 (length w)) refl (nothing_joined c parts) l

no_word : {X : Type 0} (xs : List X) → is_empty xs ≡ true → xs ≡ []
no_word [] e = refl
no_word (x ∷ xs) e = absurd (grind (arith, e))

some_word : (c : ℕ) (xs : List (List ℕ)) → 0 < length (join_with_byte c xs) → is_empty xs ≡ false
some_word c [] l = absurd (omega (arith, l))
some_word c (x ∷ xs) l = refl

-- an empty part is ignored
pub join_empty : (c : ℕ) (parts : List (List ℕ)) (w : List ℕ) → length w ≡ 0 → join_with_byte c (filled (parts ++ w ∷ [])) ≡ join_with_byte c (filled parts)
join_empty c parts w e = let n : nat_lt 0 (length w) ≡ false = rw e refl in ap (join_with_byte c) {y = filled parts} (filter-append _ parts (w ∷ []) ∙ rw n (append-nil (filled parts)))

-- the first word
pub join_first : (c : ℕ) (parts : List (List ℕ)) (w : List ℕ) → 0 < length w → length (join_with_byte c (filled parts)) ≡ 0 → join_with_byte c (filled (parts ++ w ∷ [])) ≡ w
join_first c parts w e l =
    let n : nat_lt 0 (length w) ≡ true = lt-ltb _ _ e in
    let none = no_word _ (nothing_joined c parts l) in
    ap (join_with_byte c) {y = w ∷ []} (filter-append _ parts (w ∷ []) ∙ rw (n, none) refl)

-- a later word
pub join_later : (c : ℕ) (parts : List (List ℕ)) (w : List ℕ) → 0 < length w → 0 < length (join_with_byte c (filled parts)) → join_with_byte c (filled (parts ++ w ∷ [])) ≡ join_with_byte c (filled parts) ++ c ∷ w
join_later c parts w e l =
    let n : nat_lt 0 (length w) ≡ true = lt-ltb _ _ e in
    ap (join_with_byte c) {y = filled parts ++ w ∷ []} (filter-append _ parts (w ∷ []) ∙ rw n refl) ∙ join_push c (filled parts) w ∙ rw (some_word c (filled parts) l) refl
