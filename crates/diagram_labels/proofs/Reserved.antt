-- Reserved words and names.
use Rattle.std.proofs.Common.{◌≡◌, ℕ, ◌≤◌, Bool, true, false, ◌||◌, List, [], ◌∷◌, ◌++◌, length, codes, refl, arith}
use Rattle.std.specs.List.{list_any}
use Rattle.std.proofs.lemmas.Slice.Eq.{bytes_eq-Decides}
use Rattle.chart.specs.Keywords.{spelled, is_keyword, keywords, is_reserved}
use Rattle.chart.specs.declared.keyword.Keyword.{Keyword}
use Rattle.chart.specs.declared.keyword.Keyword.TheVariants.{Msc, EndMsc, Instance, EndInstance, Out, To, In, From, Concurrent, EndConcurrent}

one_of : (word : List ℕ) (k : Keyword) (ks : List Keyword) (b : Bool) → is_keyword k word ≡ b → (b || list_any (λ keyword. is_keyword keyword word) ks) ≡ true
    → (list_any (λ keyword. is_keyword keyword word) ks ≡ true → (keyword : Keyword) × (is_keyword keyword word ≡ true)) → (keyword : Keyword) × (is_keyword keyword word ≡ true)
one_of word k ks true e h more = (k, e)
one_of word k ks false e h more = more h

found : (word : List ℕ) (ks : List Keyword) → list_any (λ keyword. is_keyword keyword word) ks ≡ true → (keyword : Keyword) × (is_keyword keyword word ≡ true)
found word [] h = absurd (grind (arith, h))
found word (k ∷ ks) h = one_of word k ks (is_keyword k word) refl h (found word ks)

-- a reserved word is the spelling of a keyword
pub reserved_is : (word : List ℕ) → is_reserved word ≡ true → (keyword : Keyword) × (word ≡ spelled keyword)
unfolding is_reserved is_keyword
reserved_is word h = let k = found word keywords h in (k.0, (bytes_eq-Decides word (spelled k.0)).0 k.1)

size : (k : Keyword) → length (spelled k) ≤ 13
unfolding spelled
size Msc = omega arith
size EndMsc = omega arith
size Instance = omega arith
size EndInstance = omega arith
size Out = omega arith
size To = omega arith
size In = omega arith
size From = omega arith
size Concurrent = omega arith
size EndConcurrent = omega arith

-- reserved words are short
pub reserved_short : (word : List ℕ) → is_reserved word ≡ true → length word ≤ 13
reserved_short word h = let k = reserved_is word h in rw k.1 (size k.0)

behind : (k : Keyword) → is_reserved (spelled k ++ codes "_") ≡ false
unfolding spelled is_keyword is_reserved
behind Msc = refl
behind EndMsc = refl
behind Instance = refl
behind EndInstance = refl
behind Out = refl
behind To = refl
behind In = refl
behind From = refl
behind Concurrent = refl
behind EndConcurrent = refl

-- a reserved word with a _ after it isn't reserved
pub reserved_behind : (word : List ℕ) → is_reserved word ≡ true → is_reserved (word ++ codes "_") ≡ false
reserved_behind word h = let k = reserved_is word h in rw k.1 (behind k.0)
