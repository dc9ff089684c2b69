-- A list from one of its elements on.
use Rattle.std.proofs.Common.{◌≡◌, ℕ, suc, ◌+◌, ◌<◌, List, ◌∷◌, length, drop, get_or, sym, ap, ◌∙◌, drop-cons, add-one}

-- the rest of a list from an element on
pub from_here : {A : Type 0} (xs : List A) (n : ℕ) (x : A) → n < length xs → x ≡ get_or xs n x → drop n xs ≡ x ∷ drop (n + 1) xs
from_here xs n x within is = rw add-one (drop-cons xs n x within ∙ ap (λ y. y ∷ drop (suc n) xs) (sym is))
