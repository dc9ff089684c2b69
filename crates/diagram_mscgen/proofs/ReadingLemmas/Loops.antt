-- Loops over bytes, entities and arcs: the rest of a list.
use Rattle.std.proofs.Common.{◌≡◌, ℕ, suc, Bool, not, cond, ◌+◌, ◌<◌, ◌≤◌, List, [], ◌∷◌, ◌++◌, length, map, drop, get_or, refl, sym, ap, ◌∙◌, drop-cons, add-one, append_assoc}
use Rattle.std.proofs.lemmas.List.{drop_all, length-map}
use Rattle.std.specs.List.{prefix_len, position}
use Rattle.diagram_mscgen.specs.Reading.Texts.{step, ended, text_from}
use Rattle.diagram_mscgen.specs.declared.reading.quoted.Mode.{Mode}

-- the rest of a list from an element on
pub from_here : {A : Type 0} (xs : List A) (n : ℕ) (x : A) → n < length xs → x ≡ get_or xs n x → drop n xs ≡ x ∷ drop (n + 1) xs
from_here xs n x within is = rw add-one (drop-cons xs n x within ∙ ap (λ y. y ∷ drop (suc n) xs) (sym is))

-- one more byte of a text
pub byte_more : (raw : List ℕ) (i b : ℕ) (mode next : Mode) (read more : List ℕ) → i < length raw → b ≡ get_or raw i b → next ≡ (step mode b).1 → more ≡ read ++ (step mode b).0
    → more ++ text_from next (drop (i + 1) raw) ≡ read ++ text_from mode (drop i raw)
byte_more raw i b mode next read more within is next_is more_is =
    rw (from_here raw i b within is, next_is, more_is) (append_assoc read (step mode b).0 (text_from (step mode b).1 (drop (i + 1) raw)))

-- all bytes
pub bytes_end : (raw : List ℕ) (i : ℕ) (mode : Mode) (read : List ℕ) → length raw ≤ i → read ++ text_from mode (drop i raw) ≡ read ++ ended mode
bytes_end raw i mode read past = rw (drop_all i raw past) refl

-- the number of elements, seen through f, that pass a test before one that doesn't
prefix_len-map : {A B : Type 0} (f : A → B) (p : B → Bool) (xs : List A) → prefix_len p (map f xs) ≡ prefix_len (λ x. p (f x)) xs
prefix_len-map f p [] = refl
prefix_len-map f p (x ∷ xs) = ap (λ n. cond (p (f x)) (1 + n) 0) (prefix_len-map f p xs)

-- the place of the first element that passes
pub position_map : {A B : Type 0} (f : A → B) (p : B → Bool) (xs : List A) → position p (map f xs) ≡ position (λ x. p (f x)) xs
position_map f p xs = rw (prefix_len-map f (λ y. not (p y)) xs, length-map xs f) refl
