-- Loops over lists, one element after the other.
use Rattle.std.proofs.Common.{◌≡◌, ℕ, ◌+◌, ◌-◌, ◌<◌, ◌≤◌, Bool, List, [], ◌∷◌, ◌++◌, length, take, drop, get_or, refl, sym, ap, ◌∙◌, append_assoc}
use Rattle.std.specs.Prelude.{map, fold}
use Rattle.std.specs.List.{flat_map}
use Rattle.std.proofs.lemmas.Grind.{flat_map-append}
use Rattle.std.proofs.lemmas.List.{append-nil, drop_all, map-append, take_more}
use Rattle.std.proofs.lemmas.List.Sums.{fold-append}
use Rattle.diagram_import.proofs.TextLemmas.{from_byte}
use Rattle.diagram_import.specs.Margin.Plain.{plain_step, waits, ended, plain_from}

-- the view of a list with one more element
pub view_more : {A B : Type 0} (v : A → B) (xs : List A) (n : ℕ) (x : A) → n < length xs → x ≡ get_or xs n x
    → map v (take (n + 1) xs) ≡ map v (take n xs) ++ v x ∷ []
view_more v xs n x within is =
    ap (map v) (take_more xs n x within) ∙ map-append v (take n xs) (get_or xs n x ∷ []) ∙ ap (λ y. map v (take n xs) ++ v y ∷ []) (sym is)

-- the same for an element that is read by its number
pub view_at : {A B : Type 0} (v : A → B) (xs : List A) (n : ℕ) (d : A) → n < length xs → map v (take (n + 1) xs) ≡ map v (take n xs) ++ v (get_or xs n d) ∷ []
view_at v xs n d within = ap (map v) (take_more xs n d within) ∙ map-append v (take n xs) (get_or xs n d ∷ [])

-- a list with the results for one more element
pub flat_more : {A B C : Type 0} (f : B → List C) (v : A → B) (done next : List C) (xs : List A) (n : ℕ) (x : A) → map v (take (n + 1) xs) ≡ map v (take n xs) ++ v x ∷ []
    → next ≡ done ++ f (v x) → done ≡ flat_map f (map v (take n xs)) → next ≡ flat_map f (map v (take (n + 1) xs))
flat_more f v done next xs n x one e so_far =
    e ∙ ap (λ l. l ++ f (v x)) so_far
    ∙ sym (ap (flat_map f) one ∙ flat_map-append f (map v (take n xs)) (v x ∷ []) ∙ ap (λ l. flat_map f (map v (take n xs)) ++ l) (append-nil (f (v x))))

-- the same for an element that is read by its number
pub flat_at : {A B C : Type 0} (f : B → List C) (v : A → B) (done next : List C) (xs : List A) (n : ℕ) (d : A) → n < length xs
    → next ≡ done ++ f (v (get_or xs n d)) → done ≡ flat_map f (map v (take n xs)) → next ≡ flat_map f (map v (take (n + 1) xs))
flat_at f v done next xs n d within e so_far = flat_more f v done next xs n (get_or xs n d) (view_at v xs n d within) e so_far

-- a list with one more element
pub map_more : {A B C : Type 0} (g : B → C) (v : A → B) (done next start : List C) (xs : List A) (n : ℕ) (x : A) → map v (take (n + 1) xs) ≡ map v (take n xs) ++ v x ∷ []
    → next ≡ done ++ g (v x) ∷ [] → done ≡ start ++ map g (map v (take n xs)) → next ≡ start ++ map g (map v (take (n + 1) xs))
map_more g v done next start xs n x one e so_far =
    e ∙ ap (λ l. l ++ g (v x) ∷ []) so_far ∙ append_assoc start (map g (map v (take n xs))) (g (v x) ∷ [])
    ∙ sym (ap (λ l. start ++ map g l) one ∙ ap (λ l. start ++ l) (map-append g (map v (take n xs)) (v x ∷ [])))

-- a fold over one more element
pub fold_more : {A B C : Type 0} (f : C → B → C) (v : A → B) (start done next : C) (xs : List A) (n : ℕ) (x : A) → map v (take (n + 1) xs) ≡ map v (take n xs) ++ v x ∷ []
    → next ≡ f done (v x) → done ≡ fold f start (map v (take n xs)) → next ≡ fold f start (map v (take (n + 1) xs))
fold_more f v start done next xs n x one e so_far =
    e ∙ ap (λ d. f d (v x)) so_far
    ∙ sym (ap (fold f start) one ∙ fold-append f start (map v (take n xs)) (v x ∷ []))

-- one more byte of words in one line
pub plain_more : (escaped next : Bool) (n : ℕ) (raw done more : List ℕ) → n < length raw → more ≡ done ++ plain_step escaped (get_or raw n 0) → next ≡ waits escaped (get_or raw n 0)
    → more ++ plain_from next (drop (n + 1) raw) ≡ done ++ plain_from escaped (drop n raw)
plain_more escaped next n raw done more within e f = rw (from_byte raw n within, e, f) (append_assoc done (plain_step escaped (get_or raw n 0)) _)

pub plain_end : (escaped : Bool) (n : ℕ) (raw done : List ℕ) → length raw ≤ n → done ++ plain_from escaped (drop n raw) ≡ done ++ ended escaped
plain_end escaped n raw done past = rw (drop_all n raw past) refl

-- the view of a list with an appended element
pub pushed : {A B : Type 0} (v : A → B) (old new : List A) (x : A) (y : B) → new ≡ old ++ x ∷ [] → v x ≡ y → map v new ≡ map v old ++ y ∷ []
pushed v old new x y e f = ap (map v) e ∙ map-append v old (x ∷ []) ∙ ap (λ z. map v old ++ z ∷ []) f

-- a list with one more element, whose elements have no other view
pub one_more : {A C : Type 0} (g : A → C) (done next start : List C) (xs : List A) (n : ℕ) (x : A) → map g (take (n + 1) xs) ≡ map g (take n xs) ++ g x ∷ []
    → next ≡ done ++ g x ∷ [] → done ≡ start ++ map g (take n xs) → next ≡ start ++ map g (take (n + 1) xs)
one_more g done next start xs n x one e so_far =
    e ∙ ap (λ l. l ++ g x ∷ []) so_far ∙ append_assoc start (map g (take n xs)) (g x ∷ []) ∙ sym (ap (λ l. start ++ l) one)
