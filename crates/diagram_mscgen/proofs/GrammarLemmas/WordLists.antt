-- Case-insensitive words, and lists of references to them.
use Rattle.std.proofs.Common.{◌≡◌, ℕ, Bool, ◌||◌, List, [], ◌∷◌, map, refl, ap, Bor}
use Rattle.std.specs.List.{list_any}

pub any_listed : (P : List ℕ → Bool) (known : List (Bor (List ℕ))) → list_any (λ k. P k.now) known ≡ list_any P (map (λ k. k.now) known)
any_listed P [] = refl
any_listed P (k ∷ ks) = ap (λ b. P k.now || b) (any_listed P ks)
