-- Known ids, and new ones.
use Rattle.std.proofs.Common.{◌≡◌, ℕ, true, false, List, [], ◌∷◌, ◌++◌, refl}
use Rattle.log_lines.specs.Names.Ids.{has_id, with_id}

pub id_kept : (ids : List (List ℕ)) (id : List ℕ) → has_id ids id ≡ true → with_id ids id ≡ ids
unfolding with_id
id_kept ids id h = rw h refl

pub id_added : (ids : List (List ℕ)) (id : List ℕ) → has_id ids id ≡ false → with_id ids id ≡ ids ++ id ∷ []
unfolding with_id
id_added ids id h = rw h refl
