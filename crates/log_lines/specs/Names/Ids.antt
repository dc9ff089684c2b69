-- Numbers for the ids of messages.
use Rattle.std.specs.Prelude.{ℕ, Bool, List, [], ◌∷◌, ◌++◌, bytes_eq, if◌then◌else◌}
use Rattle.std.specs.List.{list_any}

-- the id is known
abbrev pub has_id : List (List ℕ) → List ℕ → Bool
has_id ids id = list_any (bytes_eq id) ids

-- the ids with this one added, if it isn't known
unfoldable pub with_id : List (List ℕ) → List ℕ → List (List ℕ)
with_id ids id = if has_id ids id then ids else ids ++ id ∷ []
