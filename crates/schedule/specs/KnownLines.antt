-- A command line whose names were all found.
use Rattle.std.specs.Prelude.{◌≡◌, ℕ, List, Ok}
use Rattle.texts.specs.Instances.{known_of}
use Rattle.texts.specs.Lines.{name_or_cause}

-- the word is a name, that of the instance with this number
pub record IsInstance (names : List (List ℕ)) (word : List ℕ) (p : ℕ) : Type 0 where
  pub named : name_or_cause word ≡ Ok word
  pub known : known_of names word ≡ Ok p
