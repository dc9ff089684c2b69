-- The names of labels, after other labels were given theirs.
use Rattle.std.specs.Prelude.{◌≡◌, ℕ, zero, suc, ◌+◌, ◌-◌, ◌≤◌, ◌<◌, Bool, true, false, List, ◌++◌, length, take, codes, decimal, bytes_eq, MatchBool, if◌then◌else◌}
use Rattle.std.specs.List.{list_any}
use Rattle.chart.specs.declared.name.TheConstants.{MAX_NAME}

-- the name was given to a label
abbrev pub is_given : List (List ℕ) → List ℕ → Bool
is_given names name = list_any (bytes_eq name) names

-- the text of a number after a word
abbrev pub suffix : ℕ → List ℕ
suffix number = codes "_" ++ decimal number

-- the word with the number after it; the word is cut so that the whole fits into a name
unfoldable pub numbered : List ℕ → ℕ → List ℕ
numbered word number = take (MAX_NAME - length (suffix number)) word ++ suffix number

-- the number is the least one from 2 on that makes the word a name which no label has
pub record IsLeastFree (names : List (List ℕ)) (word : List ℕ) (number : ℕ) : Type 0 where
  pub from_two : 2 ≤ number
  pub free : is_given names (numbered word number) ≡ false
  pub least : (k : ℕ) → 2 ≤ k → k < number → is_given names (numbered word k) ≡ true

-- the name is the word with the least number that makes it free
abbrev pub IsFreeNumbered : List (List ℕ) → List ℕ → List ℕ → Type 0
IsFreeNumbered names word name = (number : ℕ) × (name ≡ numbered word number) × IsLeastFree names word number

-- a label with this spelling has this name: the spelling if no label has it, and otherwise the spelling with the least
-- number that makes it free
abbrev pub IsCalled : List (List ℕ) → List ℕ → List ℕ → Type 0
IsCalled names word name = MatchBool (is_given names word) (IsFreeNumbered names word name) (name ≡ word)

-- the first number from this one on that makes the word free; after this many that don't, it is the next one
unfoldable pub free_from : List (List ℕ) → List ℕ → ℕ → ℕ → ℕ
free_from names word zero number = number
free_from names word (suc more) number = if is_given names (numbered word number) then free_from names word more (number + 1) else number

-- the name of a label with this spelling; among more numbers than names, one makes the word free
unfoldable pub called : List (List ℕ) → List ℕ → List ℕ
called names word = if is_given names word then numbered word (free_from names word (length names) 2) else word
