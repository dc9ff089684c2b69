-- The numbers from which the search for the least one that makes a word free begins: for the crate's own functions.
use Rattle.std.specs.Prelude.{◌≡◌, ℕ, ◌≤◌, ◌<◌, true, List, Some, bytes_eq}
use Rattle.std.specs.Map.{lookup}
use Rattle.diagram_labels.specs.Giving.{is_given, numbered}

-- no number from 2 on and below this one makes the word free
abbrev pub AreTaken : List (List ℕ) → List ℕ → ℕ → Type 0
AreTaken names word next = (k : ℕ) → 2 ≤ k → k < next → is_given names (numbered word k) ≡ true

-- for each word that has a number here, no number below it makes the word free
abbrev pub AreHints : List (List ℕ) → List (List ℕ × ℕ) → Type 0
AreHints names hints = (word : List ℕ) (next : ℕ) → lookup (bytes_eq word) hints ≡ Some next → (2 ≤ next) × AreTaken names word next
