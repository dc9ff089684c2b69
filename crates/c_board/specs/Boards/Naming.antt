-- The names of a board's instances, as another language gives them: bytes, and the length of each name (this project's
-- profile).
use Rattle.std.specs.Prelude.{◌≡◌, ℕ, List, [], ◌∷◌, ◌++◌, take, drop, slice_get, Contains, Some, Result, Ok, Err}
use Rattle.chart.specs.Names.{name_of, IsName}
use Rattle.c_board.specs.declared.boards.naming.NamesRefusal.{NamesRefusal}
use Rattle.c_board.specs.declared.boards.naming.NamesRefusal.TheVariants.{Naming, Twice, Memory}
use Rattle.c_board.specs.Refusals.{of_name}

-- the words of these lengths, one after another
abbrev pub words_in : List ℕ → List ℕ → List (List ℕ)
words_in bytes [] = []
words_in bytes (many ∷ more) = take many bytes ∷ words_in (drop many bytes) more

-- The first of these that applies refuses a name beside others (docs/reference/refusals.md): its first fault, F1 to F4;
-- that another instance has it, F22; and memory, F6.
abbrev pub IsFirstOfName : List (List ℕ) → List ℕ → NamesRefusal → Type 0
IsFirstOfName others word (Naming error) = name_of word ≡ Err error
IsFirstOfName others word Twice = IsName word × Contains others word
IsFirstOfName others word Memory = IsName word × (Contains others word → ⊥)

-- a name is added
abbrev pub AddsName : List (List ℕ) → List ℕ → Result (Unit {0}) NamesRefusal → List (List ℕ) → Type 0
AddsName old word (Ok done) new = (new ≡ old ++ word ∷ []) × IsName word
AddsName old word (Err refusal) new = IsFirstOfName old word refusal

-- all of these are names
abbrev pub AreAllNames : List (List ℕ) → Type 0
AreAllNames words = (i : ℕ) (name : List ℕ) → slice_get words i ≡ Some name → IsName name

-- the word is the first refused one: those before it are names
pub record IsFirst (words : List (List ℕ)) (before : List (List ℕ)) (word : List ℕ) : Type 0 where
  pub rest : List (List ℕ)
  pub splits : words ≡ before ++ word ∷ rest
  pub names : AreAllNames before

-- these words are the names, or why they aren't
abbrev pub ReadsNames : List (List ℕ) → Result (List (List ℕ)) NamesRefusal → Type 0
ReadsNames words (Ok names) = (names ≡ words) × AreAllNames words
ReadsNames words (Err refusal) = (before : List (List ℕ)) × (word : List ℕ) × IsFirst words before word
    × IsFirstOfName before word refusal

-- the number of each refusal
abbrev pub of_names : NamesRefusal → ℕ
of_names (Naming error) = of_name error
of_names Twice = 22
of_names Memory = 6
