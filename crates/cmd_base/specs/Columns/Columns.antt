-- Which instances have a column, by their names (this project's profile).
use Rattle.std.specs.Prelude.{◌≡◌, ℕ, true, false, List, [], ◌∷◌, ◌++◌, length, map, nat_eq, Option, None, Some, option_map}
use Rattle.std.specs.Borrow.{Bor}
use Rattle.std.specs.List.{list_any, IsDistinct, range_with_len}
use Rattle.texts.specs.Lines.{parts}
use Rattle.cmd_base.specs.declared.error.ProgramError.TheVariants as errors
use Rattle.cmd_base.specs.Named.Asked.{instance_named}
use Rattle.cmd_base.specs.declared.columns.error.ColumnError.{ColumnError}
use Rattle.cmd_base.specs.declared.columns.error.ColumnError.TheVariants.{Program, NoSuchName}

-- the words name these instances, in this order, and none twice
pub record AreNamed (names words : List (List ℕ)) (columns : List ℕ) : Type 0 where
  pub each : map (instance_named names) words ≡ map Some columns
  pub once : IsDistinct nat_eq columns

-- the bytes that name the columns, if they are given
abbrev pub only_of : Option (Bor (List ℕ)) → Option (List ℕ)
only_of only = option_map (λ bytes. bytes.now) only

-- the columns that the bytes name, joined by commas (byte 44); without bytes all instances have a column, by number
abbrev pub AreColumns : List (List ℕ) → Option (List ℕ) → List ℕ → Type 0
AreColumns names None columns = columns ≡ range_with_len 1 (length names)
AreColumns names (Some bytes) columns = AreNamed names (parts 44 bytes) columns

-- the word names an instance that has no column yet, and its column is appended to the others
pub record IsNext (names : List (List ℕ)) (word : List ℕ) (old new : List ℕ) : Type 0 where
  pub instance : ℕ
  pub named_is : instance_named names word ≡ Some instance
  pub once : list_any (nat_eq instance) old ≡ false
  pub is : new ≡ old ++ instance ∷ []

-- the word names no instance, or one that already has a column
abbrev pub IsNone : Option ℕ → List ℕ → Type 0
IsNone None old = Unit {0}
IsNone (Some instance) old = list_any (nat_eq instance) old ≡ true

-- the refusals of the next column
abbrev pub RefusesNext : List (List ℕ) → List ℕ → List ℕ → ColumnError → Type 0
RefusesNext names word old NoSuchName = IsNone (instance_named names word) old
RefusesNext names word old (Program errors.Memory) = Unit {0}
RefusesNext names word old (Program _) = ⊥

-- the refusals of the words: there are no such columns, or memory ran out
abbrev pub RefusesNamed : List (List ℕ) → List (List ℕ) → ColumnError → Type 0
RefusesNamed names words NoSuchName = (columns : List ℕ) → AreNamed names words columns → ⊥
RefusesNamed names words (Program errors.Memory) = Unit {0}
RefusesNamed names words (Program _) = ⊥

-- the refusals of the bytes: there are no such columns, or memory ran out
abbrev pub RefusesColumns : List (List ℕ) → Option (List ℕ) → ColumnError → Type 0
RefusesColumns names only NoSuchName = (columns : List ℕ) → AreColumns names only columns → ⊥
RefusesColumns names only (Program errors.Memory) = Unit {0}
RefusesColumns names only (Program _) = ⊥
