-- The meaning of words, and their parts (this project's profile).
use Rattle.std.specs.Prelude.{◌≡◌, ◌⊎◌, ℕ, ◌+◌, Bool, ◌==◌, List, [], ◌∷◌, take, drop, position, Option, None, Some, Result, Ok, Err}
use Rattle.cmd_base.specs.declared.error.ProgramError.{ProgramError}
use Rattle.cmd_base.specs.declared.error.ProgramError.TheVariants.{Usage, Memory}

abbrev pub is_equals : ℕ → Bool
is_equals byte = byte == 61

-- the parts of the word before and after the byte at an index
abbrev pub round_at : List ℕ → Option ℕ → Option (List ℕ × List ℕ)
round_at word None = None
round_at word (Some place) = Some (take place word, drop (place + 1) word)

-- the parts of the word before and after the first byte of a kind
abbrev pub round : (ℕ → Bool) → List ℕ → Option (List ℕ × List ℕ)
round is_it word = round_at word (position is_it word)

-- each word has the value with its index, and there are no other values
abbrev pub AreRead : {A B : Type 0} → (A → B → Type 0) → List A → List B → Type 0
AreRead Says [] [] = Unit {0}
AreRead Says (word ∷ words) (value ∷ values) = Says word value × AreRead Says words values
AreRead Says [] (value ∷ values) = ⊥
AreRead Says (word ∷ words) [] = ⊥

-- the words aren't valid (G1): no value is their meaning
abbrev pub SayNothing : {A : Type 0} → (A → Type 0) → ProgramError → Type 0
SayNothing IsRead error = (error ≡ Usage) × ((value : _) → IsRead value → ⊥)

-- the words aren't valid, or memory ran out while they were read (F6)
abbrev pub AreNotRead : {A : Type 0} → (A → Type 0) → ProgramError → Type 0
AreNotRead IsRead error = (error ≡ Memory) ⊎ SayNothing IsRead error

-- the meaning of the words, or the refusal of words that aren't valid
abbrev pub Says : {A : Type 0} → (A → Type 0) → Result A ProgramError → Type 0
Says IsRead (Ok value) = IsRead value
Says IsRead (Err error) = SayNothing IsRead error

-- the same for a value in memory, which `view` shows to contracts
abbrev pub Reads : {A B : Type 0} → Result A ProgramError → (A → B) → (B → Type 0) → Type 0
Reads (Ok read) view IsRead = IsRead (view read)
Reads (Err error) view IsRead = AreNotRead IsRead error
