-- What a word of a command's line names.
use Rattle.std.specs.Prelude.{◌≡◌, ℕ, List, Result, Ok, Err}
use Rattle.texts.specs.Instances.{known_of}
use Rattle.texts.specs.Lines.{name_or_cause}
use Rattle.texts.specs.declared.fault.Cause.{Cause}

-- the word is a name, with the result of looking it up; or it is no name
abbrev pub IsNamed : List (List ℕ) → List ℕ → Result (Result ℕ Cause) Cause → Type 0
IsNamed names word (Ok found) = (name : List ℕ) × (name_or_cause word ≡ Ok name) × (known_of names name ≡ found)
IsNamed names word (Err cause) = name_or_cause word ≡ Err cause
