-- The lines of a text, and the words of a line.
use Rattle.std.specs.Prelude.{◌≡◌, ℕ, Bool, false, not, ◌==◌, List, [], ◌∷◌, ◌++◌, length, Result, Ok, Err}
use Rattle.std.specs.List.{slice_split, AllByRecursion}
use Rattle.chart.specs.Words.{Name, Text}
use Rattle.chart.specs.Names.{name_of}
use Rattle.chart.specs.declared.name.NameError.{NameError}
use Rattle.texts.specs.declared.fault.Cause.{Cause}
use Rattle.texts.specs.declared.fault.Cause.TheVariants as causes

-- the parts between the occurrences of a byte
abbrev pub parts : ℕ → Text → List Text
parts byte bytes = slice_split (λ b. b == byte) bytes

-- all but the last
abbrev pub all_but_last : {X : Type 0} → List X → List X
all_but_last [] = []
all_but_last (x ∷ []) = []
all_but_last (x ∷ y ∷ ys) = x ∷ all_but_last (y ∷ ys)

-- the last, or nothing
abbrev pub last_of : List Text → Text
last_of [] = []
last_of (x ∷ []) = x
last_of (x ∷ y ∷ ys) = last_of (y ∷ ys)

-- the whole lines of a text: those that a line feed ends
unfoldable pub lines_of : Text → List Text
lines_of bytes = all_but_last (parts 10 bytes)

-- the bytes after the last line feed
unfoldable pub end_of : Text → Text
end_of bytes = last_of (parts 10 bytes)

-- the words of a line: the parts between its spaces
unfoldable pub words_of : Text → List Text
words_of line = parts 32 line

-- a word has at least one byte
abbrev pub is_word : List ℕ → Bool
is_word word = not (length word == 0)

-- the bytes don't have this byte
abbrev pub Lacks : ℕ → Text → Type 0
Lacks byte bytes = AllByRecursion (λ b. (b == byte) ≡ false) bytes

-- five words or more
pub record FiveOrMore (words : List Text) : Type 0 where
  pub first : Text
  pub second : Text
  pub third : Text
  pub fourth : Text
  pub fifth : Text
  pub others : List Text
  pub are : words ≡ first ∷ second ∷ third ∷ fourth ∷ fifth ∷ others

-- the result of reading a name, with its fault as the line's
abbrev pub named : Result Name NameError → Result Name Cause
named (Ok name) = Ok name
named (Err fault) = Err (causes.Name fault)

-- the word as a name, or what is wrong with it
abbrev pub name_or_cause : Text → Result Name Cause
name_or_cause word = named (name_of word)

-- a line with its line feed
abbrev pub ended : Text → Text
ended line = line ++ 10 ∷ []
