-- The first two lines of a schedule's text: the instances' names, and the capacity (this project's profile).
use Rattle.std.specs.Prelude.{ℕ, ◌+◌, ◌-◌, ◌*◌, Bool, false, not, ◌&&◌, ◌||◌, ◌==◌, List, [], ◌∷◌, length, Result, Ok, Err, nat_lt, nat_le, if◌then◌else◌}
use Rattle.std.specs.Char.{is_ascii_digit}
use Rattle.std.specs.List.{list_all}
use Rattle.texts.specs.Instances.{with_name}
use Rattle.texts.specs.Faults.{◌>>=◌}
use Rattle.texts.specs.Lines.{words_of, name_or_cause, is_word}
use Rattle.texts.specs.declared.fault.Cause.{Cause}
use Rattle.texts.specs.declared.fault.Cause.TheVariants.{Instances, Capacity, Syntax}
use Rattle.schedule.specs.Keywords.{is_written}
use Rattle.schedule.specs.declared.keyword.ScheduleWord.TheVariants as keywords
use Rattle.chart.specs.declared.history.TheConstants.{MAX_CAPACITY}

-- there is a word, and each has at least one byte
unfoldable pub are_words : List (List ℕ) → Bool
are_words words = not (length words == 0) && list_all is_word words

-- the names with the word as the name of the next instance
unfoldable pub with_word : List (List ℕ) → List ℕ → Result (List (List ℕ)) Cause
with_word names word = do
  name ← name_or_cause word
  with_name names name

-- the names with each word as the name of the next instance
unfoldable pub with_words : List (List ℕ) → List (List ℕ) → Result (List (List ℕ)) Cause
with_words names [] = Ok names
with_words names (word ∷ words) = do
  more ← with_word names word
  with_words more words

-- at least two names
abbrev pub several : List (List ℕ) → Result (List (List ℕ)) Cause
several names = if nat_lt (length names) 2 then Err Instances else Ok names

-- the instances that the words name
abbrev pub instances_of : List (List ℕ) → Result (List (List ℕ)) Cause
instances_of words = do
  names ← with_words [] words
  several names

-- the names of line 1, by its words
abbrev pub instances_by : List (List ℕ) → Result (List (List ℕ)) Cause
instances_by [] = Err Syntax
instances_by (keyword ∷ words) = if is_written keywords.Instances keyword
    && are_words words then instances_of words else Err Syntax

-- the names of line 1
unfoldable pub names_of : List ℕ → Result (List (List ℕ)) Cause
names_of line = instances_by (words_of line)

-- a decimal number: digits, of which the first is 0 only if it is the only one
unfoldable pub is_number : List ℕ → Bool
is_number [] = false
is_number (b ∷ bs) = is_ascii_digit b && list_all is_ascii_digit bs && (length bs == 0 || not (b == 48))

-- the number n, continued by digits
abbrev pub number_from : ℕ → List ℕ → ℕ
number_from n [] = n
number_from n (b ∷ bs) = number_from (10 * n + (b - 48)) bs

-- n slots, if a lane may have them
abbrev pub slots : ℕ → Result ℕ Cause
slots n = if nat_le 1 n && nat_le n MAX_CAPACITY then Ok n else Err Capacity

-- the slots that the digits name
unfoldable pub slots_of : List ℕ → Result ℕ Cause
slots_of digits = slots (number_from 0 digits)

-- the capacity of line 2, by its words
abbrev pub capacity_by : List (List ℕ) → Result ℕ Cause
capacity_by (keyword ∷ digits ∷ []) = if is_written keywords.Capacity keyword
    && is_number digits then slots_of digits else Err Syntax
capacity_by _ = Err Syntax

-- the capacity of line 2
unfoldable pub capacity_of : List ℕ → Result ℕ Cause
capacity_of line = capacity_by (words_of line)
