-- The names of a text's instances, collected before its other lines are read.
use Rattle.std.specs.Prelude.{ℕ, Bool, false, ◌&&◌, ◌==◌, List, [], ◌∷◌, Result, Ok, Err}
use Rattle.texts.specs.Instances.{with_name}
use Rattle.texts.specs.Lines.{lines_of}
use Rattle.texts.specs.declared.fault.Cause.{Cause}
use Rattle.msc_text.specs.Reader.Steps.{Step, step_of}
use Rattle.msc_text.specs.declared.reader.state.State.TheVariants.{Outside}
use Rattle.msc_text.specs.declared.reader.state.Saying.{Saying}
use Rattle.msc_text.specs.declared.reader.state.Saying.TheVariants.{Head}

-- a name that can't be given changes nothing
abbrev pub given_or : List (List ℕ) → Result (List (List ℕ)) Cause → List (List ℕ)
given_or names (Ok more) = more
given_or names (Err cause) = names

-- the names, and the name of an instance that begins
abbrev pub with_begun : List (List ℕ) → Saying → List (List ℕ)
with_begun names (Head own) = given_or names (with_name names own)
with_begun names _ = names

-- the names, and what a line outside of an instance adds to them
abbrev pub with_step : List (List ℕ) → Result Step Cause → List (List ℕ)
with_step names (Ok step) = with_begun names step.0
with_step names (Err cause) = names

-- the names, and the names of the instances that begin in these lines
abbrev pub with_heads : List (List ℕ) → List (List ℕ) → List (List ℕ)
with_heads names [] = names
with_heads names (line ∷ lines) = with_heads (with_step names (step_of Outside line)) lines

-- the names of the instances that begin in the text, whatever else is wrong with it
unfoldable pub names_ahead : List ℕ → List (List ℕ)
names_ahead bytes = with_heads [] (lines_of bytes)

-- the line has the first three bytes of a line that begins an instance
abbrev pub begins : List ℕ → Bool
begins (a ∷ b ∷ c ∷ rest) = a == 105 && b == 110 && c == 115
begins _ = false
