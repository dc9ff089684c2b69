-- Texts between quotation marks, as mscgen 0.20 draws them (its documentation on labels, and trials with it).
use Rattle.std.specs.Prelude.{ℕ, ◌==◌, ◌||◌, List, [], ◌∷◌, ◌++◌, if◌then◌else◌}
use Rattle.texts.specs.Bytes.Classes.{is_white_space}
use Rattle.diagram_mscgen.specs.declared.reading.quoted.Mode.{Mode}
use Rattle.diagram_mscgen.specs.declared.reading.quoted.Mode.TheVariants.{Plain, Escaped, LineEnd}

-- the text of a byte, and what comes before the next byte
abbrev pub Step : Type 0
Step = List ℕ × Mode

-- a line's end is a space, and the blanks after it are dropped; a backslash waits for the byte after it
abbrev pub plain_step : ℕ → Step
plain_step b =
    if b == 92 then ([], Escaped) else (
    if b == 10 || b == 13 then (32 ∷ [], LineEnd) else (b ∷ [], Plain))

-- after a backslash an `n` begins a new line, and a quotation mark is itself; before any other byte the backslash stays
abbrev pub escaped_step : ℕ → Step
escaped_step b =
    if b == 110 then (10 ∷ [], Plain) else (
    if b == 34 then (34 ∷ [], Plain) else (92 ∷ (plain_step b).0, (plain_step b).1))

abbrev pub step : Mode → ℕ → Step
step Plain b = plain_step b
step Escaped b = escaped_step b
step LineEnd b = if is_white_space b then ([], LineEnd) else plain_step b

-- the text at the end
abbrev pub ended : Mode → List ℕ
ended Plain = []
ended Escaped = 92 ∷ []
ended LineEnd = []

abbrev pub text_from : Mode → List ℕ → List ℕ
text_from mode [] = ended mode
text_from mode (b ∷ bs) = (step mode b).0 ++ text_from (step mode b).1 bs

-- the text of these bytes between quotation marks
unfoldable pub text_of : List ℕ → List ℕ
text_of raw = text_from Plain raw
