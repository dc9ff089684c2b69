-- Runs of bytes of one kind.
use Rattle.std.specs.Prelude.{ℕ, Bool, not, ◌&&◌, ◌||◌, ◌==◌, nat_le, List, [], ◌∷◌, length, take, drop, position, Option, None, Some, unwrap_or, if◌then◌else◌}
use Rattle.texts.specs.Bytes.Classes.{is_blank, is_word_byte}
use Rattle.std.specs.Char.{is_ascii_digit}
use Rattle.diagram_plantuml_arrows.specs.declared.runs.Class.{Class}
use Rattle.diagram_plantuml_arrows.specs.declared.runs.Class.TheVariants as classes

-- the byte is of this kind
abbrev pub is_in : Class → ℕ → Bool
is_in classes.Name b = is_word_byte b || b == 46 || b == 64 || nat_le 128 b
is_in classes.Word b = is_word_byte b
is_in classes.Style b = is_word_byte b || b == 46
is_in classes.Digit b = is_ascii_digit b
is_in classes.Dash b = b == 45
is_in classes.Sign b = b == 43 || b == 42 || b == 33 || b == 45
is_in classes.Solid b = not (is_blank b)
is_in classes.Colour b = not (is_blank b) && not (b == 58)
is_in classes.Quoted b = not (b == 34)
is_in classes.Bracketed b = not (b == 93)

-- the number of bytes of this kind at the beginning
unfoldable pub run_length : Class → List ℕ → ℕ
run_length class bytes = unwrap_or (position (λ b. not (is_in class b)) bytes) (length bytes)

-- the bytes of this kind at the beginning, and the text after them: there is at least one
unfoldable pub run_at : Class → List ℕ → Option (List ℕ × List ℕ)
run_at class bytes =
    if run_length class bytes == 0 then None
    else Some (take (run_length class bytes) bytes, drop (run_length class bytes) bytes)

-- the text after the bytes of this kind at the beginning
unfoldable pub behind_run : Class → List ℕ → List ℕ
behind_run class bytes = drop (run_length class bytes) bytes

-- the text after this byte
abbrev pub behind_byte : ℕ → List ℕ → Option (List ℕ)
behind_byte known [] = None
behind_byte known (b ∷ bs) = if b == known then Some bs else None
