-- Words in one line. A line's end is a blank, also one that is written as \n, and a quotation mark may have a backslash
-- before it (mscgen 0.20, PlantUML, Mermaid).
use Rattle.std.specs.Prelude.{ℕ, Bool, false, not, ◌==◌, ◌&&◌, ◌||◌, List, [], ◌∷◌, ◌++◌, if◌then◌else◌}

-- a blank for a tab or a byte that ends a line, and otherwise the byte
abbrev pub plain_byte : ℕ → ℕ
plain_byte b = if b == 10 || (b == 13 || b == 9) then 32 else b

-- a backslash waits for the byte after it, unless it is itself after one that waits
abbrev pub waits : Bool → ℕ → Bool
waits escaped b = not escaped && b == 92

-- the text of a byte, after a backslash or not
abbrev pub plain_step : Bool → ℕ → List ℕ
plain_step escaped b =
    if waits escaped b then [] else
    (if escaped && b == 110 then 32 ∷ [] else
    (if escaped && not (b == 34) then 92 ∷ plain_byte b ∷ [] else plain_byte b ∷ []))

-- the text at the end
abbrev pub ended : Bool → List ℕ
ended escaped = if escaped then 92 ∷ [] else []

abbrev pub plain_from : Bool → List ℕ → List ℕ
plain_from escaped [] = ended escaped
plain_from escaped (b ∷ bs) = plain_step escaped b ++ plain_from (waits escaped b) bs

-- the text of these bytes in one line
unfoldable pub plain_text : List ℕ → List ℕ
plain_text raw = plain_from false raw
