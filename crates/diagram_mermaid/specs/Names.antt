-- The words for participants (Mermaid's documentation of sequence diagrams). A word has blanks and dashes between its
-- other characters, but no dash at its end.
use Rattle.std.specs.Prelude.{ℕ, Bool, not, ◌&&◌, ◌||◌, ◌==◌, List, [], ◌∷◌, if◌then◌else◌}
use Rattle.std.specs.List.{list_all}

-- no word may have this byte
abbrev pub is_barred : ℕ → Bool
is_barred b = b == 60 || b == 62 || b == 61 || b == 58 || b == 59

-- a word may end after this byte: it has at least one byte, and its last one is no dash
abbrev pub ends_name : ℕ → Bool
ends_name before = not (before == 44) && not (before == 45)

-- a byte of words with commas between them may come after another one: no word begins with a dash
abbrev pub fits_behind : ℕ → ℕ → Bool
fits_behind before b =
    if b == 44 then ends_name before else (not (is_barred b) && not (before == 44 && b == 45))

-- the bytes continue words with commas between them
abbrev pub are_listed_behind : ℕ → List ℕ → Bool
are_listed_behind before [] = ends_name before
are_listed_behind before (b ∷ bs) = fits_behind before b && are_listed_behind b bs

-- the bytes are words with commas between them
abbrev pub are_listed : List ℕ → Bool
are_listed bytes = are_listed_behind 44 bytes

-- the bytes are a word
unfoldable pub is_listed : List ℕ → Bool
is_listed bytes = are_listed bytes && list_all (λ b. not (b == 44)) bytes

-- the bytes are a word for a participant of an arrow; there a plus begins an activation
unfoldable pub is_word : List ℕ → Bool
is_word bytes = is_listed bytes && list_all (λ b. not (b == 43)) bytes
