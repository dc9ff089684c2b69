-- The lengths of words, comments and texts in quotation marks, in bytes.
use Rattle.std.specs.Prelude.{ℕ, suc, Bool, not, ◌&&◌, ◌==◌, List, [], ◌∷◌, codes, length, position, Option, None, Some, option_map, unwrap_or, nat_eq, if◌then◌else◌}
use Rattle.std.specs.List.{starts_with}
use Rattle.texts.specs.Bytes.Classes.{is_word_byte}

-- the length of the word at the beginning of the bytes
unfoldable pub word_length : List ℕ → ℕ
word_length bytes = unwrap_or (position (λ b. not (is_word_byte b)) bytes) (length bytes)

-- the length of a comment after its `/*`: up to the first `*/`, or the text's end
unfoldable pub comment_length : List ℕ → ℕ
comment_length [] = 0
comment_length (b ∷ bs) = if starts_with nat_eq (b ∷ bs) (codes "*/") then 2 else suc (comment_length bs)

-- the byte ends a text in quotation marks: it is a quotation mark without a backslash before it
abbrev pub is_closing : ℕ → ℕ → Bool
is_closing before b = b == 34 && not (before == 92)

-- the number of bytes before the quotation mark that ends a text
unfoldable pub closing : ℕ → List ℕ → Option ℕ
closing before [] = None
closing before (b ∷ bs) = if is_closing before b then Some 0 else option_map suc (closing b bs)
