-- Words at the beginning and the end of bytes. A diagram's blanks are a space, a tab and a carriage return.
use Rattle.std.specs.Prelude.{◌≡◌, ℕ, zero, suc, Bool, true, false, not, ◌&&◌, ◌==◌, nat_le, List, [], ◌∷◌, length, take, drop, position, Option, None, Some, unwrap_or, nat_eq, option_map, if◌then◌else◌}
use Rattle.std.specs.List.{starts_with}
use Rattle.texts.specs.Bytes.Classes.{is_blank}
use Rattle.texts.specs.Bytes.Words.{is_spelled}

-- the result of a search, seen by view
abbrev pub Finds : {X Y : Type 0} → (X → Y) → Option X → Option Y → Type 0
Finds view None found = found ≡ None
Finds view (Some x) found = found ≡ Some (view x)

-- the number of blanks at the beginning of the bytes
unfoldable pub blank_length : List ℕ → ℕ
blank_length bytes = unwrap_or (position (λ b. not (is_blank b)) bytes) (length bytes)

unfoldable pub behind_blanks : List ℕ → List ℕ
behind_blanks bytes = drop (blank_length bytes) bytes

-- the number of bytes that are kept with one more at the front: a blank is kept if any byte after it is
abbrev pub kept_by : Bool → ℕ → ℕ
kept_by true zero = 0
kept_by true (suc k) = suc (suc k)
kept_by false k = suc k

-- the number of bytes up to the last one that isn't a blank
abbrev pub kept : List ℕ → ℕ
kept [] = 0
kept (b ∷ bs) = kept_by (is_blank b) (kept bs)

-- the bytes without the blanks at their end
unfoldable pub end_stripped : List ℕ → List ℕ
end_stripped bytes = take (kept bytes) bytes

-- the bytes without the blanks at both ends
unfoldable pub stripped : List ℕ → List ℕ
stripped bytes = end_stripped (behind_blanks bytes)

abbrev pub is_comma : ℕ → Bool
is_comma b = b == 44

-- the bytes begin with this word; ASCII case is ignored
unfoldable pub begins : List ℕ → List ℕ → Bool
begins known bytes = nat_le (length known) (length bytes) && is_spelled known (take (length known) bytes)

-- the bytes after this word, if they begin with it; ASCII case is ignored
unfoldable pub behind_word : List ℕ → List ℕ → Option (List ℕ)
behind_word known bytes =
    if begins known bytes then Some (drop (length known) bytes) else None

-- the bytes are empty or begin with a blank
abbrev pub ends_word : List ℕ → Bool
ends_word [] = true
ends_word (b ∷ bs) = is_blank b

-- the bytes begin with a blank
abbrev pub begins_blank : List ℕ → Bool
begins_blank [] = false
begins_blank (b ∷ bs) = is_blank b

-- the bytes after this word, if nothing or a blank follows it
unfoldable pub behind_keyword : List ℕ → List ℕ → Option (List ℕ)
behind_keyword known bytes = whole (behind_word known bytes)
  where
    whole : Option (List ℕ) → Option (List ℕ)
    whole None = None
    whole (Some rest) = if ends_word rest then Some rest else None

-- the first of two results that exists
abbrev pub or_else : {X : Type 0} → Option X → Option X → Option X
or_else None later = later
or_else (Some x) later = Some x

-- the bytes after the first of these words that nothing or a blank follows
abbrev pub behind_keyword_of : List (List ℕ) → List ℕ → Option (List ℕ)
behind_keyword_of [] bytes = None
behind_keyword_of (known ∷ others) bytes = or_else (behind_keyword known bytes) (behind_keyword_of others bytes)

-- the bytes after this word, if they begin with it, or else all bytes; ASCII case is ignored
unfoldable pub skip_word : List ℕ → List ℕ → List ℕ
skip_word known bytes = unwrap_or (behind_word known bytes) bytes

-- the place of the first occurrence of this byte
abbrev pub first_place : ℕ → List ℕ → Option ℕ
first_place byte bytes = position (λ b. b == byte) bytes

-- the place of the first occurrence of the known bytes
unfoldable pub place_of : List ℕ → List ℕ → Option ℕ
place_of known [] = None
place_of known (b ∷ bs) = if starts_with nat_eq (b ∷ bs) known then Some 0 else option_map suc (place_of known bs)
