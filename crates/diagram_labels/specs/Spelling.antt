-- The spelling of a label of a sequence diagram: the name that is made from it. Names are those of this project's
-- profile of ITU-T Z.120: a letter, then letters, digits and _, at most MAX_NAME bytes, and no reserved word.
use Rattle.std.specs.Prelude.{◌≡◌, ℕ, Bool, true, false, not, List, [], ◌∷◌, ◌++◌, ◌-◌, length, take, drop, filter, codes, nat_lt, if◌then◌else◌}
use Rattle.std.specs.List.{list_all, slice_split, join_with_byte}
use Rattle.chart.specs.Names.{is_letter, is_name_byte}
use Rattle.chart.specs.Keywords.{is_reserved}
use Rattle.chart.specs.declared.name.TheConstants.{MAX_NAME}

-- the label's words: its parts between other characters, except for empty parts
abbrev pub words : List ℕ → List (List ℕ)
words label = filter (λ word. nat_lt 0 (length word)) (slice_split (λ b. not (is_name_byte b)) label)

-- the words with one _ between each two: each run of other characters becomes one _, and the runs at both ends are
-- dropped
unfoldable pub joined : List ℕ → List ℕ
joined label = join_with_byte 95 (words label)

-- the bytes begin with a letter
abbrev pub begins_with_letter : List ℕ → Bool
begins_with_letter [] = false
begins_with_letter (b ∷ bytes) = is_letter b

-- a letter, and then letters, digits and _
abbrev pub IsWord : List ℕ → Type 0
IsWord bytes = (begins_with_letter bytes ≡ true) × (list_all is_name_byte bytes ≡ true)

-- the bytes, with n_ before them unless they begin with a letter
unfoldable pub fronted : List ℕ → List ℕ
fronted bytes = if begins_with_letter bytes then bytes else codes "n_" ++ bytes

-- the bytes, with _ after them if they are a reserved word
unfoldable pub unreserved : List ℕ → List ℕ
unreserved bytes = if is_reserved bytes then bytes ++ codes "_" else bytes

-- the bytes or, if they are too many for a name, their beginning and their end with __ between them
unfoldable pub shortened : List ℕ → List ℕ
shortened bytes = if nat_lt MAX_NAME (length bytes) then take 15 bytes ++ codes "__" ++ drop (length bytes - 15) bytes else bytes

-- the spelling of the label
unfoldable pub spelled : List ℕ → List ℕ
spelled label = shortened (unreserved (fronted (joined label)))
