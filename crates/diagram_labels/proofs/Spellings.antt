-- The spelling of a label is a name, and a name is its own spelling.
use Rattle.std.proofs.Common.{◌≡◌, ℕ, zero, suc, ◌-◌, ◌≤◌, ◌<◌, Bool, true, false, not, ◌==◌, ne_eqb, cond, List, [], ◌∷◌, ◌++◌, None, Result, Ok, Err, length, take, drop, codes, nat_lt, ltb-true, refl, sym, ap, ◌∙◌, arith}
use Rattle.std.specs.List.{list_all, slice_split, prefix_len}
use Rattle.std.proofs.lemmas.List.{length-take, length-drop, length-append}
use Rattle.std.proofs.lemmas.Bool.Decides.{nat_tests}
use Rattle.std.proofs.lemmas.List.Folds.{list_all-append}
use Rattle.chart.specs.Names.{is_name_byte, bad_place, name_of, IsName}
use Rattle.chart.specs.Keywords.{is_reserved}
use Rattle.chart.specs.declared.name.NameError.{NameError}
use Rattle.chart.specs.declared.name.NameError.TheVariants.{Empty, TooLong, BadByte, Reserved}
use Rattle.chart.specs.declared.name.TheConstants.{MAX_NAME}
use Rattle.diagram_labels.specs.Spelling.{words, joined, begins_with_letter, IsWord, fronted, unreserved, shortened, spelled}
use Rattle.diagram_labels.proofs.Bytes.{both, parts_are_names, all_filtered, joined_names}
use Rattle.diagram_labels.proofs.Reserved.{reserved_short, reserved_behind}

none_bad : (bytes : List ℕ) → list_all is_name_byte bytes ≡ true → prefix_len (λ x. not (not (is_name_byte x))) bytes ≡ length bytes
none_bad [] h = refl
none_bad (b ∷ bytes) h = let e = both (is_name_byte b) (list_all is_name_byte bytes) h in rw (e.0, none_bad bytes e.1) (omega arith)

-- a word has only allowed bytes
pub word_is_sound : (word : List ℕ) → IsWord word → bad_place word ≡ None
word_is_sound [] h = absurd (grind (arith, h.0))
word_is_sound (b ∷ word) h =
    let e = both (is_name_byte b) (list_all is_name_byte word) h.1 in
    let within : nat_lt (length word) (length word) ≡ false = grind (arith, nat_tests) in
    rw (h.0, none_bad word e.1, within) refl

-- the result for a word
pub word_error : (word : List ℕ) → IsWord word → name_of word ≡ cond (nat_lt MAX_NAME (length word)) (Err TooLong) (cond (is_reserved word) (Err Reserved) (Ok word))
unfolding name_of
word_error [] h = absurd (grind (arith, h.0))
word_error (b ∷ word) h = let some : (length (b ∷ word) == 0) ≡ false = ne_eqb _ 0 (λ e. absurd (omega (arith, e))) in rw (word_is_sound (b ∷ word) h, some) refl

-- the refusal of a reserved word
abbrev pub is_reserved_error : Result (List ℕ) NameError → Bool
is_reserved_error (Ok word) = false
is_reserved_error (Err Empty) = false
is_reserved_error (Err TooLong) = false
is_reserved_error (Err (BadByte place)) = false
is_reserved_error (Err Reserved) = true

error_by : (word : List ℕ) (long reserved : Bool) → (long ≡ true → reserved ≡ false) → is_reserved_error (cond long (Err TooLong) (cond reserved (Err Reserved) (Ok word))) ≡ reserved
error_by word true reserved h = sym (h refl)
error_by word false true h = refl
error_by word false false h = refl

no_long : (word : List ℕ) (b : Bool) → is_reserved word ≡ b → nat_lt MAX_NAME (length word) ≡ true → b ≡ false
no_long word true e l = absurd (grind (arith, reserved_short word e, ltb-true _ _ l))
no_long word false e l = refl

-- a word's refusal shows whether the word is reserved
pub reserved_error : (word : List ℕ) → IsWord word → is_reserved_error (name_of word) ≡ is_reserved word
reserved_error word h =
    ap is_reserved_error (word_error word h) ∙ error_by word (nat_lt MAX_NAME (length word)) (is_reserved word) (no_long word (is_reserved word) refl)

-- a word that isn't too long, and isn't reserved, is a name
pub word_is_name : (word : List ℕ) → IsWord word → length word ≤ MAX_NAME → is_reserved word ≡ false → IsName word
word_is_name word h l e =
    let short : nat_lt MAX_NAME (length word) ≡ false = grind (arith, nat_tests) in
    word_error word h ∙ rw (short, e) refl

-- the joined words of a label
pub joined_names_alone : (label : List ℕ) → list_all is_name_byte (joined label) ≡ true
unfolding joined
joined_names_alone label = joined_names (words label) (all_filtered (list_all is_name_byte) (λ word. nat_lt 0 (length word)) (slice_split (λ b. not (is_name_byte b)) label) (parts_are_names label))

front : (bytes : List ℕ) (b : Bool) → begins_with_letter bytes ≡ b → list_all is_name_byte bytes ≡ true → IsWord (cond b bytes (codes "n_" ++ bytes))
front bytes true e h = (e, h)
front bytes false e h = (refl, h)

pub fronted_is_word : (bytes : List ℕ) → list_all is_name_byte bytes ≡ true → IsWord (fronted bytes)
unfolding fronted
fronted_is_word bytes h = front bytes (begins_with_letter bytes) refl h

begins_before : (bytes more : List ℕ) → begins_with_letter bytes ≡ true → begins_with_letter (bytes ++ more) ≡ true
begins_before [] more h = absurd (grind (arith, h))
begins_before (b ∷ bytes) more h = h

behind : (word : List ℕ) (b : Bool) → is_reserved word ≡ b → IsWord word → IsWord (cond b (word ++ codes "_") word) × (is_reserved (cond b (word ++ codes "_") word) ≡ false)
behind word true e h = ((begins_before word (codes "_") h.0, list_all-append is_name_byte word (codes "_") ∙ rw h.1 refl), reserved_behind word e)
behind word false e h = (h, e)

pub unreserved_is_word : (word : List ℕ) → IsWord word → IsWord (unreserved word) × (is_reserved (unreserved word) ≡ false)
unfolding unreserved
unreserved_is_word word h = behind word (is_reserved word) refl h

all_taken : (n : ℕ) (bytes : List ℕ) → list_all is_name_byte bytes ≡ true → list_all is_name_byte (take n bytes) ≡ true
all_taken zero bytes h = refl
all_taken (suc n) [] h = refl
all_taken (suc n) (b ∷ bytes) h =
    let e = both (is_name_byte b) (list_all is_name_byte bytes) h in
    rw (e.0, all_taken n bytes e.1) refl

all_dropped : (n : ℕ) (bytes : List ℕ) → list_all is_name_byte bytes ≡ true → list_all is_name_byte (drop n bytes) ≡ true
all_dropped zero bytes h = h
all_dropped (suc n) [] h = refl
all_dropped (suc n) (b ∷ bytes) h = all_dropped n bytes (both (is_name_byte b) (list_all is_name_byte bytes) h).1

begins_taken : (bytes more : List ℕ) → begins_with_letter bytes ≡ true → begins_with_letter (take 15 bytes ++ more) ≡ true
begins_taken [] more h = absurd (grind (arith, h))
begins_taken (b ∷ bytes) more h = h

not_reserved : (word : List ℕ) (b : Bool) → is_reserved word ≡ b → 13 < length word → b ≡ false
not_reserved word true e l = absurd (omega (arith, reserved_short word e, l))
not_reserved word false e l = refl

short : (word : List ℕ) (b : Bool) → nat_lt MAX_NAME (length word) ≡ b → IsWord word → is_reserved word ≡ false → IsName (cond b (take 15 word ++ codes "__" ++ drop (length word - 15) word) word)
short word true e h r =
    let size : MAX_NAME < length word = ltb-true _ _ e in
    let begin = length-take 15 word in
    let end = length-drop (length word - 15) word in
    let cut = take 15 word ++ codes "__" ++ drop (length word - 15) word in
    let within : length cut ≡ 32 =
    length-append (take 15 word ++ codes "__") (drop (length word - 15) word) ∙ omega (arith, size, begin, end, length-append (take 15 word) (codes "__")) in
    let names : list_all is_name_byte cut ≡ true =
    list_all-append is_name_byte (take 15 word ++ codes "__") (drop (length word - 15) word)
    ∙ rw (list_all-append is_name_byte (take 15 word) (codes "__"), all_taken 15 word h.1, all_dropped (length word - 15) word h.1) refl in
    let begins : begins_with_letter cut ≡ true = begins_before (take 15 word ++ codes "__") (drop (length word - 15) word) (begins_taken word (codes "__") h.0) in
    word_is_name cut (begins, names) (omega (arith, within)) (not_reserved cut (is_reserved cut) refl (omega (arith, within)))
short word false e h r = word_is_name word h (grind (arith, nat_tests)) r

pub shortened_is_name : (word : List ℕ) → IsWord word → is_reserved word ≡ false → IsName (shortened word)
unfolding shortened
shortened_is_name word h r = short word (nat_lt MAX_NAME (length word)) refl h r

-- the spelling of a label is a name
pub spelled_is_name : (label : List ℕ) → IsName (spelled label)
unfolding spelled
spelled_is_name label =
    let word = unreserved_is_word (fronted (joined label)) (fronted_is_word (joined label) (joined_names_alone label)) in
    shortened_is_name _ word.0 word.1
