-- Lines and words: the parts between the occurrences of a byte.
use Rattle.std.proofs.Common.{◌≡◌, ℕ, ◌+◌, ◌<◌, ◌≤◌, Bool, true, false, ◌||◌, cond, eqb, List, [], ◌∷◌, ◌++◌, Some, None, refl, sym, ap, ◌∙◌, arith, length, take, drop, append_assoc, append-nil}
use Rattle.std.specs.List.{slice_split, onto_first, position, position_or_len, flat_map, join_with_byte, list_any, AllByRecursion}
use Rattle.std.proofs.lemmas.Bool.{ltb-false, eq-eqb}
use Rattle.std.proofs.lemmas.List.Splits.{slice_split_none, slice_split_first, slice_split_at, join_with_byte-slice_split}
use Rattle.std.proofs.lemmas.List.Quantifiers.{position-Some}
use Rattle.std.proofs.lemmas.List.Sums.{position_or_len_is, fails_before_first}
use Rattle.std.proofs.lemmas.List.Elements.{All-from_recursion}
use Rattle.texts.specs.Lines.{parts, all_but_last, last_of, lines_of, end_of, words_of, Lacks, FiveOrMore, ended}

-- ---- lists that are not empty

-- a list has a first element
pub record Cons {X : Type 0} (xs : List X) : Type 0 where
  pub first : X
  pub others : List X
  pub is : xs ≡ first ∷ others

all_but_last-cons : {X : Type 0} (x : X) (xs : List X) → Cons xs → all_but_last (x ∷ xs) ≡ x ∷ all_but_last xs
all_but_last-cons x xs c = ap (λ l. all_but_last (x ∷ l)) c.is ∙ sym (ap (λ l. x ∷ all_but_last l) c.is)

last_of-cons : (x : List ℕ) (xs : List (List ℕ)) → Cons xs → last_of (x ∷ xs) ≡ last_of xs
last_of-cons x xs c = ap (λ l. last_of (x ∷ l)) c.is ∙ sym (ap last_of c.is)

append_cons : {X : Type 0} (xs ys : List X) → Cons ys → Cons (xs ++ ys)
append_cons [] ys c = c
append_cons (x ∷ xs) ys c = record { first = x; others = xs ++ ys; is = refl }

all_but_last-append : {X : Type 0} (xs ys : List X) → Cons ys → all_but_last (xs ++ ys) ≡ xs ++ all_but_last ys
all_but_last-append [] ys c = refl
all_but_last-append (x ∷ xs) ys c = all_but_last-cons x (xs ++ ys) (append_cons xs ys c) ∙ ap (λ l. x ∷ l) (all_but_last-append xs ys c)

last_of-append : (xs ys : List (List ℕ)) → Cons ys → last_of (xs ++ ys) ≡ last_of ys
last_of-append [] ys c = refl
last_of-append (x ∷ xs) ys c = last_of-cons x (xs ++ ys) (append_cons xs ys c) ∙ last_of-append xs ys c

-- ---- the parts between the occurrences of a byte

onto_first_cons : {X : Type 0} (b : Bool) (x : X) (ps : List (List X)) → Cons (cond b ([] ∷ ps) (onto_first x ps))
onto_first_cons true x ps = record { first = []; others = ps; is = refl }
onto_first_cons false x [] = record { first = x ∷ []; others = []; is = refl }
onto_first_cons false x (p ∷ ps) = record { first = x ∷ p; others = ps; is = refl }

-- there is a first part
pub parts_cons : (byte : ℕ) (bytes : List ℕ) → Cons (parts byte bytes)
parts_cons byte [] = record { first = []; others = []; is = refl }
parts_cons byte (x ∷ xs) = onto_first_cons (eqb x byte) x (parts byte xs)

-- the bytes up to the first such byte are the first part
pub parts_at : (byte : ℕ) (bytes : List ℕ) (i : ℕ) → position (λ b. eqb b byte) bytes ≡ Some i → parts byte bytes ≡ take i bytes ∷ parts byte (drop (i + 1) bytes)
parts_at byte bytes i e =
    let p : ℕ → Bool = λ b. eqb b byte in
    let at = position-Some p bytes i 0 e in
    let below : i < length bytes = at.0 in
    let is : position_or_len p bytes ≡ i = position_or_len_is p bytes i 0 (omega arith) at.2 (λ _. at.1) in
    let found : position_or_len p bytes < length bytes = omega arith in
    slice_split_first p bytes 0 found ∙ ap (λ k. take k bytes ∷ slice_split p (drop (k + 1) bytes)) is

is_not_there : (b : Bool) (k : ℕ) → cond b (Some k) None ≡ None → b ≡ false
is_not_there true k e = cc
is_not_there false k e = refl

-- without such a byte there is only one part
pub parts_whole : (byte : ℕ) (bytes : List ℕ) → position (λ b. eqb b byte) bytes ≡ None → parts byte bytes ≡ bytes ∷ []
parts_whole byte bytes e =
    let p : ℕ → Bool = λ b. eqb b byte in
    let past : length bytes ≤ position_or_len p bytes = ltb-false _ _ (is_not_there _ _ e) in
    slice_split_none p bytes (λ k d below. fails_before_first p bytes k d (omega arith))

append_onto_first : (byte : ℕ) (b : Bool) (x : ℕ) (ps more : List (List ℕ)) (rest : List ℕ) → Cons ps → eqb x byte ≡ b → more ≡ all_but_last ps ++ parts byte (last_of ps ++ rest)
    → cond b ([] ∷ more) (onto_first x more) ≡ all_but_last (cond b ([] ∷ ps) (onto_first x ps)) ++ parts byte (last_of (cond b ([] ∷ ps) (onto_first x ps)) ++ rest)
append_onto_first byte true x ps more rest c e h =
    ap (λ l. [] ∷ l) h ∙ sym (ap (λ l. l ++ parts byte (last_of ([] ∷ ps) ++ rest)) (all_but_last-cons [] ps c) ∙ ap (λ l. [] ∷ all_but_last ps ++ parts byte (l ++ rest)) (last_of-cons [] ps c))
append_onto_first byte false x [] more rest c e h = absurd (let is = c.is in cc)
append_onto_first byte false x (p ∷ []) more rest c e h = ap (onto_first x) h ∙ sym (ap (λ b. cond b ([] ∷ parts byte (p ++ rest)) (onto_first x (parts byte (p ++ rest)))) e)
append_onto_first byte false x (p ∷ q ∷ ps) more rest c e h = ap (onto_first x) h

-- further bytes continue the last part
pub parts_append : (byte : ℕ) (bytes rest : List ℕ) → parts byte (bytes ++ rest) ≡ all_but_last (parts byte bytes) ++ parts byte (last_of (parts byte bytes) ++ rest)
parts_append byte [] rest = refl
parts_append byte (x ∷ xs) rest = append_onto_first byte (eqb x byte) x (parts byte xs) (parts byte (xs ++ rest)) rest (parts_cons byte xs) refl (parts_append byte xs rest)

lacks_onto_first : (byte : ℕ) (b : Bool) (x : ℕ) (ps : List (List ℕ)) → eqb x byte ≡ b → AllByRecursion (Lacks byte) ps → AllByRecursion (Lacks byte) (cond b ([] ∷ ps) (onto_first x ps))
lacks_onto_first byte true x ps e h = (tt, h)
lacks_onto_first byte false x [] e h = ((e, tt), tt)
lacks_onto_first byte false x (p ∷ ps) e h = ((e, h.0), h.1)

-- no part has the byte
pub parts_lack : (byte : ℕ) (bytes : List ℕ) → AllByRecursion (Lacks byte) (parts byte bytes)
parts_lack byte [] = (tt, tt)
parts_lack byte (x ∷ xs) = lacks_onto_first byte (eqb x byte) x (parts byte xs) refl (parts_lack byte xs)

-- parts without the byte, joined by it and cut again
pub parts_again : (byte : ℕ) (word : List ℕ) (words : List (List ℕ)) → AllByRecursion (Lacks byte) (word ∷ words) → parts byte (join_with_byte byte (word ∷ words)) ≡ word ∷ words
parts_again byte word [] h = slice_split_none (λ b. eqb b byte) word (All-from_recursion _ word h.0)
parts_again byte word (next ∷ words) h =
    slice_split_at (λ b. eqb b byte) word byte (join_with_byte byte (next ∷ words)) (All-from_recursion _ word h.0) (eq-eqb byte byte refl) ∙ ap (λ l. word ∷ l) (parts_again byte next words h.1)

-- ---- bytes that are not there

neither : (x y : Bool) → (x || y) ≡ false → (x ≡ false) × (y ≡ false)
neither true y e = cc
neither false y e = (refl, e)

-- the bytes lack a byte, by a test of each: `lacks_if 32 (codes "send") refl`
pub lacks_if : (byte : ℕ) (bytes : List ℕ) → list_any (λ b. eqb b byte) bytes ≡ false → Lacks byte bytes
lacks_if byte [] e = tt
lacks_if byte (b ∷ bs) e =
    let two = neither (eqb b byte) (list_any (λ x. eqb x byte) bs) e in
    (two.0, lacks_if byte bs two.1)

pub lacks_append : (byte : ℕ) (xs ys : List ℕ) → Lacks byte xs → Lacks byte ys → Lacks byte (xs ++ ys)
lacks_append byte [] ys h g = g
lacks_append byte (x ∷ xs) ys h g = (h.0, lacks_append byte xs ys h.1 g)

-- words without the byte, joined by another
pub joined_lacks : (byte other : ℕ) (words : List (List ℕ)) → eqb other byte ≡ false → AllByRecursion (Lacks byte) words → Lacks byte (join_with_byte other words)
joined_lacks byte other [] e h = tt
joined_lacks byte other (word ∷ []) e h = h.0
joined_lacks byte other (word ∷ next ∷ words) e h = lacks_append byte word _ h.0 (e, joined_lacks byte other (next ∷ words) e h.1)

-- ---- words

pub words_joined : (line : List ℕ) → join_with_byte 32 (words_of line) ≡ line
unfolding words_of
words_joined line = join_with_byte-slice_split 32 line

pub words_lack : (line : List ℕ) → AllByRecursion (Lacks 32) (words_of line)
unfolding words_of
words_lack line = parts_lack 32 line

pub words_again : (word : List ℕ) (words : List (List ℕ)) → AllByRecursion (Lacks 32) (word ∷ words) → words_of (join_with_byte 32 (word ∷ words)) ≡ word ∷ words
unfolding words_of
words_again word words h = parts_again 32 word words h

pub words_cut : (line word rest : List ℕ) → parts 32 line ≡ word ∷ parts 32 rest → words_of line ≡ word ∷ words_of rest
unfolding words_of
words_cut line word rest e = e

pub words_whole : (line : List ℕ) → parts 32 line ≡ line ∷ [] → words_of line ≡ line ∷ []
unfolding words_of
words_whole line e = e

-- there is a first word
pub words_cons : (line : List ℕ) → Cons (words_of line)
unfolding words_of
words_cons line = parts_cons 32 line

-- four words one by one, and more after them
pub five_words : {w x y z rest : List (List ℕ)} {a b c d : List ℕ} → w ≡ a ∷ x → x ≡ b ∷ y → y ≡ c ∷ z → z ≡ d ∷ rest → Cons rest → FiveOrMore w
five_words {a = a} {b = b} {c = c} {d = d} p q r s more = record {
  first = a;
  second = b;
  third = c;
  fourth = d;
  fifth = more.first;
  others = more.others;
  are = p ∙ ap (λ l. a ∷ l) (q ∙ ap (λ l. b ∷ l) (r ∙ ap (λ l. c ∷ l) (s ∙ ap (λ l. d ∷ l) more.is)));
}

-- ---- lines

pub lines_cut : (bytes line rest : List ℕ) → parts 10 bytes ≡ line ∷ parts 10 rest → lines_of bytes ≡ line ∷ lines_of rest
unfolding lines_of
lines_cut bytes line rest e = ap all_but_last e ∙ all_but_last-cons line (parts 10 rest) (parts_cons 10 rest)

pub end_cut : (bytes line rest : List ℕ) → parts 10 bytes ≡ line ∷ parts 10 rest → end_of bytes ≡ end_of rest
unfolding end_of
end_cut bytes line rest e = ap last_of e ∙ last_of-cons line (parts 10 rest) (parts_cons 10 rest)

pub no_lines : (bytes : List ℕ) → parts 10 bytes ≡ bytes ∷ [] → lines_of bytes ≡ []
unfolding lines_of
no_lines bytes e = ap all_but_last e

pub all_end : (bytes : List ℕ) → parts 10 bytes ≡ bytes ∷ [] → end_of bytes ≡ bytes
unfolding end_of
all_end bytes e = ap last_of e

join_lines : (ps : List (List ℕ)) → flat_map ended (all_but_last ps) ++ last_of ps ≡ join_with_byte 10 ps
join_lines [] = refl
join_lines (x ∷ []) = refl
join_lines (x ∷ y ∷ ys) =
    append_assoc (x ++ 10 ∷ []) (flat_map ended (all_but_last (y ∷ ys))) (last_of (y ∷ ys)) ∙ ap (λ l. (x ++ 10 ∷ []) ++ l) (join_lines (y ∷ ys)) ∙ append_assoc x (10 ∷ []) (join_with_byte 10 (y ∷ ys))

-- the lines and the end are the text
pub lines_joined : (bytes : List ℕ) → flat_map ended (lines_of bytes) ++ end_of bytes ≡ bytes
unfolding lines_of end_of
lines_joined bytes = join_lines (parts 10 bytes) ∙ join_with_byte-slice_split 10 bytes

all_but_last_lack : (ps : List (List ℕ)) → AllByRecursion (Lacks 10) ps → AllByRecursion (Lacks 10) (all_but_last ps)
all_but_last_lack [] h = tt
all_but_last_lack (x ∷ []) h = tt
all_but_last_lack (x ∷ y ∷ ys) h = (h.0, all_but_last_lack (y ∷ ys) h.1)

last_of_lacks : (ps : List (List ℕ)) → AllByRecursion (Lacks 10) ps → Lacks 10 (last_of ps)
last_of_lacks [] h = tt
last_of_lacks (x ∷ []) h = h.0
last_of_lacks (x ∷ y ∷ ys) h = last_of_lacks (y ∷ ys) h.1

pub lines_lack : (bytes : List ℕ) → AllByRecursion (Lacks 10) (lines_of bytes)
unfolding lines_of
lines_lack bytes = all_but_last_lack (parts 10 bytes) (parts_lack 10 bytes)

pub end_lacks : (bytes : List ℕ) → Lacks 10 (end_of bytes)
unfolding end_of
end_lacks bytes = last_of_lacks (parts 10 bytes) (parts_lack 10 bytes)

one_part : (part : List ℕ) → Cons (part ∷ [])
one_part part = record { first = part; others = []; is = refl }

parts_ended : (lines : List (List ℕ)) → AllByRecursion (Lacks 10) lines → parts 10 (flat_map ended lines) ≡ lines ++ [] ∷ []
parts_ended [] h = refl
parts_ended (line ∷ lines) h =
    ap (parts 10) (append_assoc line (10 ∷ []) (flat_map ended lines))
    ∙ slice_split_at (λ b. eqb b 10) line 10 (flat_map ended lines) (All-from_recursion _ line h.0) refl ∙ ap (λ l. line ∷ l) (parts_ended lines h.1)

-- lines without a line feed, each ended by one and cut again
pub lines_again : (lines : List (List ℕ)) → AllByRecursion (Lacks 10) lines → lines_of (flat_map ended lines) ≡ lines
unfolding lines_of
lines_again lines h = ap all_but_last (parts_ended lines h) ∙ all_but_last-append lines ([] ∷ []) (one_part []) ∙ append-nil lines

pub end_again : (lines : List (List ℕ)) → AllByRecursion (Lacks 10) lines → end_of (flat_map ended lines) ≡ []
unfolding end_of
end_again lines h = ap last_of (parts_ended lines h) ∙ last_of-append lines ([] ∷ []) (one_part [])

-- the lines of two texts, one after the other: the end of the first is continued
pub lines_onto : (bytes rest : List ℕ) → lines_of (bytes ++ rest) ≡ lines_of bytes ++ lines_of (end_of bytes ++ rest)
unfolding lines_of end_of
lines_onto bytes rest = ap all_but_last (parts_append 10 bytes rest) ∙ all_but_last-append (all_but_last (parts 10 bytes)) _ (parts_cons 10 (last_of (parts 10 bytes) ++ rest))

pub end_onto : (bytes rest : List ℕ) → end_of (bytes ++ rest) ≡ end_of (end_of bytes ++ rest)
unfolding end_of
end_onto bytes rest = ap last_of (parts_append 10 bytes rest) ∙ last_of-append (all_but_last (parts 10 bytes)) _ (parts_cons 10 (last_of (parts 10 bytes) ++ rest))

-- the same if the first text ends with a line feed, or is empty
pub lines_append : (bytes rest : List ℕ) → end_of bytes ≡ [] → lines_of (bytes ++ rest) ≡ lines_of bytes ++ lines_of rest
lines_append bytes rest e = lines_onto bytes rest ∙ ap (λ l. lines_of bytes ++ lines_of (l ++ rest)) e

pub end_append : (bytes rest : List ℕ) → end_of bytes ≡ [] → end_of (bytes ++ rest) ≡ end_of rest
end_append bytes rest e = end_onto bytes rest ∙ ap (λ l. end_of (l ++ rest)) e

last_ended : (bytes : List ℕ) → Lacks 10 bytes → end_of (ended bytes) ≡ []
unfolding end_of
last_ended bytes h = ap last_of (slice_split_at (λ b. eqb b 10) bytes 10 [] (All-from_recursion _ bytes h) refl)

-- a text with a line feed at its end has nothing after its lines
pub end_ended : (bytes : List ℕ) → end_of (ended bytes) ≡ []
end_ended bytes = end_onto bytes (10 ∷ []) ∙ last_ended (end_of bytes) (end_lacks bytes)
