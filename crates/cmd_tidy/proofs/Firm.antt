-- Words of exact texts: none of their bytes separates words or begins a comment, and none of them is an arrow.
use Rattle.std.proofs.Common.{◌≡◌, ℕ, ◌≤◌, ◌<◌, Bool, true, false, leb, eqb, codes, List, [], ◌∷◌, ◌++◌, length, filter, refl, ap, ◌∙◌, subst, bytes_eq, arith}
use Rattle.std.specs.List.{slice_split, join_with_byte, list_all, AllByRecursion}
use Rattle.std.proofs.lemmas.Bool.{and_parts, leb-true, ne_eqb}
use Rattle.std.proofs.lemmas.List.Elements.{All-from_recursion}
use Rattle.std.proofs.lemmas.List.Splits.{slice_split_none, slice_split_at}
use Rattle.chart.specs.Keywords.{spelled}
use Rattle.chart.specs.Names.{IsName, is_name_byte}
use Rattle.chart.specs.declared.keyword.Keyword.{Keyword}
use Rattle.chart.specs.declared.keyword.Keyword.TheVariants.{Msc, EndMsc, Instance, EndInstance, Out, To, In, From, Concurrent, EndConcurrent}
use Rattle.texts.specs.Lines.{Lacks, is_word}
use Rattle.texts.proofs.Lookups.{same_bytes}
use Rattle.texts.proofs.Results.{name_bytes, name_some}
use Rattle.texts.specs.Bytes.Classes.{is_blank}
use Rattle.cmd_tidy.specs.Typing.{send_word, receive_word, written_out}

-- each byte is a digit, or comes after the digits
abbrev pub IsFirm : List ℕ → Type 0
IsFirm word = AllByRecursion (λ b. 48 ≤ b) word

-- a word of such bytes
abbrev pub IsFirmWord : List ℕ → Type 0
IsFirmWord word = (0 < length word) × IsFirm word

abbrev pub AreFirm : List (List ℕ) → Type 0
AreFirm words = AllByRecursion IsFirmWord words

-- ---- firm words

firm_bytes : (word : List ℕ) → list_all (leb 48) word ≡ true → IsFirm word
firm_bytes [] e = tt
firm_bytes (b ∷ bs) e =
    let both = and_parts (leb 48 b) (list_all (leb 48) bs) e in
    (leb-true 48 b both.0, firm_bytes bs both.1)

-- a word that passes a test of each byte
pub firm_literal : (word : List ℕ) → 0 < length word → list_all (leb 48) word ≡ true → IsFirmWord word
firm_literal word some e = (some, firm_bytes word e)

name_byte_firm : (b : ℕ) → is_name_byte b ≡ true → 48 ≤ b
name_byte_firm b e = grind (arith, e)

name_firm : (word : List ℕ) → AllByRecursion (λ b. is_name_byte b ≡ true) word → IsFirm word
name_firm [] h = tt
name_firm (b ∷ bs) h = (name_byte_firm b h.0, name_firm bs h.1)

some_bytes : (n : ℕ) → eqb n 0 ≡ false → 0 < n
some_bytes n e = grind (arith, e)

pub firm_name : (word : List ℕ) → IsName word → IsFirmWord word
firm_name word h = (some_bytes (length word) (name_some word h), name_firm word (name_bytes word h))

firm_append : (xs ys : List ℕ) → IsFirm xs → IsFirm ys → IsFirm (xs ++ ys)
firm_append [] ys h g = g
firm_append (x ∷ xs) ys h g = (h.0, firm_append xs ys h.1 g)

longer : (xs ys : List ℕ) → 0 < length xs → 0 < length (xs ++ ys)
longer [] ys h = absurd (omega (arith, h))
longer (x ∷ xs) ys h = omega arith

-- a word with firm bytes after it
pub firm_with : (word more : List ℕ) → IsFirmWord word → IsFirm more → IsFirmWord (word ++ more)
firm_with word more h g = (longer word more h.0, firm_append word more h.1 g)

-- a reserved word of the chart text
pub firm_keyword : (word : Keyword) → IsFirmWord (spelled word)
unfolding spelled
firm_keyword Msc = firm_literal (spelled Msc) (omega arith) refl
firm_keyword EndMsc = firm_literal (spelled EndMsc) (omega arith) refl
firm_keyword Instance = firm_literal (spelled Instance) (omega arith) refl
firm_keyword EndInstance = firm_literal (spelled EndInstance) (omega arith) refl
firm_keyword Out = firm_literal (spelled Out) (omega arith) refl
firm_keyword To = firm_literal (spelled To) (omega arith) refl
firm_keyword In = firm_literal (spelled In) (omega arith) refl
firm_keyword From = firm_literal (spelled From) (omega arith) refl
firm_keyword Concurrent = firm_literal (spelled Concurrent) (omega arith) refl
firm_keyword EndConcurrent = firm_literal (spelled EndConcurrent) (omega arith) refl

-- ---- lines of firm words

-- a firm word lacks each byte before the digits
pub firm_lacks : (byte : ℕ) → byte < 48 → (word : List ℕ) → IsFirm word → Lacks byte word
firm_lacks byte low [] h = tt
firm_lacks byte low (b ∷ bs) h = (ne_eqb b byte (λ same. omega (arith, h.0)), firm_lacks byte low bs h.1)

pub each_lacks : (byte : ℕ) → byte < 48 → (words : List (List ℕ)) → AreFirm words → AllByRecursion (Lacks byte) words
each_lacks byte low [] h = tt
each_lacks byte low (word ∷ words) h = (firm_lacks byte low word h.0.1, each_lacks byte low words h.1)

no_blank : (b : ℕ) → 48 ≤ b → is_blank b ≡ false
no_blank b h = rw (ne_eqb b 32 (λ same. omega (arith, h)), ne_eqb b 9 (λ same. omega (arith, h)), ne_eqb b 13 (λ same. omega (arith, h))) refl

no_blanks : (word : List ℕ) → IsFirm word → AllByRecursion (λ b. is_blank b ≡ false) word
no_blanks [] h = tt
no_blanks (b ∷ bs) h = (no_blank b h.0, no_blanks bs h.1)

-- words with a space between each two are split into these words
pub split_again : (word : List ℕ) (words : List (List ℕ)) → AreFirm (word ∷ words) → slice_split is_blank (join_with_byte 32 (word ∷ words)) ≡ word ∷ words
split_again word [] h = slice_split_none is_blank word (All-from_recursion _ word (no_blanks word h.0.1))
split_again word (next ∷ words) h =
    slice_split_at is_blank word 32 (join_with_byte 32 (next ∷ words)) (All-from_recursion _ word (no_blanks word h.0.1)) refl
    ∙ ap (λ l. word ∷ l) (split_again next words h.1)

filled : (word : List ℕ) → 0 < length word → is_word word ≡ true
filled word some = grind (arith, some)

-- none of the words is empty
pub all_filled : (words : List (List ℕ)) → AreFirm words → filter is_word words ≡ words
all_filled [] h = refl
all_filled (word ∷ words) h = rw (filled word h.0.0) (ap (λ l. word ∷ l) (all_filled words h.1))

differs : (word other : List ℕ) (b : Bool) → bytes_eq word other ≡ b → IsFirm word → (IsFirm other → ⊥) → b ≡ false
differs word other true e h not_firm = absurd (not_firm (subst IsFirm (same_bytes word other e) h))
differs word other false e h not_firm = refl

no_send : (word : List ℕ) → IsFirm word → send_word word ≡ word
no_send word h = rw (differs word (codes "->") (bytes_eq word (codes "->")) refl h (λ firm. omega (arith, firm.0))) refl

no_receive : (word : List ℕ) → IsFirm word → receive_word word ≡ word
no_receive word h = rw (differs word (codes "<-") (bytes_eq word (codes "<-")) refl h (λ firm. omega (arith, firm.1.0))) refl

-- none of the words is an arrow
pub same_written : (words : List (List ℕ)) → AreFirm words → written_out words ≡ words
unfolding written_out
same_written [] h = refl
same_written (a ∷ []) h = refl
same_written (a ∷ k ∷ []) h = refl
same_written (a ∷ k ∷ b ∷ []) h = ap (λ w. a ∷ w ∷ b ∷ []) (no_receive k h.1.0.1)
same_written (a ∷ k ∷ b ∷ m ∷ []) h = ap (λ w. a ∷ w ∷ b ∷ m ∷ []) (no_send k h.1.0.1)
same_written (a ∷ k ∷ b ∷ m ∷ n ∷ words) h = refl
