-- Words with numbers after them: they are names, and no two of a word are the same.
use Rattle.std.proofs.Common.{◌≡◌, ℕ, zero, suc, ◌-◌, ◌^◌, ◌≤◌, ◌<◌, ◌⊎◌, inl, inr, Bool, true, false, not, ◌==◌, cond, List, [], ◌∷◌, ◌++◌, length, take, reverse, codes, decimal, refl, sym, ap, ◌∙◌, subst, arith}
use Rattle.std.specs.List.{list_all}
use Rattle.std.specs.Str.Parse.{AllDigits, digits_value}
use Rattle.std.proofs.Math.Seq.{take_all}
use Rattle.std.proofs.lemmas.Bool.Decides.{nat_tests}
use Rattle.std.proofs.lemmas.Fmt.{digits_decimal, decimal_injective, length-decimal-le}
use Rattle.std.proofs.lemmas.List.{length-take, length-append, reverse-append, reverse-reverse, append_assoc}
use Rattle.std.proofs.lemmas.List.Folds.{list_all-append}
use Rattle.std.proofs.lemmas.Str.Parse.{IsNumeralModel, tells_digits}
use Rattle.chart.specs.Names.{is_letter, is_name_byte, IsName}
use Rattle.chart.specs.Keywords.{spelled, is_reserved}
use Rattle.chart.specs.declared.keyword.Keyword.{Keyword}
use Rattle.chart.specs.declared.keyword.Keyword.TheVariants.{Msc, EndMsc, Instance, EndInstance, Out, To, In, From, Concurrent, EndConcurrent}
use Rattle.chart.specs.declared.name.TheConstants.{MAX_NAME}
use Rattle.diagram_labels.specs.Spelling.{begins_with_letter, IsWord}
use Rattle.diagram_labels.specs.Giving.{suffix, numbered}
use Rattle.diagram_labels.proofs.Bytes.{both}
use Rattle.diagram_labels.proofs.Reserved.{reserved_is}
use Rattle.diagram_labels.proofs.Spellings.{word_is_name}

own : IsNumeralModel (AllDigits 10) (digits_value 10)
own = record { to = λ ds d. d; from = λ ds d. d; same = λ ds d. refl }

digit_is_name : (c : ℕ) → 48 ≤ c → c ≤ 57 → is_name_byte c ≡ true
digit_is_name c low high = grind (arith, nat_tests)

digits_are_names : (ds : List ℕ) → AllDigits 10 ds → list_all is_name_byte ds ≡ true
digits_are_names [] d = refl
digits_are_names (c ∷ cs) d = let k = tells_digits.parts c cs d in rw (digit_is_name c k.0.0 k.0.1, digits_are_names cs k.1) refl

abbrev isn't_line : ℕ → Bool
isn't_line c = not (c == 95)

digit_is_no_line : (c : ℕ) → c ≤ 57 → isn't_line c ≡ true
digit_is_no_line c high = grind (arith, nat_tests)

digits_have_no_line : (ds : List ℕ) → AllDigits 10 ds → list_all isn't_line ds ≡ true
digits_have_no_line [] d = refl
digits_have_no_line (c ∷ cs) d = let k = tells_digits.parts c cs d in rw (digit_is_no_line c k.0.1, digits_have_no_line cs k.1) refl

none_backwards : (cs : List ℕ) → list_all isn't_line cs ≡ true → list_all isn't_line (reverse cs) ≡ true
none_backwards [] h = refl
none_backwards (c ∷ cs) h =
    let e = both (isn't_line c) (list_all isn't_line cs) h in
    ap (list_all isn't_line) (reverse-append (c ∷ []) cs) ∙ list_all-append isn't_line (reverse cs) (c ∷ []) ∙ rw (none_backwards cs e.1, e.0) refl

-- the bytes before the first _
before_line : List ℕ → List ℕ
before_line [] = []
before_line (c ∷ cs) = cond (isn't_line c) (c ∷ before_line cs) []

before : (ds more : List ℕ) → list_all isn't_line ds ≡ true → before_line (ds ++ 95 ∷ more) ≡ ds
unfolding before_line
before [] more h = refl
before (c ∷ cs) more h = let e = both (isn't_line c) (list_all isn't_line cs) h in rw (e.0, before cs more e.1) refl

-- the bytes after the last _ of a numbered word
behind_last : (word : List ℕ) (number : ℕ) → number < 2 ^ 64 → before_line (reverse (numbered word number)) ≡ reverse (decimal number)
unfolding numbered
behind_last word number l =
    let front = take (MAX_NAME - length (suffix number)) word in
    ap before_line (reverse-append front (suffix number) ∙ ap (λ s. s ++ reverse front) (reverse-append (codes "_") (decimal number)))
    ∙ ap before_line (append_assoc (reverse (decimal number)) (95 ∷ []) (reverse front))
    ∙ before (reverse (decimal number)) (reverse front) (none_backwards (decimal number) (digits_have_no_line (decimal number) (digits_decimal own number l)))

-- different numbers make different names of a word
pub numbered_apart : (word : List ℕ) (i j : ℕ) → i < 2 ^ 64 → j < 2 ^ 64 → numbered word i ≡ numbered word j → i ≡ j
numbered_apart word i j l m e =
    let same : reverse (decimal i) ≡ reverse (decimal j) = sym (behind_last word i l) ∙ ap (λ w. before_line (reverse w)) e ∙ behind_last word j m in
    decimal_injective i j l m (sym (reverse-reverse (decimal i)) ∙ ap reverse same ∙ reverse-reverse (decimal j))

letters : (k : Keyword) → list_all is_letter (spelled k) ≡ true
unfolding spelled
letters Msc = refl
letters EndMsc = refl
letters Instance = refl
letters EndInstance = refl
letters Out = refl
letters To = refl
letters In = refl
letters From = refl
letters Concurrent = refl
letters EndConcurrent = refl

line_in : (xs ys : List ℕ) → list_all is_letter (xs ++ 95 ∷ ys) ≡ true → false ≡ true
line_in xs ys h = let e = both (list_all is_letter xs) false (sym (list_all-append is_letter xs (95 ∷ ys)) ∙ h) in e.1

with_line : (xs ys : List ℕ) (b : Bool) → is_reserved (xs ++ 95 ∷ ys) ≡ b → b ≡ false
with_line xs ys true e = let k = reserved_is (xs ++ 95 ∷ ys) e in absurd (grind (arith, line_in xs ys (ap (list_all is_letter) k.1 ∙ letters k.0)))
with_line xs ys false e = refl

begins_taken : (n : ℕ) (word more : List ℕ) → begins_with_letter word ≡ true → begins_with_letter (take (suc n) word ++ more) ≡ true
begins_taken n [] more h = absurd (grind (arith, h))
begins_taken n (b ∷ word) more h = h

all_taken : (n : ℕ) (bytes : List ℕ) → list_all is_name_byte bytes ≡ true → list_all is_name_byte (take n bytes) ≡ true
all_taken zero bytes h = refl
all_taken (suc n) [] h = refl
all_taken (suc n) (b ∷ bytes) h =
    let e = both (is_name_byte b) (list_all is_name_byte bytes) h in
    rw (e.0, all_taken n bytes e.1) refl

-- a word with a number after it is a name
pub numbered_is_name : (word : List ℕ) (number : ℕ) → IsWord word → number < 2 ^ 64 → IsName (numbered word number)
unfolding numbered
numbered_is_name word number h l =
    let digits = length-decimal-le 20 number (omega arith) (omega arith) l in
    let size = length-append (codes "_") (decimal number) in
    let front = take (MAX_NAME - length (suffix number)) word in
    let cut = length-take (MAX_NAME - length (suffix number)) word in
    let within : length (front ++ suffix number) ≤ MAX_NAME = omega (arith, length-append front (suffix number), cut, size, digits) in
    let first = begins_taken (31 - length (suffix number)) word (suffix number) h.0 in
    let more : MAX_NAME - length (suffix number) ≡ suc (31 - length (suffix number)) = omega (arith, digits, size) in
    let begins : begins_with_letter (front ++ suffix number) ≡ true = subst (λ k. begins_with_letter (take k word ++ suffix number) ≡ true) (sym more) first in
    let names : list_all is_name_byte (front ++ suffix number) ≡ true =
    list_all-append is_name_byte front (suffix number) ∙ rw (all_taken (MAX_NAME - length (suffix number)) word h.1, digits_are_names (decimal number) (digits_decimal own number l)) refl in
    word_is_name (front ++ suffix number) (begins, names) within (with_line front (decimal number) (is_reserved (front ++ 95 ∷ decimal number)) refl)

-- the first bytes of the word: all of them, or as many as fit
pub taken_min : (n : ℕ) (word : List ℕ) (m : ℕ) → (m ≡ n) ⊎ ((m ≡ length word) × (length word ≤ n)) → take m word ≡ take n word
taken_min n word m (inl e) = ap (λ k. take k word) e
taken_min n word m (inr e) = rw e.0 (take_all (length word) word (omega arith) ∙ sym (take_all n word e.1))
