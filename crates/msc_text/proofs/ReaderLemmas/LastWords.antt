-- The last word of a line, recognized by the part before its semicolon.
use Rattle.std.proofs.Common.{◌≡◌, ℕ, ◌+◌, ◌-◌, ◌<◌, ◌≤◌, Bool, true, false, List, [], ◌∷◌, ◌++◌, length, get_or, take, drop, refl, sym, ap, ◌∙◌, arith, take-append-drop, drop-cons, add-one, length-append}
use Rattle.std.specs.Prelude.{bytes_eq}
use Rattle.std.specs.Cmp.Lexicographic.{bytes_decides}
use Rattle.std.proofs.Math.Seq.{get_or-append_seam}
use Rattle.std.proofs.lemmas.List.{append_cancel_right, drop_all}
use Rattle.msc_text.specs.Reader.LastWords.{semi, is_last_word}

-- all but the last byte
abbrev pub front_of : List ℕ → List ℕ
front_of word = take (length word - 1) word

agree : (a b : Bool) → (a ≡ true → b ≡ true) → (b ≡ true → a ≡ true) → a ≡ b
agree true b there back = sym (there refl)
agree false true there back = back refl
agree false false there back = refl

is_split : (word : List ℕ) → 1 ≤ length word → get_or word (length word - 1) 0 ≡ 59 → word ≡ semi (front_of word)
is_split word some last =
    let n : ℕ = length word - 1 in
    let none : drop (n + 1) word ≡ [] = drop_all (n + 1) word (omega arith) in
    let within : n < length word = omega arith in
    let back : drop n word ≡ get_or word n 0 ∷ drop (n + 1) word = rw (add-one, drop-cons word n 0) refl in
    sym (take-append-drop n word) ∙ ap (λ l. front_of word ++ l) (back ∙ ap (λ b. b ∷ drop (n + 1) word) last ∙ ap (λ l. 59 ∷ l) none)

-- a semicolon ends the word
pub last_word-is : (word front : List ℕ) → 1 ≤ length word → get_or word (length word - 1) 0 ≡ 59 → bytes_eq (front_of word) front ≡ is_last_word front word
unfolding is_last_word
last_word-is word front some last =
    let split : word ≡ semi (front_of word) = is_split word some last in
    agree (bytes_eq (front_of word) front) (bytes_eq word (semi front))
    (λ same. (bytes_decides word (semi front)).1 (split ∙ ap semi ((bytes_decides (front_of word) front).0 same)))
    (λ same. (bytes_decides (front_of word) front).1 (append_cancel_right (front_of word) front (59 ∷ []) (sym split ∙ (bytes_decides word (semi front)).0 same)))

-- another byte ends the word
pub last_word-other : (word front : List ℕ) → (get_or word (length word - 1) 0 ≡ 59 → ⊥) → is_last_word front word ≡ false
unfolding is_last_word
last_word-other word front other = by (bytes_eq word (semi front)) refl
  where
    by : (b : Bool) → bytes_eq word (semi front) ≡ b → b ≡ false
    by false e = refl
    by true e =
        let same : word ≡ semi front = (bytes_decides word (semi front)).0 e in
        let long : length (semi front) ≡ length front + 1 = length-append front (59 ∷ []) in
        let at : length (semi front) - 1 ≡ length front = omega arith in
        absurd (other (ap (λ w. get_or w (length w - 1) 0) same ∙ ap (λ n. get_or (semi front) n 0) at ∙ get_or-append_seam front 59 [] 0))
