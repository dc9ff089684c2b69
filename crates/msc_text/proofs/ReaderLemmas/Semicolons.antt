-- A name before a semicolon.
use Rattle.std.proofs.Common.{◌≡◌, ℕ, ◌+◌, ◌<◌, Bool, true, false, cond, eqb, not, ◌||◌, ◌&&◌, List, [], ◌∷◌, ◌++◌, length, get_or, take, drop, Option, Some, None, refl, sym, ap, ◌∙◌, arith, take-append-drop, drop-cons, add-one, length-append}
use Rattle.std.specs.Prelude.{position}
use Rattle.std.specs.List.{position_or_len, list_all}
use Rattle.std.proofs.Math.Seq.{get_or-append_seam, take-append_seam}
use Rattle.std.proofs.lemmas.Bool.{eqb-true, eq-eqb, lt-ltb}
use Rattle.std.proofs.lemmas.List.{get_or_append_left, drop_all}
use Rattle.std.proofs.lemmas.List.Elements.{All-from_recursion}
use Rattle.std.proofs.lemmas.List.Quantifiers.{position-Some}
use Rattle.std.proofs.lemmas.List.Sums.{position_or_len_is}
use Rattle.chart.specs.Names.{IsName}
use Rattle.texts.specs.Lines.{Lacks}
use Rattle.texts.proofs.Results.{name_has_no_semicolon, name_some}
use Rattle.msc_text.specs.Reader.LastWords.{semi}
use Rattle.msc_text.specs.Reader.Steps.{is_semicolon, is_other, name_part_at, name_part, is_plain}

either_not : (a b : Bool) (x y : Option (List ℕ)) (w : List ℕ) → cond (a || not b) None x ≡ Some w → (b ≡ true) × (x ≡ Some w)
either_not true b x y w e = cc
either_not false true x y w e = (refl, e)
either_not false false x y w e = cc

cut : (word name : List ℕ) (o : Option ℕ) → position is_semicolon word ≡ o → name_part_at word o ≡ Some name → word ≡ semi name
cut word name None is e = cc
cut word name (Some state) is e =
    let at = position-Some is_semicolon word state 0 is in
    let two = either_not (eqb state 0) (eqb (state + 1) (length word)) (Some (take state word)) None name e in
    let last : state + 1 ≡ length word = eqb-true _ _ two.0 in
    let byte : get_or word state 0 ≡ 59 = eqb-true _ _ at.1 in
    let front : take state word ≡ name = cc in
    let below : state < length word = at.0 in
    let none : drop (state + 1) word ≡ [] = drop_all (state + 1) word (omega arith) in
    let back : drop state word ≡ get_or word state 0 ∷ drop (state + 1) word = rw (add-one, drop-cons word state 0) refl in
    sym (take-append-drop state word) ∙ ap (λ l. l ++ drop state word) front ∙ ap (λ l. name ++ l) (back ∙ ap (λ b. b ∷ drop (state + 1) word) byte ∙ ap (λ l. 59 ∷ l) none)

-- the part before the semicolon and the semicolon are the word
pub before_is : (word name : List ℕ) → name_part word ≡ Some name → word ≡ semi name
unfolding name_part
before_is word name e = cut word name (position is_semicolon word) refl e

semicolon_at : (name : List ℕ) → Lacks 59 name → position_or_len is_semicolon (semi name) ≡ length name
semicolon_at name h =
    let each = All-from_recursion _ name h in
    let long : length (semi name) ≡ length name + 1 = length-append name (59 ∷ []) in
    position_or_len_is is_semicolon (semi name) (length name) 0 (omega arith)
    (λ k below. ap is_semicolon (get_or_append_left name (59 ∷ []) 0 k below) ∙ each k 0 below)
    (λ _. ap is_semicolon (get_or-append_seam name 59 [] 0))

found_at : (word : List ℕ) (state : ℕ) → position_or_len is_semicolon word ≡ state → state < length word → position is_semicolon word ≡ Some state
found_at word state is below = rw (is, lt-ltb state (length word) below) refl

-- a name is read before its semicolon
pub before_again : (name : List ℕ) → IsName name → name_part (semi name) ≡ Some name
unfolding name_part
before_again name h =
    let long : length (semi name) ≡ length name + 1 = length-append name (59 ∷ []) in
    let at = found_at (semi name) (length name) (semicolon_at name (name_has_no_semicolon name h)) (omega arith) in
    rw (at, name_some name h, long, eq-eqb (length name + 1) (length name + 1) refl, take-append_seam name (59 ∷ [])) refl

all_others : (word : List ℕ) → Lacks 59 word → list_all is_other word ≡ true
all_others [] h = refl
all_others (b ∷ word) h = ap (λ x. not x && list_all is_other word) h.0 ∙ all_others word h.1

-- a name has a byte, and has no semicolon
pub plain_again : (name : List ℕ) → IsName name → is_plain name ≡ true
unfolding is_plain
plain_again name h = ap (λ b. not b && list_all is_other name) (name_some name h) ∙ all_others name (name_has_no_semicolon name h)
