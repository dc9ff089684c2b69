-- Among more names than there may be instances there is one that no instance has.
use Rattle.std.proofs.Common.{◌≡◌, ◌≢◌, ℕ, ◌<◌, ◌≤◌, Bool, true, false, cond, not, ◌||◌, ◌&&◌, List, [], ◌∷◌, length, Contains, refl, sym, ap, ◌∙◌, arith}
use Rattle.std.specs.Prelude.{codes, bytes_eq}
use Rattle.std.specs.List.{list_any, AllByRecursion}
use Rattle.std.specs.Cmp.Lexicographic.{bytes_decides}
use Rattle.std.proofs.lemmas.Bool.{false≢true, and_parts}
use Rattle.chart.proofs.NameLists.{Contains-found}
use Rattle.chart.specs.Keywords.{spelled, is_keyword, is_reserved}
use Rattle.chart.specs.Names.{IsName, name_of}
use Rattle.chart.specs.declared.instance.TheConstants.{MAX_INSTANCES}
use Rattle.texts.proofs.Lookups.{same_bytes}

-- ---- words without one of them

abbrev without : List ℕ → List (List ℕ) → List (List ℕ)
without word [] = []
without word (other ∷ words) = cond (bytes_eq word other) (without word words) (other ∷ without word words)

without_few : (word : List ℕ) (words : List (List ℕ)) → length (without word words) ≤ length words
without_few word [] = omega arith
without_few word (other ∷ words) = by (bytes_eq word other) (without_few word words)
  where
    by : (b : Bool) → length (without word words) ≤ length words → length (cond b (without word words) (other ∷ without word words)) ≤ length (other ∷ words)
    by true h = omega arith
    by false h = omega arith

without_less : (word : List ℕ) (words : List (List ℕ)) → list_any (bytes_eq word) words ≡ true → length (without word words) < length words
without_less word [] e = absurd (false≢true e)
without_less word (other ∷ words) e = by (bytes_eq word other) e (without_few word words) (λ h. without_less word words h)
  where
    by : (b : Bool) → (b || list_any (bytes_eq word) words) ≡ true → length (without word words) ≤ length words → (list_any (bytes_eq word) words ≡ true → length (without word words) < length words)
        → length (cond b (without word words) (other ∷ without word words)) < length (other ∷ words)
    by true e h go = omega arith
    by false e h go = let less = go e in omega arith

without_other : (word v : List ℕ) (words : List (List ℕ)) → bytes_eq v word ≡ false → list_any (bytes_eq v) (without word words) ≡ list_any (bytes_eq v) words
without_other word v [] other = refl
without_other word v (x ∷ words) other = by (bytes_eq word x) refl (without_other word v words other)
  where
    by : (b : Bool) → bytes_eq word x ≡ b → list_any (bytes_eq v) (without word words) ≡ list_any (bytes_eq v) words
        → list_any (bytes_eq v) (cond b (without word words) (x ∷ without word words)) ≡ (bytes_eq v x || list_any (bytes_eq v) words)
    by true e h = h ∙ sym (ap (λ b. b || list_any (bytes_eq v) words) (ap (bytes_eq v) (sym (same_bytes word x e)) ∙ other))
    by false e h = ap (λ b. bytes_eq v x || b) h

-- ---- words of which none is there twice

abbrev distinct : List (List ℕ) → Bool
distinct [] = true
distinct (word ∷ words) = not (list_any (bytes_eq word) words) && distinct words

-- one of the words, which isn't among the names
pub record IsFresh (words names : List (List ℕ)) : Type 0 where
  pub name : List ℕ
  pub named : IsName name
  pub among : list_any (bytes_eq name) words ≡ true
  pub new : list_any (bytes_eq name) names ≡ false

or_true : (b : Bool) → (b || true) ≡ true
or_true true = refl
or_true false = refl

not_both : (b : Bool) → not b ≡ true → b ≡ true → ⊥
not_both true h e = false≢true h
not_both false h e = false≢true e

same_word : (word : List ℕ) → bytes_eq word word ≡ true
same_word word = (bytes_decides word word).1 refl

fresh_among : (words names : List (List ℕ)) → AllByRecursion IsName words → distinct words ≡ true → length names < length words → IsFresh words names
fresh_among [] names are apart few = absurd (omega arith)
fresh_among (word ∷ words) names are apart few =
    by (list_any (bytes_eq word) names) refl (λ h. fresh_among words (without word names) are.1 (and_parts (not (list_any (bytes_eq word) words)) (distinct words) apart).1 h)
  where
    by : (b : Bool) → list_any (bytes_eq word) names ≡ b → (length (without word names) < length words → IsFresh words (without word names)) → IsFresh (word ∷ words) names
    by false e go = record { name = word; named = are.0; among = ap (λ b. b || list_any (bytes_eq word) words) (same_word word); new = e }
    by true e go =
        let less = without_less word names e in
        let f = go (omega arith) in
        let other : bytes_eq f.name word ≡ false = apart_from f (bytes_eq f.name word) refl in
        record {
          name = f.name;
          named = f.named;
          among = ap (λ b. bytes_eq f.name word || b) f.among ∙ or_true (bytes_eq f.name word);
          new = sym (without_other word f.name names other) ∙ f.new;
        }
      where
        apart_from : (f : IsFresh words (without word names)) (b : Bool) → bytes_eq f.name word ≡ b → bytes_eq f.name word ≡ false
        apart_from f false e = e
        apart_from f true e =
            absurd (not_both (list_any (bytes_eq word) words) (and_parts (not (list_any (bytes_eq word) words)) (distinct words) apart).0 (ap (λ w. list_any (bytes_eq w) words) (sym (same_bytes f.name word e)) ∙ f.among))

-- ---- one name more than there may be instances

abbrev pub many : List (List ℕ)
many =
    codes "a" ∷ codes "b" ∷ codes "c" ∷ codes "d" ∷ codes "e" ∷ codes "f" ∷ codes "g" ∷ codes "h" ∷ codes "i" ∷ codes "j" ∷ codes "k"
    ∷ codes "l" ∷ codes "m" ∷ codes "n" ∷ codes "o" ∷ codes "p" ∷ codes "q" ∷ codes "r" ∷ codes "s" ∷ codes "t" ∷ codes "u" ∷ codes "v"
    ∷ codes "w" ∷ codes "x" ∷ codes "y" ∷ codes "z" ∷ codes "A" ∷ codes "B" ∷ codes "C" ∷ codes "D" ∷ codes "E" ∷ codes "F" ∷ codes "G" ∷ []

are_named : AllByRecursion IsName many
unfolding name_of is_reserved is_keyword spelled
are_named = (
  refl,
  (refl, (refl, (refl, (refl, (refl, (refl, (refl, (refl, (refl, (refl, (refl, (refl, (refl, (refl, (refl, (refl, (refl, (refl, (refl, (refl, (refl, (refl, (refl, (refl, (refl, (refl, (refl, (refl, (refl, (refl, (refl, (refl, tt)))))))))))))))))))))))))))))))),
)

are_distinct : distinct many ≡ true
are_distinct = refl

-- a name that no instance has
pub fresh : (names : List (List ℕ)) → length names ≤ MAX_INSTANCES → IsFresh many names
fresh names few = fresh_among many names are_named are_distinct (omega arith)

pub a_named : IsName (codes "a")
unfolding name_of is_reserved is_keyword spelled
a_named = refl

pub b_named : IsName (codes "b")
unfolding name_of is_reserved is_keyword spelled
b_named = refl

-- a name that isn't there isn't found
pub not_found : (names : List (List ℕ)) (name : List ℕ) → (Contains names name → ⊥) → list_any (bytes_eq name) names ≡ false
not_found names name absent = by (list_any (bytes_eq name) names) refl
  where
    by : (b : Bool) → list_any (bytes_eq name) names ≡ b → list_any (bytes_eq name) names ≡ false
    by true e = absurd (absent (Contains-found names name e))
    by false e = e

pub not_same : (a b : List ℕ) → a ≢ b → bytes_eq a b ≡ false
not_same a b other = by (bytes_eq a b) refl
  where
    by : (x : Bool) → bytes_eq a b ≡ x → bytes_eq a b ≡ false
    by true e = absurd (other (same_bytes a b e))
    by false e = e
