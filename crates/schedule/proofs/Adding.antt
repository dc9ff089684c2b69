-- Names that are added one by one, and the words of a line.
use Rattle.std.proofs.Common.{◌≡◌, ℕ, Bool, true, false, not, List, [], ◌∷◌, length, Option, Some, None, Result, Ok, Err, refl, sym, ap, subst, ◌∙◌, ◌&&◌, eqb, arith}
use Rattle.std.specs.Prelude.{MatchOption}
use Rattle.std.specs.List.{list_all}
use Rattle.std.proofs.lemmas.Bool.{ne_eqb, and_right, cond-false}
use Rattle.texts.proofs.Parts.{Cons, words_cons}
use Rattle.texts.specs.Faults.{in_line, Fails}
use Rattle.texts.specs.Lines.{words_of, name_or_cause, is_word}
use Rattle.texts.specs.declared.fault.Cause.{Cause}
use Rattle.texts.specs.declared.fault.Cause.TheVariants.{Syntax}
use Rattle.texts.specs.declared.fault.TextError.{TextError}
use Rattle.texts.specs.Instances.{with_name}
use Rattle.schedule.specs.FirstLines.{are_words, with_word, with_words, instances_of, instances_by, names_of}
use Rattle.schedule.specs.Keywords.{is_written}
use Rattle.schedule.specs.declared.keyword.ScheduleWord.TheVariants as keywords
use Rattle.texts.proofs.Results.{in_line_ok, bind_at, fails_in_line}

-- ---- words

-- a list with a first element is not empty
cons_is_some : {X : Type 0} (xs : List X) → Cons xs → not (eqb (length xs) 0) ≡ true
cons_is_some [] c = absurd (let is = c.is in cc)
cons_is_some (x ∷ xs) c = ap not (ne_eqb _ 0 (omega arith))

-- a line has words, so only their bytes matter
pub are_words_by : (line : List ℕ) (b : Bool) → list_all is_word (words_of line) ≡ b → are_words (words_of line) ≡ b
unfolding are_words
are_words_by line b e = ap (λ some. some && list_all is_word (words_of line)) (cons_is_some (words_of line) (words_cons line)) ∙ e

-- if the first word is empty, not all are words
pub empty_first : {X : Type 0} (f : X → List (List ℕ)) (o : Option X) (words : List (List ℕ)) (word : List ℕ) → MatchOption o (words ≡ word ∷ []) (λ more. words ≡ word ∷ f more) → eqb (length word) 0 ≡ true → list_all is_word words ≡ false
empty_first f None words word are empty = ap (list_all is_word) are ∙ ap (λ b. not b && true) empty
empty_first f (Some x) words word are empty = ap (list_all is_word) are ∙ ap (λ b. not b && list_all is_word (f x)) empty

-- if the first word isn't empty, the others decide
pub word_first : (words others : List (List ℕ)) (word : List ℕ) → words ≡ word ∷ others → eqb (length word) 0 ≡ false → list_all is_word words ≡ list_all is_word others
word_first words others word are some = ap (list_all is_word) are ∙ ap (λ b. not b && list_all is_word others) some

-- line 1 has at least one name
pub lone_keyword : (line keyword : List ℕ) → words_of line ≡ keyword ∷ [] → names_of line ≡ Err Syntax
unfolding names_of are_words
lone_keyword line keyword are = ap instances_by are ∙ cond-false (is_written keywords.Instances keyword && are_words []) (instances_of []) (Err Syntax) (and_right (is_written keywords.Instances keyword) (are_words []) refl)

-- ---- one name

-- the name of a word, and the result of adding it
pub with_word-by : (names : List (List ℕ)) (word name : List ℕ) (r : Result (List (List ℕ)) Cause) → in_line 1 (name_or_cause word) ≡ Ok name → with_name names name ≡ r → with_word names word ≡ r
unfolding with_word
with_word-by names word name r e f = bind_at _ (with_name names) name (in_line_ok 1 _ name e) ∙ f

-- ---- one word after another

-- the last word
pub words_end : (names new : List (List ℕ)) (word : List ℕ) → in_line 1 (with_word names word) ≡ Ok new → with_words names (word ∷ []) ≡ Ok new
unfolding with_words
words_end names new word e = bind_at _ (λ more. with_words more []) new (in_line_ok 1 _ new e)

-- a word, and those after it
pub words_go_on : (names new : List (List ℕ)) (word : List ℕ) (words : List (List ℕ)) → in_line 1 (with_word names word) ≡ Ok new → with_words names (word ∷ words) ≡ with_words new words
unfolding with_words
words_go_on names new word words e = bind_at _ (λ more. with_words more words) new (in_line_ok 1 _ new e)

-- a word that cannot name the next instance decides
pub words_stop : {X : Type 0} (f : X → List (List ℕ)) (error : TextError) (names : List (List ℕ)) (o : Option X) (words : List (List ℕ)) (word : List ℕ) (total : Result (List (List ℕ)) Cause)
    → MatchOption o (words ≡ word ∷ []) (λ more. words ≡ word ∷ f more) → with_words names words ≡ total → Fails error (in_line 1 (with_word names word)) → Fails error (in_line 1 total)
unfolding with_words
words_stop f error names None words word total are so_far h =
    subst (λ r. Fails error (in_line 1 r)) (sym (ap (with_words names) are) ∙ so_far) (fails_in_line 1 error (with_word names word) (λ more. with_words more []) h)
words_stop f error names (Some x) words word total are so_far h =
    subst (λ r. Fails error (in_line 1 r)) (sym (ap (with_words names) are) ∙ so_far) (fails_in_line 1 error (with_word names word) (λ more. with_words more (f x)) h)
