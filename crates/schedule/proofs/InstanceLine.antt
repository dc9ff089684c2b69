-- Line 1, the instances' names: names that are read have this line, and such a line is read. Laws only about lists.
use Rattle.std.proofs.Common.{◌≡◌, ℕ, ◌≤◌, ◌<◌, true, not, ◌&&◌, eqb, ltb, List, [], ◌∷◌, ◌++◌, length, Some, Ok, Err, All, Contains, refl, sym, ap, ◌∙◌, subst, arith, append_assoc, append-nil}
use Rattle.std.specs.Prelude.{slice_get}
use Rattle.std.specs.List.{AllByRecursion, list_all}
use Rattle.std.proofs.lemmas.Bool.{ne_eqb, ltb-false, le-ltb, and_parts, and_from, cond-true, cond-false}
use Rattle.std.proofs.lemmas.List.{length-append}
use Rattle.std.proofs.lemmas.List.Elements.{All-from_recursion, recursion_from_All}
use Rattle.std.proofs.lemmas.Option.{slice_get-get_or}
use Rattle.std.proofs.Math.Seq.{get_or-append_seam}
use Rattle.chart.proofs.Places.{slice_get-append}
use Rattle.chart.specs.Names.{IsName}
use Rattle.chart.specs.NameSets.{AreNames}
use Rattle.chart.specs.declared.instance.TheConstants.{MAX_INSTANCES}
use Rattle.texts.proofs.Lookups.{same_bytes}
use Rattle.texts.proofs.Results.{bind_ok, bind_at, guard_ok, name_is, name_again, name_some, when_ok, ok_is}
use Rattle.texts.specs.Lines.{words_of, name_or_cause, Lacks, is_word}
use Rattle.texts.specs.declared.fault.Cause.TheVariants.{Instances, Syntax}
use Rattle.texts.specs.Instances.{with_name}
use Rattle.schedule.specs.FirstLines.{are_words, with_word, with_words, several, instances_of, instances_by, names_of}
use Rattle.schedule.specs.Keywords.{written, is_written}
use Rattle.schedule.specs.declared.keyword.ScheduleWord.TheVariants as keywords
use Rattle.schedule.proofs.PlainWords.{plain_written}
use Rattle.schedule.specs.ScheduleText.{instances_line, spaced}
use Rattle.texts.proofs.NewNames.{with_name-ok, with_name-names}
use Rattle.texts.proofs.Spacing.{ArePlain, plain_names, spaced_again, spaced_lacks, is_spaced}

-- ---- names that are read have this line

-- an empty list is a list of names
no_names : AreNames []
no_names = record { limit = omega arith; distinct = λ i j w here there. absurd cc }

-- the words were added after the earlier names, and are names
record AreGiven (names words new : List (List ℕ)) : Type 0 where
  pub are : AreNames new
  pub named : AllByRecursion IsName words
  pub behind : new ≡ names ++ words

-- a new name, from its word
with_word-given : (names : List (List ℕ)) (word : List ℕ) (new : List (List ℕ)) → AreNames names → with_word names word ≡ Ok new → AreNames new × IsName word × (new ≡ names ++ word ∷ [])
unfolding with_word
with_word-given names word new old e =
    let a = bind_ok (name_or_cause word) (with_name names) new e in
    let name = name_is word a.0 a.1 in
    let given = with_name-names names a.0 new old a.2 in
    (given.0, name.1, given.1 ∙ ap (λ w. names ++ w ∷ []) name.0)

-- new names, from many words
with_words-given : (names words new : List (List ℕ)) → AreNames names → with_words names words ≡ Ok new → AreGiven names words new
unfolding with_words
with_words-given names [] new old e =
    let same : names ≡ new = ok_is names new e in
    record { are = subst AreNames same old; named = tt; behind = sym same ∙ sym (append-nil names) }
with_words-given names (word ∷ words) new old e =
    let a = bind_ok (with_word names word) (λ more. with_words more words) new e in
    let one = with_word-given names word a.0 old a.1 in
    let more = with_words-given a.0 words new one.0 a.2 in
    record { are = more.are; named = (one.1, more.named); behind = more.behind ∙ ap (λ l. l ++ words) one.2 ∙ append_assoc names (word ∷ []) words }

-- line 1 has these names
pub record AreInstances (line : List ℕ) (names : List (List ℕ)) : Type 0 where
  pub several : 2 ≤ length names
  pub are : AreNames names
  pub named : All IsName names
  pub is : line ≡ instances_line names

instances_of-given : (words names : List (List ℕ)) → instances_of words ≡ Ok names → (2 ≤ length names) × AreGiven [] words names
instances_of-given words names e =
    let a = bind_ok (with_words [] words) several names e in
    let b = guard_ok (ltb (length a.0) 2) Instances (Ok a.0) names a.2 in
    let P : List (List ℕ) → Type 0 = λ n. (2 ≤ length n) × AreGiven [] words n in
    subst P (ok_is a.0 names b.1) (ltb-false (length a.0) 2 b.0, with_words-given [] words a.0 no_names a.1)

-- the same with the keyword
instances_by-sound : (line : List ℕ) (words names : List (List ℕ)) → line ≡ spaced words → instances_by words ≡ Ok names → AreInstances line names
unfolding is_written
instances_by-sound line [] names is e = absurd cc
instances_by-sound line (keyword ∷ words) names is e =
    let a = when_ok (is_written keywords.Instances keyword && are_words words) Syntax (instances_of words) names e in
    let given = instances_of-given words names a.1 in
    let same : keyword ≡ written keywords.Instances = same_bytes keyword (written keywords.Instances) (and_parts (is_written keywords.Instances keyword) (are_words words) a.0).0 in
    let behind : names ≡ words = given.1.behind in
    record {
      several = given.0;
      are = given.1.are;
      named = subst (All IsName) (sym behind) (All-from_recursion IsName words given.1.named);
      is = is ∙ ap (λ w. spaced (w ∷ words)) same ∙ ap (λ l. spaced (written keywords.Instances ∷ l)) (sym behind);
    }

-- the same from the line
pub names_sound : (line : List ℕ) (names : List (List ℕ)) → names_of line ≡ Ok names → AreInstances line names
unfolding names_of
names_sound line names e = instances_by-sound line (words_of line) names (is_spaced line) e

-- ---- the line of names is read

-- a name that follows others is not among them
behind_others : (names : List (List ℕ)) (name : List ℕ) (others : List (List ℕ)) → AreNames (names ++ name ∷ others) → Contains names name → ⊥
behind_others names name others are there =
    let i : ℕ = there.0 in
    let inside : i < length names = there.1 in
    let longer = length-append names (name ∷ others) in
    let here : slice_get (names ++ name ∷ others) i ≡ Some name = slice_get-append names (name ∷ others) i inside ∙ slice_get-get_or names i name inside ∙ ap Some there.2 in
    let within : length names < length (names ++ name ∷ others) = omega arith in
    let last : slice_get (names ++ name ∷ others) (length names) ≡ Some name = slice_get-get_or (names ++ name ∷ others) (length names) name within ∙ ap Some (get_or-append_seam names name others name) in
    let same : i ≡ length names = are.distinct i (length names) name here last in
    omega arith

with_words-again : (names words : List (List ℕ)) → AreNames (names ++ words) → AllByRecursion IsName words → with_words names words ≡ Ok (names ++ words)
unfolding with_words with_word
with_words-again names [] are named = ap Ok (sym (append-nil names))
with_words-again names (word ∷ words) are named =
    let limit = are.limit in
    let longer = length-append names (word ∷ words) in
    let room : length names ≡ MAX_INSTANCES → ⊥ = λ full. omega arith in
    let new : with_word names word ≡ Ok (names ++ word ∷ []) =
    bind_at (name_or_cause word) (with_name names) word (name_again word named.0) ∙ with_name-ok names word (behind_others names word words are) room in
    let regrouped : (names ++ word ∷ []) ++ words ≡ names ++ word ∷ words = append_assoc names (word ∷ []) words in
    bind_at (with_word names word) (λ more. with_words more words) (names ++ word ∷ []) new
    ∙ with_words-again (names ++ word ∷ []) words (subst AreNames (sym regrouped) are) named.1 ∙ ap Ok regrouped

each_is_word : (words : List (List ℕ)) → AllByRecursion IsName words → list_all is_word words ≡ true
each_is_word [] named = refl
each_is_word (word ∷ words) named = and_from (is_word word) (list_all is_word words) (ap not (name_some word named.0)) (each_is_word words named.1)

are_words_again : (words : List (List ℕ)) → 2 ≤ length words → AllByRecursion IsName words → are_words words ≡ true
unfolding are_words
are_words_again words some named = and_from (not (eqb (length words) 0)) (list_all is_word words) (ap not (ne_eqb (length words) 0 (λ none. omega arith))) (each_is_word words named)

instances_again : (names : List (List ℕ)) → 2 ≤ length names → AreNames names → AllByRecursion IsName names → instances_by (written keywords.Instances ∷ names) ≡ Ok names
unfolding is_written written
instances_again names some are named =
    cond-true (is_written keywords.Instances (written keywords.Instances) && are_words names) (instances_of names) (Err Syntax) (and_from (is_written keywords.Instances (written keywords.Instances)) (are_words names) refl (are_words_again names some named))
    ∙ bind_at (with_words [] names) several names (with_words-again [] names are named) ∙ cond-false (ltb (length names) 2) (Err Instances) (Ok names) (le-ltb (length names) 2 some)

plain_line : (names : List (List ℕ)) → All IsName names → ArePlain (written keywords.Instances ∷ names)
plain_line names named = (plain_written keywords.Instances, plain_names names named)

-- the names of their own line 1
pub names_again : (names : List (List ℕ)) → 2 ≤ length names → AreNames names → All IsName names → names_of (instances_line names) ≡ Ok names
unfolding names_of
names_again names some are named =
    ap instances_by (spaced_again (written keywords.Instances) names (plain_line names named)) ∙ instances_again names some are (recursion_from_All IsName names named)

pub instances_lack : (names : List (List ℕ)) → All IsName names → Lacks 10 (instances_line names)
instances_lack names named = spaced_lacks (written keywords.Instances ∷ names) (plain_line names named)
