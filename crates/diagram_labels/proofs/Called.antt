-- The name of a new label: it is valid, and there is only one.
use Rattle.std.proofs.Common.{◌≡◌, ℕ, zero, suc, ◌+◌, ◌^◌, ◌≤◌, ◌<◌, Bool, true, false, List, ◌++◌, length, nat_lt, ltb-true, cond, refl, sym, ap, ◌∙◌, subst, arith}
use Rattle.std.specs.Prelude.{MatchBool}
use Rattle.std.proofs.lemmas.Bool.Decides.{nat_tests}
use Rattle.std.proofs.lemmas.List.Folds.{list_any-append}
use borrow.Author.Count.{below_more}
use Rattle.chart.specs.Names.{IsName}
use Rattle.diagram_labels.specs.Giving.{is_given, numbered, IsLeastFree, IsFreeNumbered, IsCalled, free_from, called}
use Rattle.diagram_labels.specs.Hints.{AreTaken}
use Rattle.diagram_labels.proofs.Free.{taken_fit}
use Rattle.diagram_labels.proofs.Kept.{name_is_word}
use Rattle.diagram_labels.proofs.Numbered.{numbered_is_name}

-- one more number is taken
pub taken_more : (names : List (List ℕ)) (word : List ℕ) (number : ℕ) → AreTaken names word number → is_given names (numbered word number) ≡ true → AreTaken names word (number + 1)
taken_more names word number taken here =
    λ k two below. below_more (λ j. 2 ≤ j → is_given names (numbered word j) ≡ true) number (λ j l t. taken j t l) (λ t. here) k below two

-- a taken name stays taken
pub given_more : (names more : List (List ℕ)) (name : List ℕ) → is_given names name ≡ true → is_given (names ++ more) name ≡ true
given_more names more name h = list_any-append _ names more ∙ rw h refl

few : (names : List (List ℕ)) (word : List ℕ) (number : ℕ) (b : Bool) → nat_lt (2 ^ 64) number ≡ b → length names < 2 ^ 63 → AreTaken names word number → number ≤ length names + 2
few names word number true e l taken =
    let more : 2 ^ 64 < number = ltb-true _ _ e in
    let fit = taken_fit names word (2 ^ 64) (omega arith) (λ k t below. taken k t (omega arith)) in
    absurd (omega (arith, fit))
few names word number false e l taken = taken_fit names word number (grind (arith, nat_tests)) taken

-- at most as many numbers are taken as there are names
pub taken_few : (names : List (List ℕ)) (word : List ℕ) (number : ℕ) → length names < 2 ^ 63 → AreTaken names word number → number ≤ length names + 2
taken_few names word number l taken = few names word number (nat_lt (2 ^ 64) number) refl l taken

named : (names : List (List ℕ)) (word name : List ℕ) (b : Bool) → is_given names word ≡ b → length names < 2 ^ 63 → IsName word → MatchBool b (IsFreeNumbered names word name) (name ≡ word) → IsName name
named names word name true e l h c =
    let small = taken_few names word c.0 l c.2.least in
    subst IsName (sym c.1) (numbered_is_name word c.0 (name_is_word word h) (omega (arith, small)))
named names word name false e l h c = subst IsName (sym c) h

-- the name of a label is a valid name
pub called_is_name : (names : List (List ℕ)) (word name : List ℕ) → length names < 2 ^ 63 → IsName word → IsCalled names word name → IsName name
called_is_name names word name l h c = named names word name (is_given names word) refl l h c

step : (names : List (List ℕ)) (word : List ℕ) (number more : ℕ) (b : Bool) → is_given names (numbered word number) ≡ b → 2 ≤ number → AreTaken names word number
    → (b ≡ true → IsLeastFree names word (free_from names word more (number + 1)))
    → IsLeastFree names word (cond b (free_from names word more (number + 1)) number)
step names word number more true e two taken found = found refl
step names word number more false e two taken found = record { from_two = two; free = e; least = taken }

last : (names : List (List ℕ)) (word : List ℕ) (number : ℕ) (b : Bool) → is_given names (numbered word number) ≡ b → length names < 2 ^ 63 → length names + 2 ≤ number → AreTaken names word number → b ≡ false
last names word number true e l all taken =
    let few = taken_few names word (number + 1) l (taken_more names word number taken e) in
    absurd (omega (arith, few))
last names word number false e l all taken = refl

found : (names : List (List ℕ)) (word : List ℕ) (more number : ℕ) → length names < 2 ^ 63 → length names + 2 ≤ number + more → 2 ≤ number → AreTaken names word number
    → IsLeastFree names word (free_from names word more number)
unfolding free_from
found names word zero number l all two taken =
    record { from_two = two; free = last names word number (is_given names (numbered word number)) refl l (omega arith) taken; least = taken }
found names word (suc more) number l all two taken =
    step names word number more (is_given names (numbered word number)) refl two taken
    (λ e. found names word more (number + 1) l (omega arith) (omega arith) (taken_more names word number taken e))

below : (names : List (List ℕ)) (word : List ℕ) (one other : ℕ) (b : Bool) → nat_lt one other ≡ b → IsLeastFree names word one → IsLeastFree names word other → b ≡ false
below names word one other true e a c = sym (c.least one a.from_two (ltb-true _ _ e)) ∙ a.free
below names word one other false e a c = refl

one_number : (names : List (List ℕ)) (word : List ℕ) (one other : ℕ) → IsLeastFree names word one → IsLeastFree names word other → one ≡ other
one_number names word one other a c =
    let up = below names word one other (nat_lt one other) refl a c in
    let down = below names word other one (nat_lt other one) refl c a in
    grind (arith, nat_tests)

-- the least number that makes the word free is found
pub least_is : (names : List (List ℕ)) (word : List ℕ) (number : ℕ) → length names < 2 ^ 63 → IsLeastFree names word number → number ≡ free_from names word (length names) 2
least_is names word number l least =
    one_number names word number _ least (found names word (length names) 2 l (omega arith) (omega arith) (λ k two below. absurd (omega arith)))

so : (names : List (List ℕ)) (word : List ℕ) (b : Bool) → is_given names word ≡ b → length names < 2 ^ 63
    → MatchBool b (IsFreeNumbered names word (cond b (numbered word (free_from names word (length names) 2)) word)) (cond b (numbered word (free_from names word (length names) 2)) word ≡ word)
so names word true e l =
    (free_from names word (length names) 2, refl, found names word (length names) 2 l (omega arith) (omega arith) (λ k two below. absurd (omega arith)))
so names word false e l = refl

-- a label has the computed name
pub called_so : (names : List (List ℕ)) (word : List ℕ) → length names < 2 ^ 63 → IsCalled names word (called names word)
unfolding called
called_so names word l = so names word (is_given names word) refl l

one_name : (names : List (List ℕ)) (word one other : List ℕ) (b : Bool) → MatchBool b (IsFreeNumbered names word one) (one ≡ word) → MatchBool b (IsFreeNumbered names word other) (other ≡ word) → one ≡ other
one_name names word one other true a c = a.1 ∙ ap (numbered word) (one_number names word a.0 c.0 a.2 c.2) ∙ sym c.1
one_name names word one other false a c = a ∙ sym c

-- a label has no other name
pub called_one : (names : List (List ℕ)) (word name : List ℕ) → length names < 2 ^ 63 → IsCalled names word name → name ≡ called names word
called_one names word name l c = one_name names word name (called names word) (is_given names word) c (called_so names word l)
