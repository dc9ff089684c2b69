-- Columns that are named one after the other.
use Rattle.std.proofs.Common.{◌≡◌, ℕ, zero, suc, ◌+◌, ◌≤◌, ◌<◌, Bool, true, false, ◌||◌, List, [], ◌∷◌, ◌++◌, length, map, Option, None, Some, Result, Ok, Err, refl, sym, ap, subst, ◌∙◌, eq-eqb, append_assoc, arith}
use Rattle.std.specs.Prelude.{nat_eq, MatchOption}
use Rattle.std.specs.Cmp.{nat_eq_equiv}
use Rattle.std.specs.List.{list_any, IsDistinct, AllByRecursion, range_with_len}
use Rattle.std.proofs.lemmas.Bool.{false≢true, ne_eqb}
use Rattle.std.proofs.lemmas.List.{map-append, append-nil}
use Rattle.std.proofs.lemmas.Map.Keys.{IsDistinct-head, IsDistinct-tail, IsDistinct-cons, IsDistinct-push}
use Rattle.std.proofs.lemmas.Map.Steps.{length-le_from_distinct_below}
use Rattle.texts.specs.Lines.{name_or_cause}
use Rattle.texts.specs.declared.fault.Cause.{Cause}
use Rattle.texts.proofs.Lookups.{instance_is}
use Rattle.cmd_base.specs.declared.error.ProgramError.TheVariants.{Usage, File, Memory, Text, ReceiveWithoutSend, NameMismatch, Cyclic, Write}
use Rattle.cmd_base.specs.declared.columns.error.ColumnError.{ColumnError}
use Rattle.cmd_base.specs.declared.columns.error.ColumnError.TheVariants.{Program, NoSuchName}
use Rattle.cmd_base.specs.Columns.Columns.{AreNamed, IsNext, IsNone, RefusesNext, RefusesNamed}
use Rattle.cmd_base.specs.Named.Asked.{named_so, instance_named}

-- the first of the words name these columns, and the rest have yet to be read
pub record AreSoFar (names all rest : List (List ℕ)) (columns : List ℕ) : Type 0 where
  pub passed : List (List ℕ)
  pub are : all ≡ passed ++ rest
  pub so_far : AreNamed names passed columns

pub none_passed : (names all : List (List ℕ)) → AreSoFar names all all []
unfolding IsDistinct
none_passed names all = record {
  passed = [];
  are = refl;
  so_far = record { each = refl; once = tt };
}

pub one_more : (names all : List (List ℕ)) (word : List ℕ) (rest : List (List ℕ)) (old new : List ℕ) → AreSoFar names all (word ∷ rest) old → IsNext names word old new → AreSoFar names all rest new
one_more names all word rest old new so_far next = record {
  passed = so_far.passed ++ word ∷ [];
  are = so_far.are ∙ sym (append_assoc so_far.passed (word ∷ []) rest);
  so_far = record {
    each = map-append (instance_named names) so_far.passed (word ∷ []) ∙ ap (λ l. l ++ instance_named names word ∷ []) so_far.so_far.each
        ∙ ap (λ o. map Some old ++ o ∷ []) next.named_is ∙ sym (map-append (λ (p : ℕ). Some p) old (next.instance ∷ [])) ∙ ap (map Some) (sym next.is);
    once = subst (IsDistinct nat_eq) (sym next.is) (IsDistinct-push nat_eq_equiv old next.instance so_far.so_far.once next.once);
  };
}

pub all_passed : (names all : List (List ℕ)) (columns : List ℕ) → AreSoFar names all [] columns → AreNamed names all columns
all_passed names all columns so_far = subst (λ ws. AreNamed names ws columns) (sym (so_far.are ∙ append-nil so_far.passed)) so_far.so_far

-- the columns after those so far: the next word's instance, and others
record Onward (named : Option ℕ) (old columns : List ℕ) : Type 0 where
  pub instance : ℕ
  pub others : List ℕ
  pub are : columns ≡ old ++ instance ∷ others
  pub is : named ≡ Some instance

consed : (x y : ℕ) (xs ys : List ℕ) → x ≡ y → xs ≡ ys → x ∷ xs ≡ y ∷ ys
consed x y xs ys head tail = cc

onward : (f : List ℕ → Option ℕ) (passed : List (List ℕ)) (word : List ℕ) (rest : List (List ℕ)) (old columns : List ℕ) → map f passed ≡ map Some old → map f (passed ++ word ∷ rest) ≡ map Some columns → Onward (f word) old columns
onward f [] word rest [] [] a b = cc
onward f [] word rest [] (x ∷ xs) a b = record { instance = x; others = xs; are = refl; is = cc }
onward f [] word rest (o ∷ os) columns a b = cc
onward f (p ∷ ps) word rest [] columns a b = cc
onward f (p ∷ ps) word rest (o ∷ os) [] a b = cc
onward f (p ∷ ps) word rest (o ∷ os) (x ∷ xs) a b =
    let same : x ≡ o = cc in
    let before : map f ps ≡ map Some os = cc in
    let whole : map f (ps ++ word ∷ rest) ≡ map Some xs = cc in
    let more = onward f ps word rest os xs before whole in
    record { instance = more.instance; others = more.others; are = consed x o xs (os ++ more.instance ∷ more.others) same more.are; is = more.is }

in_middle : (P : ℕ → Type 0) (before : List ℕ) (p : ℕ) (after : List ℕ) → AllByRecursion P (before ++ p ∷ after) → P p
in_middle P [] p after all = all.0
in_middle P (x ∷ before) p after all = in_middle P before p after all.1

-- one of two tests passes
either : (X : Type 0) (b c : Bool) → (b || c) ≡ true → (b ≡ true → X) → (c ≡ true → X) → X
either X true c e first second = first refl
either X false c e first second = second e

equal : (a b : ℕ) → nat_eq a b ≡ true → a ≡ b
equal a b e = grind arith

twice : (p : ℕ) (old others : List ℕ) → list_any (nat_eq p) old ≡ true → IsDistinct nat_eq (old ++ p ∷ others) → ⊥
twice p [] others there once = false≢true there
twice p (o ∷ old) others there once =
    either ⊥ (nat_eq p o) (list_any (nat_eq p) old) there
    (λ same. false≢true (sym (in_middle (λ y. nat_eq o y ≡ false) old p others (IsDistinct-head nat_eq o (old ++ p ∷ others) once)) ∙ eq-eqb o p (sym (equal p o same))))
    (λ later. twice p old others later (IsDistinct-tail nat_eq o (old ++ p ∷ others) once))

refused : (named : Option ℕ) (old columns : List ℕ) → Onward named old columns → IsNone named old → IsDistinct nat_eq columns → ⊥
refused None old columns on none once = let is = on.is in cc
refused (Some p) old columns on none once =
    let is = on.is in
    let same : on.instance ≡ p = cc in
    twice p old on.others none (subst (IsDistinct nat_eq) (on.are ∙ ap (λ x. old ++ x ∷ on.others) same) once)

pub none_else : (names all : List (List ℕ)) (word : List ℕ) (rest : List (List ℕ)) (old columns : List ℕ) → AreSoFar names all (word ∷ rest) old → IsNone (instance_named names word) old → AreNamed names all columns → ⊥
none_else names all word rest old columns so_far none are =
    refused (instance_named names word) old columns
    (onward (instance_named names) so_far.passed word rest old columns so_far.so_far.each (sym (ap (map (instance_named names)) so_far.are) ∙ are.each))
    none are.once

-- so the refusal of the next word refuses all words
pub refuses : (names all : List (List ℕ)) (word : List ℕ) (rest : List (List ℕ)) (old : List ℕ) → AreSoFar names all (word ∷ rest) old → (error : ColumnError) → RefusesNext names word old error → RefusesNamed names all error
refuses names all word rest old so_far NoSuchName none = λ columns are. none_else names all word rest old columns so_far none are
refuses names all word rest old so_far (Program Memory) none = tt
refuses names all word rest old so_far (Program Usage) none = absurd none
refuses names all word rest old so_far (Program File) none = absurd none
refuses names all word rest old so_far (Program (Text fault)) none = absurd none
refuses names all word rest old so_far (Program (ReceiveWithoutSend p index)) none = absurd none
refuses names all word rest old so_far (Program (NameMismatch p index)) none = absurd none
refuses names all word rest old so_far (Program Cyclic) none = absurd none
refuses names all word rest old so_far (Program Write) none = absurd none

-- a first word was cut off, whether or not more words follow
pub cut_off : {X : Type 0} (view : X → List (List ℕ)) (words : List (List ℕ)) (word : List ℕ) (more : Option X) → MatchOption more (words ≡ word ∷ []) (λ rest. words ≡ word ∷ view rest) → (rest : List (List ℕ)) × (words ≡ word ∷ rest)
cut_off view words word None e = ([], e)
cut_off view words word (Some rest) e = (view rest, e)

-- one more number
pub range_next : (a n : ℕ) → range_with_len a (suc n) ≡ range_with_len a n ++ (a + n) ∷ []
range_next a zero = ap (λ x. x ∷ []) (omega arith)
range_next a (suc n) =
    let same : (a + 1) + n ≡ a + suc n = omega arith in
    ap (λ l. a ∷ l) (range_next (a + 1) n) ∙ ap (λ x. a ∷ (range_with_len (a + 1) n ++ x ∷ [])) same

exits_so : (names : List (List ℕ)) (r : Result (List ℕ) Cause) (p : ℕ) → named_so names r ≡ Some p → (1 ≤ p) × (p ≤ length names)
exits_so names (Ok name) p e = let named = instance_is names name p e in (named.first, named.last)
exits_so names (Err cause) p e = cc

within : (names words : List (List ℕ)) (columns : List ℕ) → map (instance_named names) words ≡ map Some columns → (q : ℕ) → list_any (nat_eq q) columns ≡ true → q ≤ length names
within names words [] each q there = absurd (false≢true there)
within names [] (p ∷ columns) each q there = cc
within names (word ∷ words) (p ∷ columns) each q there =
    let named_is : instance_named names word ≡ Some p = cc in
    let others : map (instance_named names) words ≡ map Some columns = cc in
    either (q ≤ length names) (nat_eq q p) (list_any (nat_eq q) columns) there
    (λ same. let is = equal q p same in let last = (exits_so names (name_or_cause word) p named_is).1 in omega arith)
    (λ later. within names words columns others q later)

none_is_zero : (names words : List (List ℕ)) (columns : List ℕ) → map (instance_named names) words ≡ map Some columns → AllByRecursion (λ y. nat_eq 0 y ≡ false) columns
none_is_zero names words [] each = tt
none_is_zero names [] (p ∷ columns) each = cc
none_is_zero names (word ∷ words) (p ∷ columns) each =
    let named_is : instance_named names word ≡ Some p = cc in
    let others : map (instance_named names) words ≡ map Some columns = cc in
    let first = (exits_so names (name_or_cause word) p named_is).0 in
    (ne_eqb 0 p (λ e. omega arith), none_is_zero names words columns others)

-- there are at most as many columns as names
pub few : (names words : List (List ℕ)) (columns : List ℕ) → AreNamed names words columns → length columns ≤ length names
few names words columns are =
    let below : (q : ℕ) → list_any (nat_eq q) (0 ∷ columns) ≡ true → q < suc (length names) =
    λ q there. either (q < suc (length names)) (nat_eq q 0) (list_any (nat_eq q) columns) there
    (λ same. let is = equal q 0 same in omega arith)
    (λ later. let last = within names words columns are.each q later in omega arith) in
    let most : length (0 ∷ columns) ≤ suc (length names) = length-le_from_distinct_below (0 ∷ columns) (suc (length names)) (IsDistinct-cons nat_eq 0 columns (none_is_zero names words columns are.each) are.once) below in
    omega arith
