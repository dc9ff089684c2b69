-- Properties of the labels that came, from the first on.
use Rattle.std.proofs.Common.{◌≡◌, ℕ, ◌+◌, ◌^◌, ◌≤◌, ◌<◌, Bool, true, false, ◌||◌, List, [], ◌∷◌, ◌++◌, length, get_or, nat_lt, eqb, ne_eqb, ltb-true, refl, sym, ap, ◌∙◌, subst, arith, length-append}
use Rattle.std.specs.Prelude.{bytes_eq, fold, MatchBool}
use Rattle.std.specs.List.{position_or_len}
use Rattle.std.proofs.Math.ListN.{get_or-append}
use Rattle.std.proofs.Math.Seq.{get_or-append_seam}
use Rattle.std.proofs.lemmas.Bool.Decides.{nat_tests}
use Rattle.std.proofs.lemmas.List.Folds.{position_or_len_push, list_any-append, list_any_at}
use Rattle.std.proofs.lemmas.List.Sums.{fold-append, passes_at_first}
use Rattle.std.proofs.lemmas.Slice.Eq.{bytes_eq-Decides}
use Rattle.chart.specs.Names.{IsName}
use Rattle.diagram_labels.specs.Giving.{is_given, IsFreeNumbered, IsCalled, called}
use Rattle.diagram_labels.specs.Spelling.{spelled}
use Rattle.diagram_labels.specs.Labels.{Labelling, none, has_label, with_new, with_label, name_of, labelled}
use Rattle.diagram_labels.proofs.Spellings.{spelled_is_name}
use Rattle.diagram_labels.proofs.Called.{called_is_name, called_so}
use Rattle.diagram_labels.proofs.Tables.{any_placed}
use Rattle.diagram_labels.proofs.Labellings.{label_kept, label_added, new_name}

itself : (label : List ℕ) → bytes_eq label label ≡ true
itself label = (bytes_eq-Decides label label).1 refl

-- a property that holds for both outcomes of one more label
module _ (P : Labelling → Type 0) (l : Labelling) (label : List ℕ) where
  by_label : (b : Bool) → has_label l.labels label ≡ b → (b ≡ true → P l) → (b ≡ false → P (with_new l label)) → P (with_label l label)
  by_label true e kept added = subst P (sym (label_kept l label e)) (kept refl)
  by_label false e kept added = subst P (sym (label_added l label e)) (added refl)

-- there are as many names as labels
many_more : (l : Labelling) (label : List ℕ) → length l.labels ≡ length l.names → length (with_label l label).labels ≡ length (with_label l label).names
many_more l label h =
    by_label (λ m. length m.labels ≡ length m.names) l label (has_label l.labels label) refl (λ e. h)
    (λ e. length-append l.labels (label ∷ []) ∙ ap (λ n. n + 1) h ∙ sym (length-append l.names (called l.names (spelled label) ∷ [])))

many_all : (l : Labelling) (labels : List (List ℕ)) → length l.labels ≡ length l.names → length (fold with_label l labels).labels ≡ length (fold with_label l labels).names
many_all l [] h = h
many_all l (label ∷ labels) h = many_all (with_label l label) labels (many_more l label h)

-- one more label makes at most one more name
few_more : (l : Labelling) (label : List ℕ) → length (with_label l label).names ≤ length l.names + 1
few_more l label =
    by_label (λ m. length m.names ≤ length l.names + 1) l label (has_label l.labels label) refl (λ e. omega arith)
    (λ e. omega (arith, length-append l.names (called l.names (spelled label) ∷ [])))

few_all : (l : Labelling) (labels : List (List ℕ)) → length (fold with_label l labels).names ≤ length l.names + length labels
few_all l [] = omega arith
few_all l (label ∷ labels) = let rest = few_all (with_label l label) labels in let one = few_more l label in omega (arith, rest, one)

-- a label that came stays, and one that didn't come isn't there
stays_more : (l : Labelling) (label one : List ℕ) → has_label l.labels one ≡ true → has_label (with_label l label).labels one ≡ true
stays_more l label one h =
    by_label (λ m. has_label m.labels one ≡ true) l label (has_label l.labels label) refl (λ e. h)
    (λ e. list_any-append (bytes_eq one) l.labels (label ∷ []) ∙ rw h refl)

stays_all : (l : Labelling) (labels : List (List ℕ)) (one : List ℕ) → has_label l.labels one ≡ true → has_label (fold with_label l labels).labels one ≡ true
stays_all l [] one h = h
stays_all l (label ∷ labels) one h = stays_all (with_label l label) labels one (stays_more l label one h)

there : (l : Labelling) (label : List ℕ) → has_label (with_label l label).labels label ≡ true
there l label =
    by_label (λ m. has_label m.labels label ≡ true) l label (has_label l.labels label) refl (λ e. e)
    (λ e. list_any-append (bytes_eq label) l.labels (label ∷ []) ∙ rw (e, itself label) refl)

came_step : (l : Labelling) (label : List ℕ) (labels : List (List ℕ)) (one : List ℕ) (b : Bool) → bytes_eq one label ≡ b
    → (has_label labels one ≡ true → has_label (fold with_label (with_label l label) labels).labels one ≡ true) → (b || has_label labels one) ≡ true
    → has_label (fold with_label (with_label l label) labels).labels one ≡ true
came_step l label labels one true e more h =
    stays_all (with_label l label) labels one (subst (λ k. has_label (with_label l label).labels k ≡ true) (sym ((bytes_eq-Decides one label).0 e)) (there l label))
came_step l label labels one false e more h = more h

came : (l : Labelling) (labels : List (List ℕ)) (one : List ℕ) → has_label labels one ≡ true → has_label (fold with_label l labels).labels one ≡ true
came l [] one h = absurd (grind (arith, h))
came l (label ∷ labels) one h = came_step l label labels one (bytes_eq one label) refl (came (with_label l label) labels one) h

neither : (a b : Bool) → (a || b) ≡ false → (a ≡ false) × (b ≡ false)
neither true b h = absurd (grind (arith, h))
neither false b h = (refl, h)

absent_more : (l : Labelling) (label one : List ℕ) → bytes_eq one label ≡ false → has_label l.labels one ≡ false → has_label (with_label l label).labels one ≡ false
absent_more l label one d h =
    by_label (λ m. has_label m.labels one ≡ false) l label (has_label l.labels label) refl (λ e. h)
    (λ e. list_any-append (bytes_eq one) l.labels (label ∷ []) ∙ rw (h, d) refl)

absent : (l : Labelling) (labels : List (List ℕ)) (one : List ℕ) → has_label l.labels one ≡ false → has_label labels one ≡ false → has_label (fold with_label l labels).labels one ≡ false
absent l [] one h n = h
absent l (label ∷ labels) one h n =
    let both = neither (bytes_eq one label) (has_label labels one) n in
    absent (with_label l label) labels one (absent_more l label one both.0 h) both.1

-- a label that came keeps its name
before_end : (labels : List (List ℕ)) (label one : List ℕ) → has_label labels one ≡ true → position_or_len (bytes_eq one) (labels ++ label ∷ []) ≡ position_or_len (bytes_eq one) labels
before_end labels label one h =
    let within = any_placed (bytes_eq one) labels h in
    let no_end : eqb (position_or_len (bytes_eq one) labels) (length labels) ≡ false = ne_eqb _ _ (λ e. absurd (omega (arith, within, e))) in
    position_or_len_push (bytes_eq one) labels label ∙ rw no_end refl

name_added : (l : Labelling) (label one : List ℕ) → length l.labels ≡ length l.names → has_label l.labels one ≡ true → name_of (with_new l label) one ≡ name_of l one
unfolding name_of
name_added l label one s h =
    let within = any_placed (bytes_eq one) l.labels h in
    ap (λ k. get_or (l.names ++ called l.names (spelled label) ∷ []) k []) (before_end l.labels label one h)
    ∙ get_or-append l.names (called l.names (spelled label) ∷ []) [] (position_or_len (bytes_eq one) l.labels) (omega (arith, within, s))

name_more : (l : Labelling) (label one : List ℕ) → length l.labels ≡ length l.names → has_label l.labels one ≡ true → name_of (with_label l label) one ≡ name_of l one
name_more l label one s h =
    by_label (λ m. name_of m one ≡ name_of l one) l label (has_label l.labels label) refl (λ e. refl) (λ e. name_added l label one s h)

name_all : (l : Labelling) (labels : List (List ℕ)) (one : List ℕ) → length l.labels ≡ length l.names → has_label l.labels one ≡ true → name_of (fold with_label l labels) one ≡ name_of l one
name_all l [] one s h = refl
name_all l (label ∷ labels) one s h =
    name_all (with_label l label) labels one (many_more l label s) (stays_more l label one h) ∙ name_more l label one s h

-- a label keeps its name, whatever labels follow
pub labels_keep : (labels more : List (List ℕ)) (label : List ℕ) → has_label labels label ≡ true → name_of (labelled (labels ++ more)) label ≡ name_of (labelled labels) label
labels_keep labels more label h =
    ap (λ l. name_of l label) (fold-append with_label none labels more)
    ∙ name_all (labelled labels) more label (many_all none labels refl) (came none labels label h)

-- a new label gets its name from its spelling
pub labels_are_called : (labels : List (List ℕ)) (label : List ℕ) → length labels < 2 ^ 63 → has_label labels label ≡ false
    → IsCalled (labelled labels).names (spelled label) (name_of (labelled (labels ++ label ∷ [])) label)
labels_are_called labels label l h =
    let new = absent none labels label refl h in
    let few = few_all none labels in
    let all = ap (λ m. name_of m label) (fold-append with_label none labels (label ∷ []) ∙ label_added (labelled labels) label new) ∙ new_name (labelled labels) label (many_all none labels refl) new in
    subst (IsCalled (labelled labels).names (spelled label)) (sym all) (called_so (labelled labels).names (spelled label) (omega (arith, few)))

-- different names, each of which is valid
record AreApart (names : List (List ℕ)) : Type 0 where
  pub apart : (i j : ℕ) → i < length names → j < length names → get_or names i [] ≡ get_or names j [] → i ≡ j
  pub named : (i : ℕ) → i < length names → IsName (get_or names i [])

fresh : (names : List (List ℕ)) (word name : List ℕ) (b : Bool) → is_given names word ≡ b → MatchBool b (IsFreeNumbered names word name) (name ≡ word) → is_given names name ≡ false
fresh names word name true e h = ap (is_given names) h.1 ∙ h.2.free
fresh names word name false e h = ap (is_given names) h ∙ e

-- a name of the list is given
given_at : (names : List (List ℕ)) (i : ℕ) (name : List ℕ) → i < length names → get_or names i [] ≡ name → is_given names name ≡ true
given_at names i name l e = list_any_at (bytes_eq name) names i [] l (subst (λ k. bytes_eq name k ≡ true) (sym e) (itself name))

at_end : (names : List (List ℕ)) (name : List ℕ) (i : ℕ) → nat_lt i (length names) ≡ false → i < length (names ++ name ∷ []) → i ≡ length names
at_end names name i e l = grind (arith, nat_tests, length-append names (name ∷ []))

same_name : (names : List (List ℕ)) (name : List ℕ) (i j : ℕ) (b c : Bool) → nat_lt i (length names) ≡ b → nat_lt j (length names) ≡ c → AreApart names → is_given names name ≡ false
    → i < length (names ++ name ∷ []) → j < length (names ++ name ∷ []) → get_or (names ++ name ∷ []) i [] ≡ get_or (names ++ name ∷ []) j [] → i ≡ j
same_name names name i j true true e f are n l m h =
    let one = ltb-true _ _ e in let other = ltb-true _ _ f in
    are.apart i j one other (sym (get_or-append names (name ∷ []) [] i one) ∙ h ∙ get_or-append names (name ∷ []) [] j other)
same_name names name i j true false e f are n l m h =
    let one = ltb-true _ _ e in
    let is : get_or names i [] ≡ name = sym (get_or-append names (name ∷ []) [] i one) ∙ h ∙ ap (λ k. get_or (names ++ name ∷ []) k []) (at_end names name j f m) ∙ get_or-append_seam names name [] [] in
    absurd (grind (arith, sym (given_at names i name one is) ∙ n))
same_name names name i j false true e f are n l m h =
    let other = ltb-true _ _ f in
    let is : get_or names j [] ≡ name = sym (get_or-append names (name ∷ []) [] j other) ∙ sym h ∙ ap (λ k. get_or (names ++ name ∷ []) k []) (at_end names name i e l) ∙ get_or-append_seam names name [] [] in
    absurd (grind (arith, sym (given_at names j name other is) ∙ n))
same_name names name i j false false e f are n l m h = at_end names name i e l ∙ sym (at_end names name j f m)

is_name : (names : List (List ℕ)) (name : List ℕ) (i : ℕ) (b : Bool) → nat_lt i (length names) ≡ b → AreApart names → IsName name → i < length (names ++ name ∷ []) → IsName (get_or (names ++ name ∷ []) i [])
is_name names name i true e are n l = let one = ltb-true _ _ e in subst IsName (sym (get_or-append names (name ∷ []) [] i one)) (are.named i one)
is_name names name i false e are n l = subst IsName (sym (ap (λ k. get_or (names ++ name ∷ []) k []) (at_end names name i e l) ∙ get_or-append_seam names name [] [])) n

apart_more : (names : List (List ℕ)) (name : List ℕ) → AreApart names → is_given names name ≡ false → IsName name → AreApart (names ++ name ∷ [])
apart_more names name are new is = record {
  apart = λ i j l m h. same_name names name i j (nat_lt i (length names)) (nat_lt j (length names)) refl refl are new l m h;
  named = λ i l. is_name names name i (nat_lt i (length names)) refl are is l;
}

apart_label : (l : Labelling) (label : List ℕ) → length l.names < 2 ^ 63 → AreApart l.names → AreApart (with_label l label).names
apart_label l label small are =
    let so = called_so l.names (spelled label) small in
    by_label (λ m. AreApart m.names) l label (has_label l.labels label) refl (λ e. are)
    (λ e. apart_more l.names (called l.names (spelled label)) are (fresh l.names (spelled label) (called l.names (spelled label)) (is_given l.names (spelled label)) refl so)
    (called_is_name l.names (spelled label) (called l.names (spelled label)) small (spelled_is_name label) so))

apart_all : (l : Labelling) (labels : List (List ℕ)) → length l.names + length labels < 2 ^ 63 → AreApart l.names → AreApart (fold with_label l labels).names
apart_all l [] small are = are
apart_all l (label ∷ labels) small are = let one = few_more l label in apart_all (with_label l label) labels (omega (arith, one)) (apart_label l label (omega arith) are)

none_apart : AreApart []
none_apart = record { apart = λ i j l m h. absurd (omega arith); named = λ i l. absurd (omega arith) }

all_apart : (labels : List (List ℕ)) → length labels < 2 ^ 63 → AreApart (labelled labels).names
all_apart labels l = apart_all none labels (omega arith) none_apart

-- each label's name is a valid name
pub labels_are_named : (labels : List (List ℕ)) (label : List ℕ) → length labels < 2 ^ 63 → has_label labels label ≡ true → IsName (name_of (labelled labels) label)
unfolding name_of
labels_are_named labels label l h =
    let within = any_placed (bytes_eq label) (labelled labels).labels (came none labels label h) in
    let many = many_all none labels refl in
    (all_apart labels l).named (position_or_len (bytes_eq label) (labelled labels).labels) (omega (arith, within, many))

-- different labels have different names
pub labels_differ : (labels : List (List ℕ)) (one other : List ℕ) → length labels < 2 ^ 63 → has_label labels one ≡ true → has_label labels other ≡ true
    → name_of (labelled labels) one ≡ name_of (labelled labels) other → one ≡ other
unfolding name_of
labels_differ labels one other l h k same =
    let all = (labelled labels).labels in
    let first = any_placed (bytes_eq one) all (came none labels one h) in
    let second = any_placed (bytes_eq other) all (came none labels other k) in
    let many = many_all none labels refl in
    let places = (all_apart labels l).apart (position_or_len (bytes_eq one) all) (position_or_len (bytes_eq other) all) (omega (arith, first, many)) (omega (arith, second, many)) same in
    (bytes_eq-Decides one _).0 (passes_at_first (bytes_eq one) all [] first)
    ∙ ap (λ place. get_or all place []) places ∙ sym ((bytes_eq-Decides other _).0 (passes_at_first (bytes_eq other) all [] second))
