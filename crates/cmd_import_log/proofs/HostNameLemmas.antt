-- Different words of hosts have different names if these names are few, however many words a log has.
use Rattle.std.proofs.Common.{◌≡◌, ℕ, ◌+◌, ◌<◌, ◌≤◌, ◌^◌, ◌⊎◌, inl, inr, ◌||◌, Bool, true, false, List, [], ◌∷◌, ◌++◌, length, refl, sym, ap, ◌∙◌, subst, arith, append_assoc, append-nil, length-append}
use Rattle.std.specs.Prelude.{bytes_eq, fold, MatchBool}
use Rattle.std.specs.List.{list_any}
use Rattle.std.proofs.lemmas.Bool.{cases_lt, false≢true}
use Rattle.std.proofs.lemmas.List.Folds.{list_any-append}
use Rattle.std.proofs.lemmas.List.Sums.{fold-append}
use Rattle.std.proofs.lemmas.Slice.Eq.{bytes_eq-Decides}
use Rattle.diagram_labels.specs.Giving.{is_given, IsFreeNumbered, called}
use Rattle.diagram_labels.specs.Labels.{Labelling, none, has_label, with_new, with_label, name_of, labelled}
use Rattle.diagram_labels.specs.Spelling.{spelled}
use Rattle.diagram_labels.proofs.Called.{called_so}
use Rattle.diagram_labels.proofs.Labelled.{labels_differ}
use Rattle.diagram_labels.proofs.Labellings.{label_kept, label_added}
use Rattle.log_chart.specs.Named.Entering.{with_word}
use Rattle.log_chart.proofs.NamedLemmas.WordLemmas.{words_up}
use Rattle.cmd_import_log.proofs.EntryNameLemmas.{same_bytes}

-- different words have different names
abbrev pub NamesDiffer : List (List ℕ) → Type 0
NamesDiffer words = (one other : List ℕ) → has_label words one ≡ true → has_label words other ≡ true → name_of (labelled words) one ≡ name_of (labelled words) other → one ≡ other

pub has_own : (words more : List (List ℕ)) (w : List ℕ) → has_label (words ++ w ∷ more) w ≡ true
has_own [] more w = rw (same_bytes w) refl
has_own (x ∷ words) more w = go (bytes_eq w x) (has_own words more w)
  where
    go : (its : Bool) → has_label (words ++ w ∷ more) w ≡ true → (its || has_label (words ++ w ∷ more) w) ≡ true
    go true rest = refl
    go false rest = rest

-- what holds of labels as they are, and with one more, holds with this one
by_label : (P : Labelling → Type 0) (l : Labelling) (w : List ℕ) → (has_label l.labels w ≡ true → P l) → (has_label l.labels w ≡ false → P (with_new l w)) → P (with_label l w)
by_label P l w kept added = go (has_label l.labels w) refl
  where
    go : (its : Bool) → has_label l.labels w ≡ its → P (with_label l w)
    go true e = subst P (sym (label_kept l w e)) (kept e)
    go false e = subst P (sym (label_added l w e)) (added e)

-- labels that are those of their own words
record IsOwn (l : Labelling) : Type 0 where
  pub labels : labelled l.labels ≡ l
  pub whole : length l.labels ≡ length l.names

own_added : (l : Labelling) (w : List ℕ) → IsOwn l → has_label l.labels w ≡ false → IsOwn (with_new l w)
own_added l w own e = record {
  labels = fold-append with_label none l.labels (w ∷ []) ∙ ap (λ m. with_label m w) own.labels ∙ label_added l w e;
  whole = length-append l.labels (w ∷ []) ∙ ap (λ n. n + 1) own.whole ∙ sym (length-append l.names (called l.names (spelled w) ∷ []));
}

own_all : (l : Labelling) (words : List (List ℕ)) → IsOwn l → IsOwn (fold with_label l words)
own_all l [] own = own
own_all l (w ∷ words) own = own_all (with_label l w) words (by_label IsOwn l w (λ e. own) (λ e. own_added l w own e))

-- a word that came is there
stays : (l : Labelling) (words : List (List ℕ)) (one : List ℕ) → has_label l.labels one ≡ true → has_label (fold with_label l words).labels one ≡ true
stays l [] one has = has
stays l (w ∷ words) one has =
    stays (with_label l w) words one
    (by_label (λ (m : Labelling). has_label m.labels one ≡ true) l w (λ e. has) (λ e. list_any-append (bytes_eq one) l.labels (w ∷ []) ∙ rw has refl))

came : (l : Labelling) (words : List (List ℕ)) (one : List ℕ) → has_label words one ≡ true → has_label (fold with_label l words).labels one ≡ true
came l [] one has = absurd (false≢true has)
came l (w ∷ words) one has = go (bytes_eq one w) refl has (λ rest. came (with_label l w) words one rest)
  where
    there : has_label (with_label l w).labels w ≡ true
    there = by_label (λ (m : Labelling). has_label m.labels w ≡ true) l w (λ e. e) (λ e. has_own l.labels [] w)

    go : (its : Bool) → bytes_eq one w ≡ its → (its || has_label words one) ≡ true → (has_label words one ≡ true → has_label (fold with_label (with_label l w) words).labels one ≡ true)
        → has_label (fold with_label (with_label l w) words).labels one ≡ true
    go true e any later = stays (with_label l w) words one (subst (λ k. has_label (with_label l w).labels k ≡ true) (sym ((bytes_eq-Decides one w).0 e)) there)
    go false e any later = later any

-- names come after those that are there
abbrev Grows : Labelling → Labelling → Type 0
Grows l m = (more : List (List ℕ)) × (m.names ≡ l.names ++ more)

grow : (l : Labelling) (words : List (List ℕ)) → Grows l (fold with_label l words)
grow l [] = ([], sym (append-nil l.names))
grow l (w ∷ words) =
    let one = by_label (Grows l) l w (λ e. ([], sym (append-nil l.names))) (λ e. (called l.names (spelled w) ∷ [], refl)) in
    let rest = grow (with_label l w) words in
    (one.0 ++ rest.0, rest.1 ∙ ap (λ names. names ++ rest.0) one.1 ∙ append_assoc l.names one.0 rest.0)

fresh : (names : List (List ℕ)) (word name : List ℕ) (b : Bool) → is_given names word ≡ b → MatchBool b (IsFreeNumbered names word name) (name ≡ word) → is_given names name ≡ false
fresh names word name true e its = ap (is_given names) its.1 ∙ its.2.free
fresh names word name false e its = ap (is_given names) its ∙ e

-- the names of these labels are all different
abbrev AreNew : Labelling → Type 0
AreNew l = fold with_word [] l.names ≡ l.names

new_added : (l : Labelling) (w : List ℕ) → length l.names < 2 ^ 63 → AreNew l → AreNew (with_new l w)
new_added l w small new =
    let name = called l.names (spelled w) in
    let lacks : list_any (bytes_eq name) l.names ≡ false = fresh l.names (spelled w) name (is_given l.names (spelled w)) refl (called_so l.names (spelled w) small) in
    let added : with_word l.names name ≡ l.names ++ name ∷ [] = rw lacks refl in
    fold-append with_word [] l.names (name ∷ []) ∙ ap (λ names. with_word names name) new ∙ added

module _ (most : ℕ) (small : most < 2 ^ 63) where
  -- if at most so many of the names differ, there are at most so many
  few : (l : Labelling) (words : List (List ℕ)) → AreNew l → length l.names ≤ most → length (fold with_word [] (fold with_label l words).names) ≤ most → length (fold with_label l words).names ≤ most
  few l [] new up all = up
  few l (w ∷ words) new up all =
      by_label (λ (m : Labelling). length (fold with_word [] (fold with_label m words).names) ≤ most → length (fold with_label m words).names ≤ most) l w (λ e. few l words new up)
      (λ e less. added (cases_lt (length l.names) most) (λ within. few (with_new l w) words next_new within less) less) all
    where
      next : Labelling
      next = with_new l w

      longer : length next.names ≡ length l.names + 1
      longer = length-append l.names (called l.names (spelled w) ∷ [])

      next_new : AreNew (with_new l w)
      next_new = new_added l w (omega (arith, up, small)) new

      added : (length l.names < most) ⊎ (most ≤ length l.names) → (length next.names ≤ most → length (fold with_label next words).names ≤ most)
          → length (fold with_word [] (fold with_label next words).names) ≤ most → length (fold with_label next words).names ≤ most
      added (inl room) rest less = rest (omega (arith, room, longer))
      added (inr full) rest less =
          let grown = grow next words in
          let some = words_up next.names grown.0 in
          let is : fold with_word [] (fold with_label next words).names ≡ fold with_word next.names grown.0 =
          ap (fold with_word []) grown.1 ∙ fold-append with_word [] next.names grown.0 ∙ ap (λ names. fold with_word names grown.0) next_new in
          let same = ap length is in
          absurd (omega (arith, full, longer, some, same, less))

  pub names_differ : (words : List (List ℕ)) → length (fold with_word [] (labelled words).names) ≤ most → NamesDiffer words
  names_differ words all one other has_one has_other same =
      let l = labelled words in
      let own = own_all none words (record { labels = refl; whole = refl }) in
      let up = few none words refl (omega arith) all in
      let whole = own.whole in
      labels_differ l.labels one other (omega (arith, up, small, whole)) (came none words one has_one) (came none words other has_other)
      (ap (λ m. name_of m one) own.labels ∙ same ∙ ap (λ m. name_of m other) (sym own.labels))
