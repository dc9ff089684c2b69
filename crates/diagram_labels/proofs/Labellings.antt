-- The changes of labels and names by one more label.
use Rattle.std.proofs.Common.{◌≡◌, ℕ, true, false, List, [], ◌∷◌, ◌++◌, Result, Ok, Err, length, get_or, eq-eqb, refl, sym, ap, ◌∙◌, arith}
use Rattle.std.specs.Prelude.{bytes_eq, IfOk, OnOk}
use Rattle.std.specs.List.{position_or_len}
use Rattle.std.proofs.Math.Seq.{get_or-append_seam}
use Rattle.std.proofs.lemmas.List.Folds.{position_or_len_push}
use Rattle.std.proofs.lemmas.Slice.Eq.{bytes_eq-Decides}
use Rattle.diagram_labels.specs.Giving.{called}
use Rattle.diagram_labels.specs.Spelling.{spelled}
use Rattle.diagram_labels.specs.Labels.{Labelling, has_label, with_new, with_label, name_of}
use Rattle.diagram_labels.proofs.Tables.{none_placed}

-- a label that came before changes nothing
pub label_kept : (l : Labelling) (label : List ℕ) → has_label l.labels label ≡ true → with_label l label ≡ l
unfolding with_label
label_kept l label h = rw h refl

-- a new one is added
pub label_added : (l : Labelling) (label : List ℕ) → has_label l.labels label ≡ false → with_label l label ≡ with_new l label
unfolding with_label
label_added l label h = rw h refl

-- the place of a label after the others
pub new_place : (labels : List (List ℕ)) (label : List ℕ) → has_label labels label ≡ false → position_or_len (bytes_eq label) (labels ++ label ∷ []) ≡ length labels
new_place labels label h =
    let at = none_placed (bytes_eq label) labels h in
    let same : bytes_eq label label ≡ true = (bytes_eq-Decides label label).1 refl in
    position_or_len_push (bytes_eq label) labels label ∙ rw (at, eq-eqb (length labels) (length labels) refl, same) (omega arith)

-- the name of a new label
pub new_name : (l : Labelling) (label : List ℕ) → length l.labels ≡ length l.names → has_label l.labels label ≡ false → name_of (with_new l label) label ≡ called l.names (spelled label)
unfolding name_of
new_name l label s h =
    ap (λ k. get_or (l.names ++ called l.names (spelled label) ∷ []) k []) (new_place l.labels label h ∙ s) ∙ get_or-append_seam l.names (called l.names (spelled label)) [] []

-- the same for the answer of a call
pub answers_name : {E : Type 0} (l m : Labelling) (label : List ℕ) (r : Result (List ℕ) E) → length l.labels ≡ length l.names → has_label l.labels label ≡ false
    → IfOk r (λ name. name ≡ called l.names (spelled label)) → OnOk r (m ≡ with_new l label) → IfOk r (λ name. name ≡ name_of m label)
answers_name l m label (Ok name) s h n a = n ∙ sym (new_name l label s h) ∙ ap (λ k. name_of k label) (sym a)
answers_name l m label (Err e) s h n a = tt

pub answers_added : {E : Type 0} (l m : Labelling) (label : List ℕ) (r : Result (List ℕ) E) → has_label l.labels label ≡ false → OnOk r (m ≡ with_new l label) → OnOk r (m ≡ with_label l label)
answers_added l m label (Ok name) h a = a ∙ sym (label_added l label h)
answers_added l m label (Err e) h a = tt
