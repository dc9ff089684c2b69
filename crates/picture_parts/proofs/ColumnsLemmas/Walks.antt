-- One step of a walk along the instances that get a column.
use Rattle.std.proofs.Common.{◌≡◌, ℕ, suc, ◌+◌, ◌<◌, List, [], ◌∷◌, ◌++◌, length, get_or, drop, sym, ap, ◌∙◌, add-one}
use Rattle.std.proofs.Math.Seq.{drop-cons}
use Rattle.picture_parts.specs.declared.columns.columns.Column.{Column}
use Rattle.picture_parts.specs.Columns.Placing.{PlanView, next_column, columns_from}

-- the columns so far, and one more
pub columns_next : (plan : PlanView) (done next all : List Column) (instances : List ℕ) (k q : ℕ) → k < length instances → q ≡ get_or instances k q
    → next ≡ done ++ next_column plan done q ∷ [] → columns_from plan done (drop k instances) ≡ all → columns_from plan next (drop (k + 1) instances) ≡ all
columns_next plan done next all instances k q below is so come =
    let read = drop-cons instances k q below ∙ ap (λ y. y ∷ drop (suc k) instances) (sym is) ∙ ap (λ n. q ∷ drop n instances) (sym (add-one k)) in
    ap (λ c. columns_from plan c (drop (k + 1) instances)) so ∙ sym (ap (columns_from plan done) read) ∙ come
