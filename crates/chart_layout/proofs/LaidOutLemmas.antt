-- The events that rows have, when a row is added.
use Rattle.std.proofs.Common.{◌≡◌, ℕ, ◌⊎◌, inl, inr, List, [], ◌∷◌, ◌++◌, length, cond, sym, ap, ◌∙◌, append_assoc, append-nil, eq-eqb}
use Rattle.std.proofs.lemmas.Bool.{cases_eq, ne_eqb}
use Rattle.chart.specs.declared.instance.EventNo.{EventNo}
use Rattle.chart_layout.specs.declared.row.Row.{Row}
use Rattle.chart_layout.specs.Layouts.{number_on, row_on, laid_out}

-- one more row
pub laid_out-push : (rows : List Row) (row : Row) (p : ℕ) → laid_out (rows ++ row ∷ []) p ≡ laid_out rows p ++ row_on p row
laid_out-push [] row p = append-nil (row_on p row)
laid_out-push (first ∷ rows) row p = ap (λ xs. row_on p first ++ xs) (laid_out-push rows row p) ∙ sym (append_assoc (row_on p first) (laid_out rows p) (row_on p row))

-- an event's number is only on its own line
pub number_on-own : (p : ℕ) (e : EventNo) → e.instance ≡ p → number_on p e ≡ e.index ∷ []
number_on-own p e its = ap (λ b. cond b (e.index ∷ []) []) (eq-eqb e.instance p its)

pub number_on-other : (p : ℕ) (e : EventNo) → (e.instance ≡ p → ⊥) → number_on p e ≡ []
number_on-other p e other = ap (λ b. cond b (e.index ∷ []) []) (ne_eqb e.instance p other)

-- the number of these numbers
pub length-number_on : (p : ℕ) (e : EventNo) → ((e.instance ≡ p) × (length (number_on p e) ≡ 1)) ⊎ ((e.instance ≡ p → ⊥) × (length (number_on p e) ≡ 0))
length-number_on p e =
    elim (cases_eq e.instance p) [
      | inl its ↦ inl (its, ap length (number_on-own p e its))
      | inr other ↦ inr (other, ap length (number_on-other p e other))
    ]
