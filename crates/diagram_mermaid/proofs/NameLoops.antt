-- Names with commas between them, one after the other.
use Rattle.std.proofs.Common.{◌≡◌, ℕ, zero, suc, ◌+◌, ◌==◌, Bool, true, false, List, [], ◌∷◌, ◌++◌, map, take, drop, Option, None, Some, option_map, refl, ap, sym, ◌∙◌, append_assoc, add-one, codes, nat_eq, if◌then◌else◌}
use Rattle.std.specs.List.{starts_with}
use Rattle.diagram_statements.specs.Statements.{StatementView}
use Rattle.texts.specs.Words.{place_of}
use Rattle.diagram_statements.specs.declared.statement.Place.{Place}
use Rattle.diagram_mermaid.specs.Notes.{with_first, parted, next_by, next_name, name_at, name_statements}

abbrev parted_by : List ℕ → Option (List ℕ × List ℕ) → List (List ℕ)
parted_by bytes None = bytes ∷ []
parted_by bytes (Some next) = next.0 ∷ parted next.1

parted_step : (t : Bool) (b : ℕ) (bs : List ℕ) (o : Option ℕ) → parted bs ≡ parted_by bs (next_by bs o) → (if t then [] ∷ parted bs else with_first b (parted bs)) ≡ parted_by (b ∷ bs) (next_by (b ∷ bs) (if t then Some 0 else option_map suc o))
parted_step true b bs o ih = refl
parted_step false b bs None ih = ap (with_first b) ih
parted_step false b bs (Some p) ih = ap (with_first b) ih

parted_at : (bytes : List ℕ) → parted bytes ≡ parted_by bytes (next_by bytes (place_of (codes ",") bytes))
unfolding place_of
parted_at [] = refl
parted_at (b ∷ bs) = parted_step (starts_with nat_eq (b ∷ bs) (codes ",")) b bs (place_of (codes ",") bs) (parted_at bs)

parted_is : (bytes : List ℕ) → parted bytes ≡ parted_by bytes (next_name bytes)
unfolding next_name
parted_is bytes = parted_at bytes

pub one_name : (place : Place) (now more all : List StatementView) (rest name left : List ℕ) → now ++ name_statements place rest ≡ all → next_name rest ≡ Some (name, left)
    → more ≡ now ++ name_at place name ∷ [] → more ++ name_statements place left ≡ all
unfolding name_statements
one_name place now more all rest name left are found is =
    ap (λ l. l ++ map (name_at place) (parted left)) is
    ∙ append_assoc now (name_at place name ∷ []) (map (name_at place) (parted left))
    ∙ ap (λ l. now ++ map (name_at place) l) (sym (parted_is rest ∙ ap (parted_by rest) found)) ∙ are

pub last_name : (place : Place) (now more all : List StatementView) (rest : List ℕ) → now ++ name_statements place rest ≡ all → next_name rest ≡ None
    → more ≡ now ++ name_at place rest ∷ [] → more ≡ all
unfolding name_statements
last_name place now more all rest are found is =
    is ∙ ap (λ l. now ++ map (name_at place) l) (sym (parted_is rest ∙ ap (parted_by rest) found)) ∙ are
