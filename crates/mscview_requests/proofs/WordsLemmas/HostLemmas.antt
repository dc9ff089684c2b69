-- Parts of a word that commas join, and whether one is empty.
use Rattle.std.proofs.Common.{◌≡◌, ℕ, Bool, true, false, List, map, sym, ap, ◌∙◌}
use Rattle.std.specs.List.{list_any}
use Rattle.texts.specs.Lines.{parts}
use Rattle.mscview_requests.specs.Words.Hosts.{is_empty, AreHosts}

never : true ≡ false → ⊥
never e = cc

have : {W : Type 0} (f : W → List ℕ) (items seen : List W) (word : List ℕ) (b answer : Bool) → map f items ≡ parts 44 word → seen ≡ items → answer ≡ list_any is_empty (map f seen) → answer ≡ b
    → list_any is_empty (parts 44 word) ≡ b
have f items seen word b answer are same known is = ap (list_any is_empty) (sym are) ∙ ap (λ ws. list_any is_empty (map f ws)) (sym same) ∙ sym known ∙ is

-- a part is empty
pub hosts_refused : {W : Type 0} (f : W → List ℕ) (items seen : List W) (word : List ℕ) (answer : Bool) → map f items ≡ parts 44 word → seen ≡ items → answer ≡ list_any is_empty (map f seen) → answer ≡ true
    → (hosts : List (List ℕ)) → AreHosts word hosts → ⊥
hosts_refused f items seen word answer are same known is hosts its = never (sym (have f items seen word true answer are same known is) ∙ its.1)

-- no part is empty
pub hosts_read : {W : Type 0} (f : W → List ℕ) (items seen : List W) (word : List ℕ) (answer : Bool) → map f items ≡ parts 44 word → seen ≡ items → answer ≡ list_any is_empty (map f seen) → answer ≡ false
    → AreHosts word (map f items)
hosts_read f items seen word answer are same known is = (are, have f items seen word false answer are same known is)
