-- Among more numbers than names, one is free.
use Rattle.std.proofs.Common.{◌≡◌, ℕ, suc, ◌+◌, ◌-◌, ◌^◌, ◌≤◌, ◌<◌, Bool, true, false, ◌||◌, cond, List, [], ◌∷◌, length, get_or, refl, sym, ap, ◌∙◌, arith}
use Rattle.std.specs.Prelude.{bytes_eq}
use Rattle.std.proofs.lemmas.Slice.Eq.{bytes_eq-Decides}
use Rattle.indexmap.proofs.IndexTableLemmas.Probe.{pigeonhole}
use Rattle.diagram_labels.specs.Giving.{is_given, numbered}
use Rattle.diagram_labels.proofs.Numbered.{numbered_apart}

-- the place of the name in the list
place : List (List ℕ) → List ℕ → ℕ
place [] name = 0
place (x ∷ names) name = cond (bytes_eq name x) 0 (suc (place names name))

found : (x name : List ℕ) (names : List (List ℕ)) (d : List ℕ) (b : Bool) → bytes_eq name x ≡ b
    → (is_given names name ≡ true → (place names name < length names) × (get_or names (place names name) d ≡ name))
    → (b || is_given names name) ≡ true → (cond b 0 (suc (place names name)) < suc (length names)) × (get_or (x ∷ names) (cond b 0 (suc (place names name))) d ≡ name)
found x name names d true e more h = (omega arith, sym ((bytes_eq-Decides name x).0 e))
found x name names d false e more h = let k = more h in (omega (arith, k.0), k.1)

at_place : (names : List (List ℕ)) (name d : List ℕ) → is_given names name ≡ true → (place names name < length names) × (get_or names (place names name) d ≡ name)
unfolding place
at_place [] name d h = absurd (grind (arith, h))
at_place (x ∷ names) name d h = found x name names d (bytes_eq name x) refl (at_place names name d) h

-- if each number up to one is taken, there are at most as many numbers as names
pub taken_fit : (names : List (List ℕ)) (word : List ℕ) (number : ℕ) → number ≤ 2 ^ 64 → ((k : ℕ) → 2 ≤ k → k < number → is_given names (numbered word k) ≡ true) → number ≤ length names + 2
taken_fit names word number small taken =
    let at = λ (i : ℕ). place names (numbered word (i + 2)) in
    let into : (i : ℕ) → i < number - 2 → at i < length names = λ i l. (at_place names (numbered word (i + 2)) [] (taken (i + 2) (omega arith) (omega arith))).0 in
    let one : (i j : ℕ) → i < number - 2 → j < number - 2 → at i ≡ at j → i ≡ j = λ i j l m e.
    let first = (at_place names (numbered word (i + 2)) [] (taken (i + 2) (omega arith) (omega arith))).1 in
    let second = (at_place names (numbered word (j + 2)) [] (taken (j + 2) (omega arith) (omega arith))).1 in
    let same = numbered_apart word (i + 2) (j + 2) (omega arith) (omega arith) (sym first ∙ ap (λ p. get_or names p []) e ∙ second) in
    (omega (arith, same)) in
    let all = pigeonhole (number - 2) (length names) at into one in
    omega (arith, all)
