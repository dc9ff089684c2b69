-- The entries of clocks.
use Rattle.std.proofs.Common.{◌≡◌, ◌≢◌, ℕ, zero, suc, ◌+◌, ◌<◌, ◌≤◌, max, List, [], ◌∷◌, length, get_or, take, replicate, refl, sym, ap, ◌∙◌, arith}
use Rattle.std.proofs.lemmas.List.{get_or-set_same, get_or-set_other, length-set, set-set, set-get_or, get_or-replicate, length-replicate, take_more}
use Rattle.clock.specs.Clocks.{entry_of, with_entry, merged}
use Rattle.clock.specs.Diffs.{apply_diff, AgreeBut}
use Rattle.clock.specs.declared.diff.Change.{Change}
use Rattle.clock.proofs.ClockLemmas.{get_or-merged}
use Rattle.clock.proofs.DiffLemmas.{apply_diff-push}

-- the entry that was set
pub entry_of-with_entry : (clock : List ℕ) (p i : ℕ) → 1 ≤ p → p ≤ length clock → entry_of (with_entry clock p i) p ≡ i
entry_of-with_entry clock zero i low high = absurd (omega arith)
entry_of-with_entry clock (suc k) i low high = get_or-set_same clock k i 0 (omega arith)

-- the other entries stay
pub entry_of-with_entry_other : (clock : List ℕ) (p q i : ℕ) → (q ≡ p → ⊥) → entry_of (with_entry clock p i) q ≡ entry_of clock q
entry_of-with_entry_other clock p zero i other = refl
entry_of-with_entry_other clock zero (suc k) i other = refl
entry_of-with_entry_other clock (suc j) (suc k) i other = get_or-set_other clock j k i 0 (λ e. other (ap suc e))

-- so a stamp leaves the entries that agreed
pub agree_stamped : (base clock : List ℕ) (p i : ℕ) → AgreeBut p base clock → AgreeBut p base (with_entry clock p i)
agree_stamped base clock p i agree q other = entry_of-with_entry_other clock p q i other ∙ agree q other

pub length-with_entry : (clock : List ℕ) (p i : ℕ) → length (with_entry clock p i) ≡ length clock
length-with_entry clock zero i = refl
length-with_entry clock (suc k) i = length-set clock k i

-- an entry that is set twice has the second value
pub with_entry-with_entry : (clock : List ℕ) (p a b : ℕ) → with_entry (with_entry clock p a) p b ≡ with_entry clock p b
with_entry-with_entry clock zero a b = refl
with_entry-with_entry clock (suc k) a b = set-set clock k a b

-- an entry that is stamped and set back
pub stamped_back : (clock : List ℕ) (p i entry : ℕ) → entry ≡ entry_of clock p → with_entry (with_entry clock p i) p entry ≡ clock
stamped_back clock zero i entry same = refl
stamped_back clock (suc k) i entry same = set-set clock k i entry ∙ ap (λ (x : ℕ). with_entry clock (suc k) x) same ∙ set-get_or clock k 0

-- each entry of a merge is the greater one
pub entry_of-merged : (ours theirs : List ℕ) (q : ℕ) → length ours ≡ length theirs → q ≤ length ours → entry_of (merged ours theirs) q ≡ max (entry_of ours q) (entry_of theirs q)
entry_of-merged ours theirs zero same within = omega arith
entry_of-merged ours theirs (suc k) same within = get_or-merged ours theirs k same (omega arith)

-- at first each entry is 0
pub entry_of-zeros : (n q : ℕ) → q ≤ length {A = ℕ} (replicate n 0) → entry_of (replicate n 0) q ≡ 0
entry_of-zeros n zero within = refl
entry_of-zeros n (suc k) within = get_or-replicate n k 0 0 (omega (arith, length-replicate {A = ℕ} n 0))

-- changes don't change the length
pub length-apply_diff : (clock : List ℕ) (diff : List Change) → length (apply_diff clock diff) ≡ length clock
length-apply_diff clock [] = refl
length-apply_diff clock (change ∷ rest) = length-apply_diff (with_entry clock change.instance change.entry) rest ∙ length-with_entry clock change.instance change.entry

-- one more change
apply_diff-more : (clock : List ℕ) (diff : List Change) (n : ℕ) (d : Change) → n < length diff
    → apply_diff clock (take (n + 1) diff) ≡ with_entry (apply_diff clock (take n diff)) (get_or diff n d).instance (get_or diff n d).entry
apply_diff-more clock diff n d within = ap (apply_diff clock) (take_more diff n d within) ∙ apply_diff-push clock (take n diff) (get_or diff n d)

-- the next change is of this entry
pub entry-changed : (clock : List ℕ) (diff : List Change) (n p : ℕ) (change d : Change) → n < length diff → change ≡ get_or diff n d → 1 ≤ p → p ≤ length clock
    → change.instance ≡ p → change.entry ≡ entry_of (apply_diff clock (take (n + 1) diff)) p
entry-changed clock diff n p change d within same low high its =
    let now : List ℕ = apply_diff clock (take n diff) in
    let long : length now ≡ length clock = length-apply_diff clock (take n diff) in
    sym (ap (λ (x : List ℕ). entry_of x p) (apply_diff-more clock diff n d within ∙ ap (λ (c : Change). with_entry now c.instance c.entry) (sym same) ∙ ap (λ (i : ℕ). with_entry now i change.entry) its)
    ∙ entry_of-with_entry now p change.entry low (omega (arith, long)))

-- the next change is of another entry
pub entry-kept : (clock : List ℕ) (diff : List Change) (n p : ℕ) (change d : Change) → n < length diff → change ≡ get_or diff n d
    → change.instance ≢ p → entry_of (apply_diff clock (take n diff)) p ≡ entry_of (apply_diff clock (take (n + 1) diff)) p
entry-kept clock diff n p change d within same other =
    let now : List ℕ = apply_diff clock (take n diff) in
    sym (ap (λ (x : List ℕ). entry_of x p) (apply_diff-more clock diff n d within ∙ ap (λ (c : Change). with_entry now c.instance c.entry) (sym same))
    ∙ entry_of-with_entry_other now change.instance p change.entry (λ e. other (sym e)))
