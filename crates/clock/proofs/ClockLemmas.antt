-- Lemmas on merged clocks.
use Rattle.std.proofs.Common.{◌≡◌, ℕ, zero, suc, ◌<◌, max, List, [], ◌∷◌, length, get_or, refl, sym, ap, ◌∙◌, arith}
use Rattle.std.proofs.lemmas.List.{ext_get_or}
use Rattle.clock.specs.Clocks.{merged}

-- the merge of two clocks of one length has that length
pub length-merged : (ours theirs : List ℕ) → length ours ≡ length theirs → length (merged ours theirs) ≡ length ours
length-merged [] theirs same = refl
length-merged (x ∷ xs) [] same = cc
length-merged (x ∷ xs) (y ∷ ys) same = ap suc (length-merged xs ys (omega arith))

-- the entries of the merge
pub get_or-merged : (ours theirs : List ℕ) (k : ℕ) → length ours ≡ length theirs → k < length ours → get_or (merged ours theirs) k 0 ≡ max (get_or ours k 0) (get_or theirs k 0)
get_or-merged [] theirs k same within = absurd (omega arith)
get_or-merged (x ∷ xs) [] k same within = cc
get_or-merged (x ∷ xs) (y ∷ ys) zero same within = refl
get_or-merged (x ∷ xs) (y ∷ ys) (suc k) same within = get_or-merged xs ys k (omega arith) (omega arith)

-- a clock with the greater of each pair of entries is the merge
pub is_merged : (ours theirs new : List ℕ) → length ours ≡ length theirs → length new ≡ length ours
    → ((k : ℕ) → k < length theirs → get_or new k 0 ≡ max (get_or ours k 0) (get_or theirs k 0)) → new ≡ merged ours theirs
is_merged ours theirs new same kept each =
    let size : length (merged ours theirs) ≡ length ours = length-merged ours theirs same in
    ext_get_or 0 new (merged ours theirs) (omega arith)
    (λ k within. each k (omega arith) ∙ sym (get_or-merged ours theirs k same (omega arith)))
