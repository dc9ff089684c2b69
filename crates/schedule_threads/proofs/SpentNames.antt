-- The names of the instances whose turns were spent, with one more end.
use Rattle.std.proofs.Common.{◌≡◌, ◌<◌, ◌+◌, ℕ, false, List, [], ◌∷◌, ◌++◌, length, drop, slice_index_or, take, ap, sym, ◌∙◌, append_assoc}
use Rattle.std.proofs.lemmas.List.{drop_more}
use Rattle.std.proofs.lemmas.List.Folds.{list_any_more}
use Rattle.std.specs.List.{list_any}
use Rattle.instances.specs.declared.end.End.{End}
use Rattle.instances.specs.declared.end.End.TheVariants.{TurnsSpent, Stopped}
use Rattle.texts.specs.Instances.{name_at}
use Rattle.schedule_threads.specs.RunOutcomes.{spent_from, is_memory_end}

-- the names of the remaining instances, given the end of the next one
next : (names : List (List ℕ)) (ends : List End) (i : ℕ) {end : End} → i < length ends
    → slice_index_or ends i Stopped ≡ end
    → spent_from names (i + 1) (drop i ends) ≡ spent_from names (i + 1) (end ∷ drop (i + 1) ends)
next names ends i within is =
    ap (spent_from names (i + 1)) (drop_more ends i Stopped within ∙ ap (λ e. e ∷ drop (i + 1) ends) is)

-- an instance whose turns were spent
pub spent_on : (names : List (List ℕ)) (ends : List End) (i : ℕ) (so_far more : List (List ℕ)) (name : List ℕ)
    → i < length ends → slice_index_or ends i Stopped ≡ TurnsSpent
    → more ≡ so_far ++ name ∷ [] → name ≡ name_at names (i + 1)
    → so_far ++ spent_from names (i + 1) (drop i ends) ≡ spent_from names 1 ends
    → more ++ spent_from names (i + 1 + 1) (drop (i + 1) ends) ≡ spent_from names 1 ends
spent_on names ends i so_far more name within is grown named all =
    let rest = spent_from names (i + 1 + 1) (drop (i + 1) ends) in
    let new : more ++ rest ≡ (so_far ++ name_at names (i + 1) ∷ []) ++ rest =
    ap (λ m. m ++ rest) (grown ∙ ap (λ n. so_far ++ n ∷ []) named) in
    let moved : (so_far ++ name_at names (i + 1) ∷ []) ++ rest ≡ so_far ++ name_at names (i + 1) ∷ rest =
    append_assoc so_far (name_at names (i + 1) ∷ []) rest in
    let old : so_far ++ name_at names (i + 1) ∷ rest ≡ so_far ++ spent_from names (i + 1) (drop i ends) =
    sym (ap (λ r. so_far ++ r) (next names ends i within is)) in
    new ∙ (moved ∙ (old ∙ all))

-- an instance that stopped
pub stopped_on : (names : List (List ℕ)) (ends : List End) (i : ℕ) (so_far : List (List ℕ))
    → i < length ends → slice_index_or ends i Stopped ≡ Stopped
    → so_far ++ spent_from names (i + 1) (drop i ends) ≡ spent_from names 1 ends
    → so_far ++ spent_from names (i + 1 + 1) (drop (i + 1) ends) ≡ spent_from names 1 ends
stopped_on names ends i so_far within is all =
    let old : so_far ++ spent_from names (i + 1 + 1) (drop (i + 1) ends) ≡ so_far ++ spent_from names (i + 1) (drop i ends) =
    sym (ap (λ r. so_far ++ r) (next names ends i within is)) in
    old ∙ all

-- memory was not refused, so far and at this end
pub memory_on : (ends : List End) (i : ℕ) {end : End} → i < length ends → slice_index_or ends i Stopped ≡ end
    → is_memory_end end ≡ false → list_any is_memory_end (take i ends) ≡ false
    → list_any is_memory_end (take (i + 1) ends) ≡ false
memory_on ends i within is not so_far =
    list_any_more is_memory_end ends i Stopped within ∙ rw so_far (ap is_memory_end is ∙ not)
