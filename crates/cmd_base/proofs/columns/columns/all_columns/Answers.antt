use Rattle.std.proofs.Common.{◌≡◌, ℕ, suc, ◌+◌, length, List, ◌∷◌, ◌++◌, [], add-one, sym, ap, ◌∙◌, arith}
use Rattle.std.specs.List.{range_with_len}
use Rattle.std.proofs.lemmas.List.FromFn.{length-range_with_len}
use Rattle.cmd_base.proofs.ColumnsLemmas.ColumnLemmas.{range_next}
use Rattle.cmd_base.proofs.columns.columns.all_columns.Goals as goal

pub loop-place-preserved : goal.loop-place-preserved
loop-place-preserved c =
    let place = c.loop-place.place in
    let last : suc place ≡ 1 + place = omega arith in
    rw add-one
    (c.in_ok-push.ensures.items ∙ ap (λ (l : List ℕ). l ++ c.at_place.result ∷ []) c.loop-place.invariant
    ∙ ap (λ x. range_with_len 1 place ++ x ∷ []) (c.at_place.ensures ∙ last) ∙ sym (range_next 1 place))

pub returns-clause-limit : goal.returns-clause-limit
returns-clause-limit c =
    let place = c.loop-place.place in
    let same : length c.loop-place.columns.items ≡ place = ap length c.loop-place.invariant ∙ length-range_with_len 1 place in
    omega arith
