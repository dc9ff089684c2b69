use Rattle.std.proofs.Common.{◌+◌, ◌++◌, ◌∷◌, [], ◌∙◌, ℕ, length, map, length-append, sym, ap, ap₂, arith}
use Rattle.std.proofs.lemmas.List.FromFn.{map-range_with_len_more}
use Rattle.board.specs.Gathering.{left_view}
use Rattle.board.specs.LongRuns.CarriedHistories.{sent_again_by}
use Rattle.board.proofs.long_runs.carrying.count_all_sends.Goals as goal

pub loop-place-preserved : goal.loop-place-preserved
loop-place-preserved c =
    let inv = c.loop-place.invariant in
    let place = c.loop-place.place in
    let pushed = c.push_reserved.ensures in
    record {
      counted = pushed.items ∙ ap₂ (λ xs x. xs ++ x ∷ []) inv.counted c.count_sends.ensures
          ∙ sym (map-range_with_len_more (λ (p : ℕ). sent_again_by p (map left_view c.args.left.now)) 1 place (place + 1) (omega arith));
      many = omega (arith, ap length pushed.items, length-append c.loop-place.sends.items (c.count_sends.result ∷ []), inv.many);
      reserved = omega (arith, pushed.capacity, inv.reserved);
    }
