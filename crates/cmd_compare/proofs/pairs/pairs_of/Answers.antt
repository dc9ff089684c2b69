use Rattle.std.proofs.Common.{◌+◌, ◌++◌, List, add-one, sym, ap, ◌∙◌, subst}
use Rattle.std.proofs.lemmas.List.{length_push}
use Rattle.cmd_compare.specs.declared.pairs.Pair.{Pair}
use Rattle.cmd_compare.specs.Pairs.{pairs_above, pairs_to, AreAtMost}
use Rattle.cmd_compare.proofs.PairLemmas.{at_most-push, highest-push}
use Rattle.cmd_compare.proofs.pairs.pairs_of.Goals as goal

pub loop-place-preserved : goal.loop-place-preserved
loop-place-preserved c =
    let found = c.args.found.now in
    let n = c.loop-place.place in
    let inv = c.loop-place.invariant in
    let most = subst (λ k. AreAtMost k found (n + 1)) (sym c.greatest-so_far.ensures) (at_most-push found c.loop-place.so_far n inv.3) in
    (c.in_ok-add_pairs.ensures ∙ ap (λ (xs : List Pair). xs ++ pairs_above found n n) inv.0 ∙ ap (pairs_to found) (sym (add-one n)), rw c.in_ok-push.ensures.items (length_push c.loop-place.highest.items c.greatest-so_far.result ∙ ap (λ k. k + 1) inv.1), rw c.in_ok-push.ensures.items (highest-push found c.loop-place.highest.items n c.greatest-so_far.result inv.1 inv.2 most), most)
