use Rattle.std.proofs.Common.{◌++◌, List, sym, ap, ◌∙◌, append-nil}
use Rattle.cmd_compare.specs.declared.pairs.Pair.{Pair}
use Rattle.cmd_compare.proofs.PairLemmas.{none_found, none_behind}
use Rattle.cmd_compare.proofs.pairs.add_pairs.Goals as goal

pub returns-in-None : goal.returns-in-None
returns-in-None c =
    sym (append-nil c.args.pairs.now.items) ∙ ap (λ (xs : List Pair). c.args.pairs.now.items ++ xs) (sym (none_found c.args.found.now c.args.later c.args.later c.in-None.is))

pub loop-place-init : goal.loop-place-init
loop-place-init c =
    sym (append-nil c.args.pairs.now.items) ∙ ap (λ (xs : List Pair). c.args.pairs.now.items ++ xs) (sym (none_behind c.args.found.now c.args.later c.first_behind-place.result c.in-Some.there c.in-Some.is c.first_behind-place.ensures.none))
