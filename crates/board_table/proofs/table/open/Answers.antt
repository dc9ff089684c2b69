use Rattle.std.proofs.Common.{sym, ◌∙◌, subst}
use Rattle.std.specs.Prelude.{None, replicate}
use Rattle.atomic_table.specs.Table.{opening}
use Rattle.board_table.specs.Layout.{slot_count}
use Rattle.board_table.specs.Rule.{Kept, new_helds}
use Rattle.board_table.proofs.Views.{opens}
use Rattle.board_table.proofs.table.open.Goals as goal

pub vacant-requires : goal.vacant-requires
vacant-requires c =
    let n = c.args.shape.now.instances in let k = c.args.shape.now.capacity in
    subst (λ words. Kept n k (opening words (replicate (slot_count n k) None) (new_helds n k 1 n))) (sym (c.as_slice.ensures.value ∙ c.in_ok-words.ensures.items_if_clones_equal (λ y same. same))) (opens n k c.requires.capacity.0)
