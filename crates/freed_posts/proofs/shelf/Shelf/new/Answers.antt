use Rattle.std.proofs.Common.{[], sym, ◌∙◌, subst}
use Rattle.std.specs.Prelude.{None, replicate}
use Rattle.atomic_table.specs.Table.{opening}
use Rattle.freed_posts.specs.Knowing.{unissued}
use Rattle.freed_posts.specs.Rule.{IsShelf}
use Rattle.freed_posts.proofs.Steps.{opens}
use Rattle.freed_posts.proofs.shelf.Shelf.new.Goals as goal

pub vacant-requires : goal.vacant-requires
vacant-requires c =
    let key = c.args.board.now.key in let board = c.args.board.now.table_id in let first = unissued 0 key.instances [] in
    subst (λ words. IsShelf key board (opening words (replicate c.args.instances None) first))
    (sym (c.as_slice.ensures.value ∙ c.in_ok-words.ensures.items_if_clones_equal (λ y same. same)))
    (subst (λ n. IsShelf key board (opening (replicate n 0) (replicate n None) first)) (sym c.requires) (opens key board))
