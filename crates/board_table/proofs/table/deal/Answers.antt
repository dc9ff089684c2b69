use Rattle.std.proofs.Common.{rules, [], ◌∷◌, sym, subst, arith}
use Rattle.atomic_table.specs.Table.{Splits}
use Rattle.board_table.specs.Knowing.{held, later_helds, first_of, later_of}
use Rattle.board_table.specs.Rule.{Kept}
use Rattle.board_table.proofs.Places.{words_some}
use Rattle.board_table.proofs.Views.{deals}
use Rattle.board_table.proofs.table.deal.Goals as goal

pub split_seat-requires : goal.split_seat-requires
split_seat-requires c =
    let me = c.args.seat.now.me in let board = c.requires.board in let n = c.args.words.now.key.instances in let k = c.args.words.now.key.capacity in (
      search rules,
      (let some = words_some (held me).instances c.requires.size in omega (arith, some, board.words)),
      subst (λ v. Splits (Kept n k) c.args.seat.now.id v (later_of v) (first_of v ∷ [])) (sym c.requires.some) (deals n k c.args.seat.now.id (held me) (later_helds me)),
    )
