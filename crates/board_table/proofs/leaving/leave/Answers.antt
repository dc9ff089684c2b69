use Rattle.std.proofs.Common.{rules, ◌∷◌, [], arith, sym, subst}
use Rattle.atomic_table.specs.Table.{Allows}
use Rattle.board_table.specs.Knowing.{Mine, held}
use Rattle.board_table.specs.Rule.{Kept}
use Rattle.board_table.specs.Leaving.{Leaves}
use Rattle.board_table.proofs.Places.{words_some}
use Rattle.board_table.proofs.SenderSeats.{resting_seat}
use Rattle.board_table.proofs.LastMessages.{leaves}
use Rattle.board_table.proofs.leaving.leave.Goals as goal

pub load-requires : goal.load-requires
load-requires c =
    let me = c.args.seat.now.me in let e = held me in let board = c.requires.board in
    let slots = c.args.words.now.table_id.slots in let id = c.args.seat.now.id in (
      search rules,
      (let some = words_some e.instances (omega (arith, c.requires.number)) in omega (arith, some, board.words)),
      subst (λ (m : Mine). Allows (Kept c.args.words.now.key.instances c.args.words.now.key.capacity) slots id m 0 (λ x. x) (λ x w. Leaves m w)) (sym (resting_seat e.instances e.capacity e.number me c.requires.rests))
          (subst (λ n. Allows (Kept n c.args.words.now.key.capacity) slots id (e ∷ [], []) 0 (λ x. x) (λ x w. Leaves (e ∷ [], []) w)) (sym board.instances)
          (subst (λ k. Allows (Kept e.instances k) slots id (e ∷ [], []) 0 (λ x. x) (λ x w. Leaves (e ∷ [], []) w)) (sym board.capacity)
          (leaves e.instances e.capacity c.requires.capacity slots id 0 e c.requires.rests.post.instances c.requires.rests.post.capacity c.requires.number.0 c.requires.number.1 c.requires.rests.hold))),
    )
