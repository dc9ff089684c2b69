use Rattle.std.proofs.Common.{rules, arith}
use Rattle.atomic_table.specs.Table.{Allows}
use Rattle.board_table.specs.Rule.{Kept}
use Rattle.board_table.specs.Plays.{LooksAt}
use Rattle.board_table.proofs.SenderSeats.{sized}
use Rattle.board_table.proofs.ReceiverSeats as seats
use Rattle.board_table.proofs.receiver.look_at.Goals as goal

pub load-requires : goal.load-requires
load-requires g c =
    let l = c.args.lane.now in let word = c.put_word.ensures in let board = c.requires.board in
    let slots = c.args.words.now.table_id.slots in let id = c.args.seat.now.id in let i = c.args.word in let me = c.args.seat.now.me in (
      search rules,
      omega (arith, c.requires.word, word.value, word.within, board.words, c.requires.board.words),
      sized (λ v n k. Allows (Kept n k) slots id me i (λ x. x) (λ x w. LooksAt v me x w)) l g.A.Site.lane c.args.words.now.key.instances c.args.words.now.key.capacity c.requires.site board.instances board.capacity
          (seats.look l word.two word.some slots id i me c.requires.word c.requires.rests),
    )
