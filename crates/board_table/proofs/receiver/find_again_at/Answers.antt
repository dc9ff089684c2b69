use Rattle.std.proofs.Common.{rules}
use Rattle.atomic_table.specs.Table.{Allows}
use Rattle.board_table.specs.Rule.{Kept}
use Rattle.board_table.specs.Plays.{FindsAgain}
use Rattle.board_table.proofs.SenderSeats.{sized}
use Rattle.board_table.proofs.ReceiverSeats as seats
use Rattle.board_table.proofs.receiver.find_again_at.Goals as goal

pub load-requires : goal.load-requires
load-requires g c =
    let l = c.args.lane.now in let word = c.taken_word.ensures in let board = c.requires.board in
    let slots = c.args.words.now.table_id.slots in let id = c.args.seat.now.id in let i = c.taken_word.result in let me = c.args.seat.now.me in (
      search rules,
      search rules,
      sized (λ v n k. Allows (Kept n k) slots id me i (λ x. x) (λ x w. FindsAgain v me w)) l g.A.Site.lane c.args.words.now.key.instances c.args.words.now.key.capacity c.requires.site board.instances board.capacity
          (seats.find_again l word.two word.some slots id i me c.requires.rests),
    )
