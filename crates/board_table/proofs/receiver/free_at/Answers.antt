use Rattle.std.proofs.Common.{rules, subst}
use Rattle.chart.specs.Events.{MayHaveRegion}
use Rattle.chart.specs.Histories.{chart_of}
use Rattle.board_table.specs.Knowing.{held}
use Rattle.atomic_table.specs.Table.{Allows}
use Rattle.board_table.specs.Rule.{Kept}
use Rattle.board_table.specs.Plays.{Frees}
use Rattle.board_table.proofs.SenderSeats.{sized}
use Rattle.board_table.proofs.ReceiverSeats as seats
use Rattle.board_table.proofs.receiver.free_at.Goals as goal

pub store-requires : goal.store-requires
store-requires g c =
    let l = c.args.lane.now in let word = c.taken_word.ensures in let board = c.requires.board in
    let slots = c.args.words.now.table_id.slots in let id = c.args.seat.now.id in let i = c.taken_word.result in let me = c.args.seat.now.me in (
      search rules,
      search rules,
      sized (λ v n k. Allows (Kept n k) slots id me i (λ x. c.args.count) (λ x w. Frees v g.A.Site.region me w)) l g.A.Site.lane c.args.words.now.key.instances c.args.words.now.key.capacity c.requires.site.0 board.instances board.capacity
          (seats.free l word.two word.some slots id i me c.args.count g.A.Site.region word.value c.requires.emptying c.requires.count c.requires.short (subst (λ region. MayHaveRegion (chart_of (held me).seen l.receiver) region) c.requires.site.1 c.requires.coregion)),
    )
