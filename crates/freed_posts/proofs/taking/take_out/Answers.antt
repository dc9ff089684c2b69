use Rattle.std.proofs.Common.{◌==◌, [], ◌∷◌, sym, ◌∙◌, subst, arith}
use Rattle.std.specs.Prelude.{Some, None, true}
use Rattle.std.proofs.lemmas.Bool.{eq-eqb, ne_eqb}
use Rattle.atomic_table.specs.Seated.{TableId}
use Rattle.atomic_table.specs.Table.{Allows}
use Rattle.board_table.specs.declared.shape.Shape.{Shape}
use Rattle.freed_posts.specs.Knowing.{Mine, issued, place_of}
use Rattle.freed_posts.specs.Plays.{TakesAt}
use Rattle.freed_posts.specs.Rule.{IsShelf}
use Rattle.freed_posts.proofs.Steps.{takes_post}
use Rattle.freed_posts.proofs.Takings.{out_first, emptied}
use Rattle.freed_posts.proofs.taking.take_out.Goals as goal

pub swap-requires : goal.swap-requires
swap-requires g c =
    let board = c.args.places.now.key in let place = c.args.place in let slots = c.args.places.now.table_id.slots in let id = c.args.seat.now.id in
    let view = c.args.seat.now.me.0 in let mine = place_of view.right in
    let allows : Shape → TableId → Mine → Type 0 = λ k b m. Allows (IsShelf board.key board.table_id) slots id m place (λ x. 0) (λ x w. TakesAt k b place m (x == 1) w) in
    let ticket : Mine = (issued mine view.seen, (mine, None) ∷ []) in (
      c.requires.table,
      omega (arith, c.requires.shelf.words, c.requires.place),
      subst (allows g.A.Site.key g.A.Site.board) (sym c.requires.ticket.is)
          (subst (λ k. allows k g.A.Site.board ticket) c.requires.site.0
          (subst (λ b. allows board.key b ticket) c.requires.site.1
          (takes_post board.key board.table_id slots id mine place view.seen c.requires.place))),
    )

pub returns-then-swap-ne1-clause-none : goal.returns-then-swap-ne1-clause-none
returns-then-swap-ne1-clause-none g c = subst (λ b. TakesAt g.A.Site.key g.A.Site.board c.args.place c.args.seat.now.me b c.swap.new.seat.me) (ne_eqb c.swap.result 1 c.if-swap-ne1.true) c.swap.ensures.2

pub exchange-requires : goal.exchange-requires
exchange-requires g c =
    let found : TakesAt g.A.Site.key g.A.Site.board c.args.place c.args.seat.now.me true c.swap.new.seat.me = subst (λ b. TakesAt g.A.Site.key g.A.Site.board c.args.place c.args.seat.now.me b c.swap.new.seat.me) (eq-eqb c.swap.result 1 c.if-swap-ne1.false) c.swap.ensures.2 in
    (c.swap.ensures.0 ∙ c.requires.table, (Some found.0, out_first c.swap.new.seat.me _ c.args.place (Some found.0) _ found.1.2))

pub returns-clause-took : goal.returns-clause-took
returns-clause-took g c =
    let found : TakesAt g.A.Site.key g.A.Site.board c.args.place c.args.seat.now.me true c.swap.new.seat.me = subst (λ b. TakesAt g.A.Site.key g.A.Site.board c.args.place c.args.seat.now.me b c.swap.new.seat.me) (eq-eqb c.swap.result 1 c.if-swap-ne1.false) c.swap.ensures.2 in
    emptied g.A.Site.key g.A.Site.board c.args.place c.args.seat.now.me c.swap.new.seat.me c.exchange.new.seat.me c.exchange.result c.in-Some.post found c.exchange.ensures.2 c.exchange.ensures.3 c.in-Some.is
