use Rattle.std.proofs.Common.{◌≡◌, ℕ, suc, ◌<◌, [], ◌∷◌, sym, ap, ◌∙◌, subst, arith}
use Rattle.std.specs.Prelude.{Some}
use Rattle.atomic_table.specs.Seated.{TableId}
use Rattle.atomic_table.specs.Table.{Allows}
use Rattle.board.specs.Parked.{IsAtBoard}
use Rattle.freed_posts.specs.Shelves.{ShelfView, TicketView, AreOthers, lying}
use Rattle.freed_posts.specs.Knowing.{Mine, issued, place_of}
use Rattle.freed_posts.specs.Plays.{KeepsAt}
use Rattle.freed_posts.specs.Rule.{IsShelf}
use Rattle.freed_posts.proofs.Steps.{keeps_post}
use Rattle.freed_posts.proofs.Tickets.{filled}
use Rattle.freed_posts.proofs.shelf.Shelf.keep.Goals as goal

pub store-requires : goal.store-requires
store-requires c =
    let shelf = c.self.inside.table.shared in let me = c.ticket.inside.seat.me in let place = c.place-place.result in
    let ticket_number : suc (place_of me.0.right) ≡ c.args.ticket.number = ap (λ (t : TicketView). t.number) c.ticket.view_is in
    let number : c.args.post.number ≡ suc place = sym c.number.ensures ∙ c.place-place.ensures.value in
    let mine : place_of me.0.right ≡ place = omega (arith, ticket_number, c.requires.number_is, number) in
    let table : c.ticket.inside.seat.table_id ≡ shelf.table_id = ap (λ (t : TicketView). t.shelf) c.ticket.view_is ∙ c.requires.shelf_is ∙ sym (ap (λ (s : ShelfView). s.table) c.self.view_is) in
    let within : place < shelf.table_id.words = omega (arith, mine, ap (λ (t : TableId). t.words) table, c.ticket.invariant.within) in (
      c.exchange.ensures.0 ∙ table,
      within,
      subst (λ (m : Mine). Allows (IsShelf shelf.key.key shelf.key.table_id) shelf.table_id.slots c.exchange.new.seat.id m place (λ x. 1) (λ x w. KeepsAt place m w))
          (sym (filled me c.exchange.new.seat.me (place_of me.0.right) place me.0.seen (Some c.args.post) c.ticket.invariant.is mine c.exchange.ensures.3))
          (keeps_post shelf.key.key shelf.key.table_id shelf.table_id.slots c.exchange.new.seat.id place me.0.seen c.args.post (subst (λ (s : ShelfView). IsAtBoard s.key s.board c.args.post) (sym c.self.view_is) c.requires.at) number),
    )

pub returns : goal.returns
returns c =
    let me = c.ticket.inside.seat.me in let place = c.place-place.result in let post = c.args.post in
    let ticket_number : suc (place_of me.0.right) ≡ c.args.ticket.number = ap (λ (t : TicketView). t.number) c.ticket.view_is in
    let number : post.number ≡ suc place = sym c.number.ensures ∙ c.place-place.ensures.value in
    let mine : place_of me.0.right ≡ place = omega (arith, ticket_number, c.requires.number_is, number) in
    let kept : KeepsAt place (issued place me.0.seen, (place, Some post) ∷ []) c.store.new.seat.me =
    subst (λ (m : Mine). KeepsAt place m c.store.new.seat.me)
    (filled me c.exchange.new.seat.me (place_of me.0.right) place me.0.seen (Some post) c.ticket.invariant.is mine c.exchange.ensures.3)
    c.store.ensures.2 in
    record {
      shelf_is = c.store.ensures.0 ∙ c.exchange.ensures.0 ∙ ap (λ (t : TicketView). t.shelf) c.ticket.view_is;
      before = kept.before;
      others = subst (λ (t : TicketView). AreOthers t.number t.seen kept.before) c.ticket.view_is (subst (λ (p : ℕ). AreOthers (suc p) me.0.seen kept.before) (sym mine) kept.others);
      vacant = ap (lying kept.before) number ∙ kept.vacant;
      seen = ap (λ (m : Mine). m.0.seen) kept.is;
    }
