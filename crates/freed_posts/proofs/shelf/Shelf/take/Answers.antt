use Rattle.std.proofs.Common.{◌≡◌, suc, [], ◌∷◌, sym, ap, ◌∙◌, subst, arith}
use Rattle.std.specs.Prelude.{None}
use Rattle.atomic_table.specs.Table.{Allows}
use Rattle.freed_posts.specs.declared.change.Change.TheVariants.{Taken}
use Rattle.freed_posts.specs.Shelves.{ShelfView, TicketView}
use Rattle.freed_posts.specs.Knowing.{Mine, place_of}
use Rattle.freed_posts.specs.Plays.{Hands, TakesOut}
use Rattle.freed_posts.specs.Rule.{IsShelf}
use Rattle.freed_posts.proofs.Steps.{hands}
use Rattle.freed_posts.proofs.shelf.Shelf.take.Goals as goal

pub load-requires : goal.load-requires
load-requires c =
    let shelf = c.self.inside.table.shared in let place = c.place-place.result in let mine = place_of c.ticket.inside.seat.me.0.right in let id = c.take_out.new.seat.id in
    let table : c.ticket.inside.seat.table_id ≡ shelf.table_id = ap (λ (t : TicketView). t.shelf) c.ticket.view_is ∙ c.requires.shelf ∙ sym (ap (λ (s : ShelfView). s.table) c.self.view_is) in
    let key_is = ap (λ (s : ShelfView). s.key) c.self.view_is in
    let took : TakesOut shelf.key.key shelf.key.table_id place c.ticket.inside.seat.me.0 c.in_ok-post.post c.take_out.new.seat.me = c.in_ok-post.ensures.took in (
      c.take_out.ensures.table ∙ table,
      rw c.self.invariant.words (rw key_is (omega (arith, c.place-place.ensures.value, c.requires.number))),
      subst (λ (m : Mine). Allows (IsShelf shelf.key.key shelf.key.table_id) shelf.table_id.slots id m place (λ x. x) (λ x w. Hands place m w)) (sym took.2)
          (hands shelf.key.key shelf.key.table_id shelf.table_id.slots id mine place (Taken (suc place) (suc mine) ∷ took.0) ((mine, None) ∷ [])),
    )
