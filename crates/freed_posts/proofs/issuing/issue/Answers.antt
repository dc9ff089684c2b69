use Rattle.std.proofs.Common.{◌≡◌, ℕ, ◌+◌, ◌<◌, [], ◌∷◌, sym, ap, ap₂, ◌∙◌, subst, arith}
use Rattle.std.specs.Prelude.{None}
use Rattle.atomic_table.specs.Seated.{TableId}
use Rattle.atomic_table.specs.Table.{Allows}
use Rattle.freed_posts.specs.declared.knowledge.Right.{Right}
use Rattle.freed_posts.specs.Knowing.{Mine, knowledge, unissued, issued, first_issued, IsNext, ticket_of}
use Rattle.freed_posts.specs.Plays.{Issues}
use Rattle.freed_posts.specs.Rule.{IsShelf}
use Rattle.freed_posts.proofs.Steps.{splits, next_is, issues}
use Rattle.freed_posts.proofs.Tickets.{ticket_is}
use Rattle.freed_posts.proofs.issuing.issue.Goals as goal

pub split_seat-chair-requires : goal.split_seat-chair-requires
split_seat-chair-requires c =
    let board = c.args.places.now.key in let view = c.args.seat.now.me.0 in (
      c.requires.table,
      omega (arith, c.requires.shelf.words, c.requires.place),
      splits board.key board.table_id c.args.seat.now.id view.right view.seen c.args.place c.requires.next,
    )

-- the new seat, before its place goes out with it
chair : (me w : Mine) (place : ℕ) → IsNext me.0.right place → ◌≡◌ {A = Mine} w (first_issued me.0, []) → ◌≡◌ {A = Mine} w (unissued place (place + 1) me.0.seen, [])
chair me w place next is = is ∙ ap (λ (r : Right). (knowledge r me.0.seen, [])) (next_is me.0.right place next)

pub load-requires : goal.load-requires
load-requires c =
    let board = c.args.places.now.key in let place = c.args.place in let slots = c.args.places.now.table_id.slots in let id = c.split_seat-chair.result.id in (
      c.split_seat-chair.ensures.3 ∙ c.requires.table,
      omega (arith, c.requires.shelf.words, c.requires.place),
      subst (λ (m : Mine). Allows (IsShelf board.key board.table_id) slots id m place (λ x. x) (λ x w. Issues place m w))
          (sym (chair c.args.seat.now.me c.split_seat-chair.result.me place c.requires.next c.split_seat-chair.ensures.4))
          (issues board.key board.table_id slots id place c.args.seat.now.me.0.seen),
    )

-- the ticket's seat
seat : (c : goal.After-load) → ◌≡◌ {A = Mine} c.load.new.seat.me (issued c.args.place c.args.seat.now.me.0.seen, (c.args.place, None) ∷ [])
seat c =
    subst (λ (m : Mine). Issues c.args.place m c.load.new.seat.me)
    (chair c.args.seat.now.me c.split_seat-chair.result.me c.args.place c.requires.next c.split_seat-chair.ensures.4)
    c.load.ensures.2

pub invariant_of-result : goal.invariant_of-result
invariant_of-result c =
    let table : c.load.new.seat.table_id ≡ c.args.places.now.table_id = c.load.ensures.0 ∙ c.split_seat-chair.ensures.3 ∙ c.requires.table in
    let within : c.args.place < c.load.new.seat.table_id.words = omega (arith, ap (λ (t : TableId). t.words) table, c.requires.shelf.words, c.requires.place) in
    ticket_is c.load.new.seat.table_id c.load.new.seat.me c.args.place c.args.seat.now.me.0.seen within (seat c)

pub returns-clause-ticket : goal.returns-clause-ticket
returns-clause-ticket c =
    let table : c.load.new.seat.table_id ≡ c.args.places.now.table_id = c.load.ensures.0 ∙ c.split_seat-chair.ensures.3 ∙ c.requires.table in
    ap₂ ticket_of table (seat c)
