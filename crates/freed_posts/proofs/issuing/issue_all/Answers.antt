use Rattle.std.proofs.Common.{◌≡◌, ◌+◌, ℕ, suc, List, refl, sym, ap, ◌∙◌, subst, arith}
use Rattle.freed_posts.specs.Shelves.{TicketView, AreFirst}
use Rattle.freed_posts.specs.Knowing.{Mine, IsNext, ticket_for, rest_unissued}
use Rattle.freed_posts.proofs.Tickets.{first_none, first_next}
use Rattle.freed_posts.proofs.issuing.issue_all.Goals as goal

pub loop-place-init : goal.loop-place-init
loop-place-init c =
    let table = c.args.places.now.table_id in
    record {
      issued = subst (λ (xs : List TicketView). AreFirst 0 table xs) (sym c.in_ok-tickets.ensures.items) (first_none table);
      seated = c.requires.table;
      left = c.requires.whole;
    }

pub issue-requires-clause-next : goal.issue-requires-clause-next
issue-requires-clause-next c = subst (λ (m : Mine). IsNext m.0.right c.loop-place.place) (sym c.loop-place.invariant.left) (refl, c.loop-place-test.true)

pub loop-place-preserved : goal.loop-place-preserved
loop-place-preserved c =
    let place = c.loop-place.place in
    let table = c.args.places.now.table_id in
    let left = c.loop-place.invariant.left in
    let new = c.issue.ensures.ticket ∙ ap (λ (m : Mine). ticket_for table (suc place) m.0.seen) left in
    record {
      issued = subst (λ (xs : List TicketView). AreFirst (place + 1) table xs) (sym {A = List TicketView} c.in_ok-push.ensures.items)
          (first_next place (place + 1) table c.loop-place.tickets.items c.issue.result c.loop-place.invariant.issued new (omega arith));
      seated = c.issue.ensures.table ∙ c.loop-place.invariant.seated;
      left = c.issue.ensures.rest ∙ ap (λ (m : Mine). (rest_unissued m.0, m.1)) left;
    }

pub returns : goal.returns
returns c =
    let all : c.loop-place.place ≡ c.args.instances = omega arith in
    subst (λ (z : ℕ). AreFirst z c.args.places.now.table_id c.loop-place.tickets.items) all c.loop-place.invariant.issued
