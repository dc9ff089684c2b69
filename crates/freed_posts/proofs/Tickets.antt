-- Tickets that are issued one after another, and the tickets of seats.
use Rattle.std.proofs.Common.{◌≡◌, ℕ, suc, ◌<◌, List, [], ◌∷◌, ◌++◌, refl, sym, ap, ◌∙◌, subst, arith}
use Rattle.std.proofs.lemmas.List.{length_push}
use Rattle.std.specs.Prelude.{Option, Some, None}
use Rattle.atomic_table.specs.Seated.{TableId}
use Rattle.atomic_table.specs.Table.{rest}
use Rattle.board.specs.Views.{PostView}
use Rattle.chart.proofs.Places.{each-push}
use Rattle.freed_posts.specs.declared.change.Change.{Change}
use Rattle.freed_posts.specs.Shelves.{TicketView, AreFirst, new_ticket}
use Rattle.freed_posts.specs.Knowing.{Mine, issued, IsTicket}

pub first_none : (table : TableId) → AreFirst 0 table []
first_none table = record { as_many = refl; each = λ i x at. absurd (none_there x at) }
  where
    none_there : (x : TicketView) → None ≡ Some x → ⊥
    none_there x never = cc

pub first_next : (many next : ℕ) (table : TableId) (tickets : List TicketView) (ticket : TicketView) → AreFirst many table tickets → ticket ≡ new_ticket table (suc many) → suc many ≡ next → AreFirst next table (tickets ++ ticket ∷ [])
first_next many next table tickets ticket its new onward = record {
  as_many = length_push tickets ticket ∙ omega (arith, its.as_many, onward);
  each = each-push (λ i x. x ≡ new_ticket table (suc i)) tickets ticket its.each (new ∙ ap (λ i. new_ticket table (suc i)) (sym its.as_many));
}

-- the seat is that of a ticket
pub ticket_is : (table : TableId) (me : Mine) (place : ℕ) (seen : List Change) → place < table.words → ◌≡◌ {A = Mine} me (issued place seen, (place, None) ∷ []) → IsTicket table me
ticket_is table me place seen within same = subst (λ (m : Mine). IsTicket table m) (sym same) (record { within = within; is = refl })

-- what is in the place of a ticket's seat, after an exchange
pub filled : (me w : Mine) (mine place : ℕ) (seen : List Change) (content : Option PostView) → ◌≡◌ {A = Mine} me (issued mine seen, (mine, None) ∷ []) → mine ≡ place → ◌≡◌ {A = Mine} w (me.0, (place, content) ∷ rest me.1) → ◌≡◌ {A = Mine} w (issued place seen, (place, content) ∷ [])
filled me w mine place seen content was same is = is ∙ ap (λ (m : Mine). (m.0, (place, content) ∷ rest m.1)) was ∙ ap (λ (p : ℕ). (issued p seen, (place, content) ∷ [])) same
