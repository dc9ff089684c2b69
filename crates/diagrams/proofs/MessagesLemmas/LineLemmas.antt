-- The ends of messages, one message after the other; and the events of a line.
use Rattle.std.proofs.Common.{◌≡◌, ℕ, ◌+◌, ◌<◌, ◌≤◌, Bool, true, false, not, ◌&&◌, ◌==◌, cond, inl, inr, List, [], ◌∷◌, ◌++◌, Option, None, Some, length, drop, get_or, refl, sym, subst, arith, append_assoc}
use Rattle.std.proofs.lemmas.List.{drop_all, append-nil}
use Rattle.std.proofs.lemmas.Bool.{and_parts}
use Rattle.chart.specs.declared.event.Event.{Event}
use Rattle.chart.specs.declared.event.Event.TheVariants.{Send, Receive}
use Rattle.chart.specs.Events.{greatest_region, last_region, MayHaveRegion}
use Rattle.chart.specs.Charts.{LineView}
use Rattle.chart.specs.Events as events
use Rattle.chart.proofs.Regions.{greatest_region-push, last_region-push}
use Rattle.diagrams.specs.Messages.Opening.{IsOpen}
use Rattle.diagrams.specs.Messages.Regions.{are_together, goes_on, begins, region_of, event_of, with_ends}
use Rattle.diagrams.specs.Messages.Turns.{ends_of, all_ends}
use Rattle.diagrams.specs.declared.messages.end.End.{End}
use Rattle.diagrams.specs.declared.messages.message.Named.{Named}
use Rattle.diagrams.proofs.MessagesLemmas.ListLemmas.{from_here}

-- one more message
pub ends_more : (done next : List End) (n : ℕ) (messages : List Named) (m : Named) → n < length messages → m ≡ get_or messages n m
    → next ≡ done ++ ends_of m → next ++ all_ends (drop (n + 1) messages) ≡ done ++ all_ends (drop n messages)
unfolding all_ends
ends_more done next n messages m within is e = rw (from_here messages n m within is, e) (append_assoc done (ends_of m) _)

pub ends_end : (done : List End) (n : ℕ) (messages : List Named) → length messages ≤ n → done ++ all_ends (drop n messages) ≡ done
unfolding all_ends
ends_end done n messages past = rw (drop_all n messages past) (append-nil done)

-- before the first end
pub open_none : (ends : List End) → IsOpen None [] ends
open_none [] = record { held = λ e. absurd (cc e) }
open_none (e ∷ ends) = record { held = λ e. absurd (cc e) }

-- the coregion of the next end may come next
pub may_come : (last : Option End) (line : List Event) (e : End) (ends : List End) → IsOpen last line (e ∷ ends) → MayHaveRegion line (events.region_of (event_of e (region_of last (greatest_region line) e ends)))
may_come last line e ends is_open = go e.sends (goes_on last e) (begins e ends) is_open.held
  where
    go : (sends on new : Bool) → (on ≡ true → (0 < greatest_region line) × (greatest_region line ≡ last_region line))
        → MayHaveRegion line (events.region_of (cond sends (Send e.partner e.name) (Receive e.partner e.name (cond on (greatest_region line) (cond new (greatest_region line + 1) 0)))))
    go true on new kept = inl refl
    go false true new kept = inr (inr ((kept refl).0, refl, (kept refl).1))
    go false false true kept = inr (inl refl)
    go false false false kept = inl refl

-- an event whose coregion is at least the greatest one ends a line in its greatest coregion
open_at : (line : List Event) (m : Event) → 0 < events.region_of m → greatest_region line ≤ events.region_of m
    → (0 < greatest_region (line ++ m ∷ [])) × (greatest_region (line ++ m ∷ []) ≡ last_region (line ++ m ∷ []))
open_at line m begun no_less = (omega (arith, greatest_region-push line m), omega (arith, greatest_region-push line m, last_region-push line m))

-- the line after the next end
pub open_next : (last : Option End) (line : List Event) (e : End) (ends : List End) → IsOpen last line (e ∷ ends) → IsOpen (Some e) (line ++ event_of e (region_of last (greatest_region line) e ends) ∷ []) ends
open_next last line e [] is_open = record { held = λ h. absurd (cc h) }
open_next last line e (f ∷ ends) is_open = record { held = λ h. go e.sends (goes_on last e) (and_parts (not e.sends) (not f.sends && e.turn == f.turn) h).0 h is_open.held }
  where
    go : (sends on : Bool) → not sends ≡ true → are_together e f ≡ true → (on ≡ true → (0 < greatest_region line) × (greatest_region line ≡ last_region line))
        → (0 < greatest_region (line ++ cond sends (Send e.partner e.name) (Receive e.partner e.name (cond on (greatest_region line) (cond (are_together e f) (greatest_region line + 1) 0))) ∷ []))
        × (greatest_region (line ++ cond sends (Send e.partner e.name) (Receive e.partner e.name (cond on (greatest_region line) (cond (are_together e f) (greatest_region line + 1) 0))) ∷ [])
        ≡ last_region (line ++ cond sends (Send e.partner e.name) (Receive e.partner e.name (cond on (greatest_region line) (cond (are_together e f) (greatest_region line + 1) 0))) ∷ []))
    go true on receives together kept = absurd (cc receives)
    go false true receives together kept = open_at line (Receive e.partner e.name (greatest_region line)) (kept refl).0 (omega arith)
    go false false receives together kept = rw together (open_at line (Receive e.partner e.name (greatest_region line + 1)) (omega arith) (omega arith))

-- the ends from one on
pub end_here : (ends : List End) (n : ℕ) (e : End) (last : Option End) (line : List Event) → n < length ends → e ≡ get_or ends n e → IsOpen last line (drop n ends) → IsOpen last line (e ∷ drop (n + 1) ends)
end_here ends n e last line within is is_open = subst (IsOpen last line) (from_here ends n e within is) is_open

-- one more end, and all ends
pub line_more : (last : Option End) (line more : List Event) (ends : List End) (n : ℕ) (e : End) → n < length ends → e ≡ get_or ends n e
    → more ≡ line ++ event_of e (region_of last (greatest_region line) e (drop (n + 1) ends)) ∷ []
    → with_ends (Some e) more (drop (n + 1) ends) ≡ with_ends last line (drop n ends)
unfolding with_ends
line_more last line more ends n e within is f = rw (from_here ends n e within is, f) refl

pub open_more : (last : Option End) (line more : List Event) (ends : List End) (n : ℕ) (e : End) → IsOpen last line (e ∷ drop (n + 1) ends)
    → more ≡ line ++ event_of e (region_of last (greatest_region line) e (drop (n + 1) ends)) ∷ []
    → IsOpen (Some e) more (drop (n + 1) ends)
open_more last line more ends n e is_open f = subst (λ l. IsOpen (Some e) l (drop (n + 1) ends)) (sym f) (open_next last line e (drop (n + 1) ends) is_open)

pub line_end : (last : Option End) (line : List Event) (ends : List End) (n : ℕ) → length ends ≤ n → with_ends last line (drop n ends) ≡ line
unfolding with_ends
line_end last line ends n past = rw (drop_all n ends past) refl

-- a line is its instance and its events
pub whole_line : (line : LineView) (p : ℕ) (events : List Event) → line.instance ≡ p → line.events ≡ events → line ≡ record { instance = p; events = events }
whole_line line p events e f = rw (sym e, sym f) refl
