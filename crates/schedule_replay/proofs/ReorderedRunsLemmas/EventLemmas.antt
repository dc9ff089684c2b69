-- Whether a chart has an event, and whether it is a receive.
use Rattle.std.proofs.Common.{◌≡◌, ℕ, ◌↔◌, Bool, true, Option, None, Some, refl, sym, ◌∙◌, subst, eq-eqb}
use Rattle.std.specs.Prelude.{IsTrue}
use Rattle.std.specs.Option.{is_some}
use Rattle.std.proofs.lemmas.Bool.{false≢true}
use Rattle.std.proofs.lemmas.Option.{none-some, same_Some}
use Rattle.chart.specs.declared.event.Event.{Event}
use Rattle.chart.specs.declared.event.Event.TheVariants.{Send, Receive}
use Rattle.chart.specs.Events.{is_receive_from}
use Rattle.chart.specs.Charts.{Chart, Place, chart_event, IsReceiveFrom}
use Rattle.chart.specs.Places.{IsEvent}
use Rattle.chart.proofs.Belongs.{IsEvent-from_event}
use Rattle.chart.proofs.Tally.{ith_at}
use Rattle.schedule_replay.specs.ReorderedRuns.Reorderings.{receives}

-- there is an event exactly if the read finds one
pub event_there : (c : Chart) (e : Place) (b : Bool) → b ≡ is_some (chart_event c e) → IsTrue b ↔ IsEvent c e
event_there c e b is = subst (λ x. IsTrue x ↔ IsEvent c e) (sym is) (go (chart_event c e) refl)
  where
    go : (found : Option Event) → chart_event c e ≡ found → IsTrue (is_some found) ↔ IsEvent c e
    go None none = (λ t. absurd (false≢true t), λ here. let w = ith_at (c e.instance) e.index here.0 here.1 in absurd (none-some w.0 (sym none ∙ w.1)))
    go (Some m) some = (λ t. IsEvent-from_event c e m some, λ here. refl)

-- there is a receive exactly if the read finds a receive
pub receive_there : (c : Chart) (e : Place) (b : Bool) → b ≡ receives (chart_event c e) → IsTrue b ↔ ((q : ℕ) × IsReceiveFrom c q e)
receive_there c e b is = subst (λ x. IsTrue x ↔ ((q : ℕ) × IsReceiveFrom c q e)) (sym is) (go (chart_event c e) refl)
  where
    go : (found : Option Event) → chart_event c e ≡ found → IsTrue (receives found) ↔ ((q : ℕ) × IsReceiveFrom c q e)
    go None none = (λ t. absurd (false≢true t), λ (q, (m, at_e, from)). absurd (none-some m (sym none ∙ at_e)))
    go (Some (Send to name)) some = (λ t. absurd (false≢true t), λ (q, (m, at_e, from)). absurd (false≢true (subst (λ x. is_receive_from q x ≡ true) (same_Some m (Send to name) (sym at_e ∙ some)) from)))
    go (Some (Receive from name region)) some = (λ t. (from, (Receive from name region, some, eq-eqb from from refl)), λ there. refl)
