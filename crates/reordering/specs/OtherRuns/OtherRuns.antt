-- Other runs with a chart's events and causes, and pairs that one of them reverses (after the feasible executions of
-- Netzer and Miller 1992; that events are identified by lane and turn is this project's profile).
--
-- An event is identified by its lane and its turn there, as the third message from 2 to 1, or the receive of that
-- message. So two runs are compared by counts, and no map between the places of two charts is needed.
use Rattle.std.specs.Prelude.{◌≡◌, ℕ, ◌<◌, ◌≤◌, ◌↔◌, ◌⊎◌, ◌+◌, false, List, [], ◌∷◌, length, map, Some, count_by, AllPairs, Contains, if◌then◌else◌, ◌==◌}
use Rattle.chart.specs.Words.{Indices, Name}
use Rattle.chart.specs.declared.history.Occurrence.{Occurrence}
use Rattle.chart.specs.declared.event.Event.{Event}
use Rattle.chart.specs.declared.event.Event.TheVariants.{Send, Receive}
use Rattle.chart.specs.Messages.{Content}
use Rattle.chart.specs.Events.{is_send_to, is_receive_from, is_in, tally}
use Rattle.chart.specs.Histories.{sent, received, chart_of, IsLegal, Begins}
use Rattle.chart.specs.Charts.{Chart, Place, at, chart_event, IsSendTo, IsReceiveFrom}
use Rattle.chart.specs.Order.{Direct, region_of_event}
use Rattle.chart.specs.Knowing.{IsUpTo}

-- the event at e of the chart has come in the history: its lane has at least as many sends, or receives, as the chart
-- has up to e
pub data HasCome (c : Chart) (h : List Occurrence) (e : Place) : Type 0 where
  was_sent : (q : ℕ) → IsSendTo c q e
      → tally (is_send_to q) (c e.instance) e.index ≤ length (sent h e.instance q) → HasCome c h e
  was_received : (q : ℕ) → IsReceiveFrom c q e
      → tally (is_receive_from q) (c e.instance) e.index ≤ received h q e.instance → HasCome c h e

-- the names of a line's sends to p, in order
abbrev pub names_to : ℕ → List Event → List Name
names_to p [] = []
names_to p (Send to name ∷ line) = if to == p then name ∷ names_to p line else names_to p line
names_to p (Receive from name region ∷ line) = names_to p line

-- on each lane the history has the chart's messages, by name, and as many receives
pub record HasEventsOf (c : Chart) (h : List Occurrence) : Type 0 where
  pub messages : (q p : ℕ) → map (λ (m : Content). m.name) (sent h q p) ≡ names_to p (c q)
  pub receives : (q p : ℕ) → received h q p ≡ count_by (is_receive_from q) (c p)

-- whenever an event has come in the history, all events that the chart puts directly before it have come
abbrev pub KeepsCauses : Chart → List Occurrence → Type 0
KeepsCauses c g =
    (h : List Occurrence) → Begins h g → (e f : Place) → Direct c e f → HasCome c h f → HasCome c h e

-- a run of the chart's events: a legal history of n instances whose lanes have k slots each
pub record IsRunWithin (n k : ℕ) (c : Chart) (g : List Occurrence) : Type 0 where
  pub legal : IsLegal n k g
  pub events : HasEventsOf c g
  pub causes : KeepsCauses c g

-- the same with any number of slots
abbrev pub IsRunOf : ℕ → Chart → List Occurrence → Type 0
IsRunOf n c g = (k : ℕ) × IsRunWithin n k c g

-- at some moment of the history r has come, and e has not
abbrev pub IsOvertaken : Chart → List Occurrence → Place → Place → Type 0
IsOvertaken c g e r = (h : List Occurrence) × Begins h g × HasCome c h r × (HasCome c h e → ⊥)

-- at some moment of the history exactly r and the events that are enforced before r have come
abbrev pub ComesFirst : Chart → List Occurrence → Place → Type 0
ComesFirst c g r = (h : List Occurrence) × Begins h g × ((e : Place) → HasCome c h e ↔ IsUpTo c r e)

-- some run of the chart's events has r before e
abbrev pub CanBeOvertaken : ℕ → Chart → Place → Place → Type 0
CanBeOvertaken n c e r = (g : List Occurrence) × IsRunOf n c g × IsOvertaken c g e r

-- Runs whose lanes have a given number of slots.

-- what is enforced directly over lanes with k slots: all directly enforced pairs; and the n-th receive of a lane comes
-- before the send that is k further on, and before later ones
pub data DirectWithin (k : ℕ) (c : Chart) (e f : Place) : Type 0 where
  enforced : Direct c e f → DirectWithin k c e f
  freed : IsReceiveFrom c f.instance e → IsSendTo c e.instance f
      → tally (is_receive_from f.instance) (c e.instance) e.index + k
      ≤ tally (is_send_to e.instance) (c f.instance) f.index
      → DirectWithin k c e f

-- enforced over lanes with k slots: the least transitive relation that has all direct steps
pub data BeforeWithin (k : ℕ) (c : Chart) : Place → Place → Type 0 where
  direct : {e f : Place} → DirectWithin k c e f → BeforeWithin k c e f
  through : {e d f : Place} → BeforeWithin k c e d → BeforeWithin k c d f → BeforeWithin k c e f

-- at some moment of the history exactly r and the events that are enforced before r over lanes with k slots have come
abbrev pub ComesFirstWithin : ℕ → Chart → List Occurrence → Place → Type 0
ComesFirstWithin k c g r = (h : List Occurrence) × Begins h g
    × ((e : Place) → HasCome c h e ↔ ((e ≡ r) ⊎ BeforeWithin k c e r))

-- the chart is that of a history that is legal with k slots
abbrev pub IsPossibleWithin : ℕ → ℕ → Chart → Type 0
IsPossibleWithin n k c = (h : List Occurrence) × IsLegal n k h × ((p : ℕ) → chart_of h p ≡ c p)

-- some run of the chart's events has r before e, with k slots
abbrev pub CanBeOvertakenWithin : ℕ → ℕ → Chart → Place → Place → Type 0
CanBeOvertakenWithin n k c e r = (g : List Occurrence) × IsRunWithin n k c g × IsOvertaken c g e r

-- Reports.

-- the chart has an event at e, outside of the coregion of r
abbrev pub IsOutside : Chart → Place → Place → Type 0
IsOutside c r e = (m : Event) × (chart_event c e ≡ Some m) × (is_in (region_of_event (chart_event c r)) m ≡ false)

-- the earlier events of the line of r, outside of its coregion, that r can overtake, in rising order
pub record AreOvertaken (n : ℕ) (c : Chart) (r : Place) (report : Indices) : Type 0 where
  pub rising : AllPairs (λ i j. i < j) report
  pub exact : (j : ℕ) → Contains report j
      ↔ ((j < r.index) × IsOutside c r (at r.instance j) × CanBeOvertaken n c (at r.instance j) r)
