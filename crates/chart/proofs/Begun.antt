-- What stays the same from a legal history to one that begins with it.
use Rattle.std.proofs.Common.{◌≡◌, ℕ, ◌≤◌, ◌↔◌, List, [], ◌∷◌, ◌++◌, length, ap, ◌∙◌, subst}
use Rattle.chart.specs.declared.history.Occurrence.{Occurrence}
use Rattle.chart.specs.Events.{is_send_to}
use Rattle.chart.specs.Histories.{chart_of, IsLegal, Begins}
use Rattle.chart.specs.Charts.{Place, at, chart_event, BelongsTo}
use Rattle.chart.specs.Places.{IsEvent, IsSendAfter}
use Rattle.chart.specs.Order.{Before, IsReport}
use Rattle.chart.specs.Knowing.{IsKnown, IsGreatestHeard}
use Rattle.chart.proofs.Belongs.{IsEvent-from_passes}
use Rattle.chart.proofs.Growing.{GrowsTo, chart_event_grown, tally_grown, passes_grown, belongs_grown, belongs_shrunk, before_grown, before_shrunk, known_grown, report_grown, heard_grown}
use Rattle.chart.proofs.Sends.{grows_by_events, sends_of}

-- a beginning of a legal history is legal
pub legal_begun : (n k : ℕ) (h g : List Occurrence) → Begins h g → IsLegal n k g → IsLegal n k h
legal_begun n k h g (more, e) legal = go more (subst (λ x. IsLegal n k x) e legal)
  where
    go : (more : List Occurrence) → IsLegal n k (more ++ h) → IsLegal n k h
    go [] w = w
    go (x ∷ xs) w = go xs w.1

-- the chart grows
pub grows_from_begun : (h g : List Occurrence) → Begins h g → GrowsTo (chart_of h) (chart_of g)
grows_from_begun h g (more, e) p = let w = grows_by_events more h p in (w.0, ap (λ x. chart_of x p) e ∙ w.1)

-- the event at a place
pub chart_event_begun : (h g : List Occurrence) → Begins h g → (e : Place) → IsEvent (chart_of h) e → chart_event (chart_of g) e ≡ chart_event (chart_of h) e
chart_event_begun h g begins = chart_event_grown (chart_of h) (chart_of g) (grows_from_begun h g begins)

-- where a send of a lane is
pub send_begun : (h g : List Occurrence) → Begins h g → (q p i j : ℕ) → IsSendAfter (chart_of h q) p i j → IsSendAfter (chart_of g q) p i j
send_begun h g begins q p i j (passes, turn) =
    let grows = grows_from_begun h g begins in
    (passes_grown (chart_of h) (chart_of g) grows (is_send_to p) (at q j) passes, tally_grown (chart_of h) (chart_of g) grows (is_send_to p) (at q j) (IsEvent-from_passes (chart_of h) (is_send_to p) (at q j) passes) ∙ turn)

-- which send a receive belongs to
pub belongs_begun : (n k : ℕ) (h g : List Occurrence) → IsLegal n k h → Begins h g → (s r : Place) → IsEvent (chart_of h) r → BelongsTo (chart_of h) s r ↔ BelongsTo (chart_of g) s r
belongs_begun n k h g legal begins s r here =
    let grows = grows_from_begun h g begins in
    (belongs_grown (chart_of h) (chart_of g) grows s r, belongs_shrunk (chart_of h) (chart_of g) grows (sends_of n k h legal) s r here)

-- what is before an event
pub before_begun : (n k : ℕ) (h g : List Occurrence) → IsLegal n k h → Begins h g → (e f : Place) → IsEvent (chart_of h) f → Before (chart_of h) e f ↔ Before (chart_of g) e f
before_begun n k h g legal begins e f here =
    let grows = grows_from_begun h g begins in
    (λ before. before_grown (chart_of h) (chart_of g) grows before, before_shrunk (chart_of h) (chart_of g) grows (sends_of n k h legal) e f here)

-- what an event knows of a line
pub known_begun : (n k : ℕ) (h g : List Occurrence) → IsLegal n k h → Begins h g → (s : Place) (p m : ℕ) → IsEvent (chart_of h) s → IsKnown (chart_of h) s p m → IsKnown (chart_of g) s p m
known_begun n k h g legal begins = known_grown (chart_of h) (chart_of g) (grows_from_begun h g begins) (sends_of n k h legal)

-- a report
pub report_begun : (n k : ℕ) (h g : List Occurrence) → IsLegal n k h → Begins h g → (r : Place) (report : List ℕ) → IsEvent (chart_of h) r → IsReport (chart_of h) r report → IsReport (chart_of g) r report
report_begun n k h g legal begins = report_grown (chart_of h) (chart_of g) (grows_from_begun h g begins) (sends_of n k h legal)

-- the greatest heard of the first events of a line
pub heard_begun : (n k : ℕ) (h g : List Occurrence) → IsLegal n k h → Begins h g → (p i q m : ℕ) → i ≤ length (chart_of h p) → IsGreatestHeard (chart_of h) p i q m → IsGreatestHeard (chart_of g) p i q m
heard_begun n k h g legal begins = heard_grown (chart_of h) (chart_of g) (grows_from_begun h g begins) (sends_of n k h legal)
