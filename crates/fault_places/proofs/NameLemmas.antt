-- The instances of a chain's events are instances of the chart.
use Rattle.std.proofs.Common.{◌≡◌, ℕ, zero, suc, ◌≤◌, List, [], ◌∷◌, length, subst, arith}
use Rattle.std.proofs.lemmas.Option.{none-some, same_Some}
use Rattle.closure.specs.Chain.Chains.{IsStepBy, Lead}
use Rattle.closure.specs.declared.chain.link.Link.{Link}
use Rattle.closure.specs.declared.chain.link.Rule.{Rule}
use Rattle.closure.specs.declared.chain.link.Rule.TheVariants.{Message, BeforeSend, SameSender}
use Rattle.chart.specs.Charts.{Place, LineView, chart_lines}
use Rattle.chart.specs.Events.{is_send_to, is_receive_from}
use Rattle.chart.specs.Places.{IsEvent}
use Rattle.chart.proofs.Belongs.{IsEvent-from_passes}
use Rattle.closure.specs.Faults.{place_of}
use Rattle.closure.proofs.ReadLemmas.{instance_within}
use Rattle.fault_places.specs.NamedCycles.{HasNames, HaveNames}

-- an event's instance is one of the chart's
event_within : (lines : List LineView) (e : Place) → IsEvent (chart_lines lines) e → e.instance ≤ length lines
event_within lines e event = let w = instance_within lines e event in omega (arith, w.1, w.2)

-- the instances of a step's events are
step_within : (lines : List LineView) (rule : Rule) (e f : Place) → IsStepBy (chart_lines lines) rule e f → (e.instance ≤ length lines) × (f.instance ≤ length lines)
step_within lines Message e f belongs = (
  event_within lines e (IsEvent-from_passes (chart_lines lines) (is_send_to f.instance) e belongs.sent),
  event_within lines f (IsEvent-from_passes (chart_lines lines) (is_receive_from e.instance) f belongs.received),
)
step_within lines BeforeSend e f (above, (q, sends)) =
    let low = event_within lines f (IsEvent-from_passes (chart_lines lines) (is_send_to q) f sends) in
    (omega (arith, above.line, low), low)
step_within lines SameSender e f (above, (q, from, to)) =
    let low = event_within lines f (IsEvent-from_passes (chart_lines lines) (is_receive_from q) f to) in
    (omega (arith, above.line, low), low)

-- the instances of all links are
pub links_have_names : (lines : List LineView) (names : List (List ℕ)) (e f : Place) (links : List Link) → length lines ≡ length names → Lead (chart_lines lines) e f links → HaveNames names links
links_have_names lines names e f [] whole lead i link there = absurd (none-some link there)
links_have_names lines names e f (first ∷ links) whole (is, step, rest) zero link there =
    let w = step_within lines first.rule (place_of first.earlier) (place_of first.later) step in
    subst (HasNames names) (same_Some first link there) (omega (arith, w.0, whole), omega (arith, w.1, whole))
links_have_names lines names e f (first ∷ links) whole (is, step, rest) (suc i) link there = links_have_names lines names (place_of first.later) f links whole rest i link there
