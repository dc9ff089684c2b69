-- Full lines are the chart's.
use Rattle.std.proofs.Common.{◌≡◌, ℕ, ◌≤◌, List, length, inl, inr, sym, subst, arith}
use Rattle.chart.specs.Charts.{Place, LineView, chart_lines}
use Rattle.chart.specs.Events.{is_send_to}
use Rattle.chart.specs.Places.{IsEvent}
use Rattle.chart.proofs.Belongs.{IsEvent-from_passes}
use Rattle.closure.proofs.ReadLemmas.{instance_within}
use Rattle.repair.specs.Mends.{IsFull}

-- the instance of an event is one of the chart's
event_within : (lines : List LineView) (e : Place) → IsEvent (chart_lines lines) e → e.instance ≤ length lines
event_within lines e is = let w = instance_within lines e is in let same = w.1 in let less = w.2 in omega arith

pub full_within : (lines : List LineView) (e r : Place) (p : ℕ) → IsFull (chart_lines lines) e r p → p ≤ length lines
full_within lines e r p full =
    let race = full.asked.race.earlier in
    let ends = full.asked.ends in
    let begun = race.begun in
    let has = ends.has in
    let within = ends.within in
    let mine = event_within lines e (begun, omega arith) in
    let theirs = event_within lines full.send (IsEvent-from_passes (chart_lines lines) (is_send_to r.instance) full.send full.asked.belongs.sent) in
    elim full.full [ inl f ↦ subst (λ q. q ≤ length lines) (sym f.0) mine | inr f ↦ subst (λ q. q ≤ length lines) (sym f.0) theirs ]
