-- Fronts: for each line the last of some of its events (this project's own).
use Rattle.std.specs.Prelude.{◌≡◌, ℕ, ◌≤◌, ◌⊎◌, List, length}
use Rattle.chart.specs.Words.{Counts}
use Rattle.chart.specs.Places.{IsEvent}
use Rattle.chart.specs.Charts.{Place, at, LineView, IsChart, chart_lines}
use Rattle.closure.specs.Rows.{entry, AreRows}
use Rattle.closure.specs.Cycle.Rounds.{IsReceivedAbove, Leads}

-- for each of n lines the number of its last event of this kind, or 0 if it has none
pub record IsFront (n : ℕ) (Has : Place → Type 0) (front : Counts) : Type 0 where
  pub whole : length front ≡ n
  pub sound : (p : ℕ) → (entry front p ≡ 0) ⊎ Has (at p (entry front p))
  pub most : (e : Place) → Has e → e.index ≤ entry front e.instance

-- for each line the last send whose message is received above the event e
abbrev pub IsHeard : List LineView → Place → Counts → Type 0
IsHeard lines e front = IsFront (length lines) (IsReceivedAbove (chart_lines lines) e) front

-- the lines are a chart, and for each event there is its front
pub record AreHeard (lines : List LineView) (fronts : List (List Counts)) : Type 0 where
  pub chart : IsChart lines
  pub rows : AreRows (IsHeard lines) (chart_lines lines) (length lines) fronts

-- for each line the last send from which `many` messages lead to the event e
abbrev pub IsLead : List LineView → Place → ℕ → Counts → Type 0
IsLead lines e many front = IsFront (length lines) (Leads (chart_lines lines) e many) front

-- they lead to some event of the chart
abbrev pub IsSomeLead : List LineView → Counts → Type 0
IsSomeLead lines front = (e : Place) × (many : ℕ) × IsEvent (chart_lines lines) e × IsLead lines e many front
