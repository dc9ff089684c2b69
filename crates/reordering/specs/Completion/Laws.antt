-- What holds of the order if instances finish: statements that `laws` proves (this project's profile, over the
-- definitions that they cite).
use Rattle.std.specs.Prelude.{◌≡◌, ℕ, ◌<◌, ◌≤◌, ◌↔◌, ◌⊎◌, List, filter, nat_lt, Contains}
use Rattle.chart.specs.Words.{Indices}
use Rattle.chart.specs.declared.history.Occurrence.{Occurrence}
use Rattle.chart.specs.Histories.{chart_of, IsLegal, Begins}
use Rattle.chart.specs.Charts.{Chart, Place, at, IsPossible}
use Rattle.chart.specs.Order.{Before, IsReport}
use Rattle.chart.specs.Knowing.{IsUpTo}
use Rattle.reordering.specs.Completion.Orders.{Completed, IsFinished, IsFinishedUpTo, IsCompletedReport}
use Rattle.reordering.specs.Completion.Runs.{Finishes}
use Rattle.reordering.specs.OtherRuns.OtherRuns.{HasCome, IsRunOf}

-- the enforced order is part of it
abbrev pub PartLaw : Type 0
PartLaw = (c : Chart) (e f : Place) → Before c e f → Completed c e f

-- e is before f exactly in three cases: it is enforced before f; it is a send that is finished before f; it is enforced
-- before such a send
abbrev pub ClosedFormLaw : Type 0
ClosedFormLaw = (n : ℕ) (c : Chart) → IsPossible n c → (e f : Place)
    → Completed c e f ↔ (Before c e f ⊎ ((s : Place) × IsFinished c s f × IsUpTo c s e))

-- an event of a receive's own line is before it exactly in two cases: it is enforced before the receive; or it is the
-- last send that is finished before the receive, or earlier
abbrev pub OwnLineLaw : Type 0
OwnLineLaw = (n : ℕ) (c : Chart) → IsPossible n c → (r : Place) (k : ℕ) → IsFinishedUpTo c r k
    → (j : ℕ) → 1 ≤ j → j < r.index
    → Completed c (at r.instance j) r ↔ (Before c (at r.instance j) r ⊎ (j ≤ k))

-- there is only one number of the last such send
abbrev pub OneNumberLaw : Type 0
OneNumberLaw = (n : ℕ) (c : Chart) → IsPossible n c → (r : Place)
    → (k : ℕ) × IsFinishedUpTo c r k × ((l : ℕ) → IsFinishedUpTo c r l → l ≡ k)

-- no event is before itself
abbrev pub NoCycleLaw : Type 0
NoCycleLaw = (n : ℕ) (c : Chart) → IsPossible n c → (e : Place) → Completed c e e → ⊥

-- the remaining races are among the chart's races
abbrev pub OthersLaw : Type 0
OthersLaw = (c : Chart) (r : Place) (report left : Indices) → IsReport c r report → IsCompletedReport c r left
    → (j : ℕ) → Contains left j → Contains report j

-- they are the races later than the last send that is finished before the receive
abbrev pub CompletedReportLaw : Type 0
CompletedReportLaw = (n : ℕ) (c : Chart) → IsPossible n c → (r : Place) (report : Indices) → IsReport c r report
    → (k : ℕ) → IsFinishedUpTo c r k → IsCompletedReport c r (filter (nat_lt k) report)

-- in each run of the chart's events in which instances finish, the events before an event have come when it has
abbrev pub RunLaw : Type 0
RunLaw = (n : ℕ) (c : Chart) (g : List Occurrence) → IsRunOf n c g → Finishes c g → (e f : Place) → Completed c e f
    → (h : List Occurrence) → Begins h g → HasCome c h f → HasCome c h e

-- each legal history is such a run of its own chart's events
abbrev pub OwnRunLaw : Type 0
OwnRunLaw = (n k : ℕ) (h : List Occurrence) → IsLegal n k h → IsRunOf n (chart_of h) h × Finishes (chart_of h) h
