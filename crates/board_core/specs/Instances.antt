-- An instance of a board, by the history: its recorder, its coregion, and the clocks of the messages that it is about
-- to send. Vector time is from Fidge 1988 and Mattern 1989; coregions are this project's profile.
use Rattle.std.specs.Prelude.{◌≡◌, ℕ, List, [], ◌∷◌}
use Rattle.chart.specs.declared.history.Occurrence.{Occurrence}
use Rattle.chart.specs.Events.{MayHaveRegion}
use Rattle.chart.specs.Histories.{chart_of}
use Rattle.line_recorder.specs.Recorders.{RecorderView, send_clock, after_send}
use Rattle.line_recorder.specs.Recording.{IsRecorder}
use Rattle.board_core.specs.Parcels.{Parcel}

-- the recorder of p and its open coregion are as the history has them
pub record IsInstance (n : ℕ) (h : List Occurrence) (p : ℕ) (r : RecorderView) (region : ℕ) : Type 0 where
  pub recorder : IsRecorder n h p r
  pub region_fits : MayHaveRegion (chart_of h p) region

-- each of these parcels has the clock that the recorder gives for it, after those before it
abbrev pub HaveClocks : RecorderView → ℕ → List Parcel → Type 0
HaveClocks r p [] = Unit {0}
HaveClocks r p (x ∷ xs) = (x.clock ≡ send_clock r) × HaveClocks (after_send r p x.message.name) p xs
