-- A board as a pure machine (this project's profile): the lanes of all ordered pairs of instances, a recorder and an
-- open coregion for each instance, and the history of all sends, receives and closes.
use Rattle.std.specs.Prelude.{ℕ, ◌+◌, List, [], ◌∷◌, reverse, if◌then◌else◌}
use Rattle.chart.specs.declared.history.Occurrence.{Occurrence}
use Rattle.chart.specs.declared.history.Occurrence.TheVariants.{Send, Receive, Close}
use Rattle.chart.specs.Events.{greatest_region}
use Rattle.chart.specs.Messages.{Content}
use Rattle.chart.specs.Histories.{is_lane}
use Rattle.chart.specs.Reports.{ReportView}
use Rattle.lane_core.specs.Steps as lane
use Rattle.lane_core.specs.Traffic.{with_at}
use Rattle.lane_core.specs.IndexWords.{IndexLane, new_lane, after as lane_with}
use Rattle.line_recorder.specs.Recorders.{RecorderView, new_recorder, send_clock, after_sends, after_receive}
use Rattle.board_core.specs.Parcels.{Parcel, names}
use Rattle.board_core.specs.Steps.{Step, Sender_loads, Fills, Publishes, Closes, Receiver_loads, Takes, Puts_back, Frees, Opens, Shuts}

pub record World : Type 0 where
  -- by sender and receiver
  pub lanes : ℕ → ℕ → IndexLane Parcel
  pub recorders : ℕ → RecorderView
  -- each instance's open coregion, 0 for none
  pub regions : ℕ → ℕ
  -- the newest event first
  pub history : List Occurrence

-- n instances that have done nothing yet, with lanes of k slots
abbrev pub new_world : ℕ → ℕ → World
new_world n k = record { lanes = λ q p. new_lane k; recorders = λ p. new_recorder p n; regions = λ p. 0; history = [] }

-- The effect of a step on each part.

-- the lanes, with a new one from q to p
abbrev pub with_lane : (ℕ → ℕ → IndexLane Parcel) → ℕ → ℕ → IndexLane Parcel → ℕ → ℕ → IndexLane Parcel
with_lane lanes q p l a b = if is_lane q p a b then l else lanes a b

-- the lanes after a step on the one from q to p
abbrev pub lanes_with : World → ℕ → ℕ → lane.Step Parcel → ℕ → ℕ → IndexLane Parcel
lanes_with w q p step = with_lane w.lanes q p (lane_with (w.lanes q p) step)

-- the parcels that the lane's sender has put into slots and not sent yet
abbrev pub filled : World → ℕ → ℕ → List Parcel
filled w q p = (w.lanes q p).traffic.filling

-- the parcels that the lane's receiver has taken out of slots, and neither received yet nor put back
abbrev pub taken : World → ℕ → ℕ → List Parcel
taken w q p = reverse (w.lanes q p).traffic.emptying

-- the parcel that q puts into the lane to p: the message with the clock that q's recorder gives for it, after those
-- before
abbrev pub parcel_of : World → ℕ → ℕ → Content → Parcel
parcel_of w q p m = record { message = m; clock = send_clock (after_sends (w.recorders q) p (names (filled w q p))) }

-- the history after q's sends of these to p, one directly after another
abbrev pub with_sends : List Occurrence → ℕ → ℕ → List Parcel → List Occurrence
with_sends h q p [] = h
with_sends h q p (x ∷ xs) = with_sends (Send q p x.message ∷ h) q p xs

-- the history after p's receives of these from q, one directly after another
abbrev pub with_receives : List Occurrence → ℕ → ℕ → ℕ → List Parcel → List Occurrence
with_receives h p q c [] = h
with_receives h p q c (x ∷ xs) = with_receives (Receive p q c ∷ h) p q c xs

-- the recorder after receives of these parcels from q, with these reports
abbrev pub after_receives : RecorderView → ℕ → ℕ → List Parcel → List ReportView → RecorderView
after_receives r q c [] reports = r
after_receives r q c (x ∷ xs) [] = r
after_receives r q c (x ∷ xs) (report ∷ reports) =
    after_receives (after_receive r q x.message.name c x.clock report) q c xs reports

-- the world after a step
abbrev pub after : World → Step → World
after w (Sender_loads q p) = record w { lanes = lanes_with w q p lane.Sender_loads }
after w (Fills q p m) = record w { lanes = lanes_with w q p (lane.Fills (parcel_of w q p m)) }
after w (Publishes q p) = record w {
  lanes = lanes_with w q p lane.Publishes;
  recorders = with_at w.recorders q (after_sends (w.recorders q) p (names (filled w q p)));
  history = with_sends w.history q p (filled w q p);
}
after w (Closes q p) = record w { lanes = lanes_with w q p lane.Closes; history = Close q p ∷ w.history }
after w (Receiver_loads q p) = record w { lanes = lanes_with w q p lane.Receiver_loads }
after w (Takes q p) = record w { lanes = lanes_with w q p lane.Takes }
after w (Puts_back q p) = record w { lanes = lanes_with w q p lane.Puts_back }
after w (Frees q p reports) = record w {
  lanes = lanes_with w q p lane.Frees;
  recorders = with_at w.recorders p (after_receives (w.recorders p) q (w.regions p) (taken w q p) reports);
  history = with_receives w.history p q (w.regions p) (taken w q p);
}
after w (Opens p) = record w { regions = with_at w.regions p (greatest_region (w.recorders p).line.events + 1) }
after w (Shuts p) = record w { regions = with_at w.regions p 0 }
