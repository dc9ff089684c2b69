-- A board whose instances are all between two calls, and one with a call in the middle.
use Rattle.std.proofs.Common.{◌≡◌, ◌≢◌, ℕ, false, [], sym, ap, ◌∙◌}
use Rattle.std.specs.Prelude.{reverse}
use Rattle.chart.specs.Histories.{is_lane}
use Rattle.chart.proofs.Histories.{is_lane-same, is_lane-from, is_lane-to}
use Rattle.lane_core.specs.IndexWords.{IndexLane}
use Rattle.board_core.specs.Parcels.{Parcel}
use Rattle.board_core.specs.World.{World, with_lane}
use Rattle.board_core.specs.Runs.{SendsAlone, ReceivesAlone, IsIdle}
use Rattle.board_core.proofs.Standing.{with_lane-each}

-- the hands of the lane's ends are empty
pub record IsAtRest (l : IndexLane Parcel) : Type 0 where
  pub filled : l.traffic.filling ≡ []
  pub taken : l.traffic.emptying ≡ []

-- all instances are between two calls
abbrev pub AreAtRest : World → Type 0
AreAtRest w = (q p : ℕ) → IsAtRest (w.lanes q p)

module _ (w : World) (rest : AreAtRest w) where
  pub sends_alone : (q p : ℕ) → SendsAlone w q p
  sends_alone q p = record { filled_no_other = λ b ne. (rest q b).filled; taken_nothing = λ a. ap reverse (rest a q).taken }

  pub receives_alone : (q p : ℕ) → ReceivesAlone w q p
  receives_alone q p = record { filled_nothing = λ b. (rest p b).filled; taken_no_other = λ a ne. ap reverse (rest a p).taken }

  pub is_idle : (p : ℕ) → IsIdle w p
  is_idle p = record { filled_nothing = λ b. (rest p b).filled; taken_nothing = λ a. ap reverse (rest a p).taken }

-- the changed lane
pub lane_here : (w : World) (q p : ℕ) (l : IndexLane Parcel) → with_lane w.lanes q p l q p ≡ l
lane_here w q p l = rw (is_lane-same q p)

-- another lane
pub lane_there : (w : World) (q p a b : ℕ) (l : IndexLane Parcel) → is_lane q p a b ≡ false → with_lane w.lanes q p l a b ≡ w.lanes a b
lane_there w q p a b l other = rw other

-- lanes at rest, with a new one that is at rest too
pub rest_with : (w : World) (q p : ℕ) (l : IndexLane Parcel) → AreAtRest w → IsAtRest l → (a b : ℕ) → IsAtRest (with_lane w.lanes q p l a b)
rest_with w q p l rest its = with_lane-each (λ a b x. IsAtRest x) w.lanes q p l its (λ a b other. rest a b)

-- an end that changes only its lane is in the middle of a call there
pub sends_alone_with : (w : World) (q p : ℕ) (l : IndexLane Parcel) → AreAtRest w → q ≢ p → SendsAlone (record w { lanes = with_lane w.lanes q p l }) q p
sends_alone_with w q p l rest differ = record {
  filled_no_other = λ b ne. ap (λ (x : IndexLane Parcel). x.traffic.filling) (lane_there w q p q b l (is_lane-to q p q b ne)) ∙ (rest q b).filled;
  taken_nothing = λ a. ap (λ (x : IndexLane Parcel). reverse x.traffic.emptying) (lane_there w q p a q l (is_lane-to q p a q differ)) ∙ ap reverse (rest a q).taken;
}

pub receives_alone_with : (w : World) (q p : ℕ) (l : IndexLane Parcel) → AreAtRest w → q ≢ p → ReceivesAlone (record w { lanes = with_lane w.lanes q p l }) q p
receives_alone_with w q p l rest differ = record {
  filled_nothing = λ b. ap (λ (x : IndexLane Parcel). x.traffic.filling) (lane_there w q p p b l (is_lane-from q p p b (λ same. differ (sym same)))) ∙ (rest p b).filled;
  taken_no_other = λ a ne. ap (λ (x : IndexLane Parcel). reverse x.traffic.emptying) (lane_there w q p a p l (is_lane-from q p a p ne)) ∙ ap reverse (rest a p).taken;
}
