-- Facts that hold after every step of a board, and steps that change one lane or one recorder.
use Rattle.std.proofs.Common.{◌≡◌, ◌≢◌, ℕ, ◌≤◌, ◌==◌, inl, Bool, true, false, cond, List, [], ◌∷◌, ◌++◌, length, refl, sym, ap, ◌∙◌, subst}
use Rattle.std.proofs.lemmas.Bool.{eqb-true, eqb-false, and_parts, and_from, eq-eqb, false≢true}
use Rattle.std.proofs.lemmas.List.Elements.{All-nil}
use Rattle.chart.specs.declared.history.Occurrence.{Occurrence}
use Rattle.chart.specs.Events.{MayHaveRegion}
use Rattle.chart.specs.Histories.{is_lane, received, is_closed, chart_of, IsLegal, Begins}
use Rattle.chart.specs.Reports.{IsReportIn}
use Rattle.lane_core.specs.Steps as lane
use Rattle.lane_core.specs.Traffic.{Traffic, back_in, with_at}
use Rattle.lane_core.specs.IndexWords.{IndexLane, after as lane_with, MayFollow as MayBeOnLane}
use Rattle.lane_core.proofs.IndexRuns.{Fits, first, kept}
use Rattle.line_recorder.specs.Carried.{knowledge_of}
use Rattle.line_recorder.specs.Recorders.{RecorderView, send_clock, after_send, after_sends}
use Rattle.line_recorder.proofs.Recording.{IsRecorder-idle}
use Rattle.board_core.specs.Parcels.{Parcel, names, goods}
use Rattle.board_core.specs.Instances.{HaveClocks, IsInstance}
use Rattle.board_core.specs.World.{World, new_world, with_lane, lanes_with, filled}

-- one more parcel has its clock
pub have_clocks_push : (r : RecorderView) (p : ℕ) (xs : List Parcel) (x : Parcel) → HaveClocks r p xs → x.clock ≡ send_clock (after_sends r p (names xs)) → HaveClocks r p (xs ++ x ∷ [])
have_clocks_push r p [] x have its = (its, tt)
have_clocks_push r p (y ∷ ys) x have its = (have.0, have_clocks_push (after_send r p y.message.name) p ys x have.1 its)

-- the lane from q to p agrees with the history and with its sender's recorder
pub record IsLane (n k : ℕ) (h : List Occurrence) (r : RecorderView) (q p : ℕ) (l : IndexLane Parcel) : Type 0 where
  pub fits : Fits k l
  pub published : l.traffic.published ≡ goods n h q p
  pub freed : length l.traffic.freed ≡ received h q p
  pub closed : l.traffic.closed ≡ is_closed h q p
  pub clocks : HaveClocks r p l.traffic.filling

-- the whole board agrees with its history, which is legal
pub record Stands (n k : ℕ) (w : World) : Type 0 where
  pub legal : IsLegal n k w.history
  pub lanes : (q p : ℕ) → IsLane n k w.history (w.recorders q) q p (w.lanes q p)
  pub instances : (p : ℕ) → 1 ≤ p → p ≤ n → IsInstance n w.history p (w.recorders p) (w.regions p)

-- this holds before the first step
pub stands_first : (n k : ℕ) → Stands n k (new_world n k)
stands_first n k = record {
  legal = tt;
  lanes = λ q p. record { fits = first k; published = refl; freed = refl; closed = refl; clocks = tt };
  instances = λ p low high. record {
    recorder = record { line = refl; knowledge = refl; receives = refl; reports = All-nil (IsReportIn (chart_of [])) };
    region_fits = inl refl;
  };
}

-- what holds for the changed lane, and for the unchanged others, holds for all lanes
pub with_lane-each : (P : ℕ → ℕ → IndexLane Parcel → Type 0) (lanes : ℕ → ℕ → IndexLane Parcel) (q p : ℕ) (l : IndexLane Parcel) → P q p l → ((a b : ℕ) → is_lane q p a b ≡ false → P a b (lanes a b)) → (a b : ℕ) → P a b (with_lane lanes q p l a b)
with_lane-each P lanes q p l here there a b = go (is_lane q p a b) refl
  where
    go : (its : Bool) → is_lane q p a b ≡ its → P a b (cond its l (lanes a b))
    go true e =
        let ends = and_parts (q == a) (p == b) e in
        subst (λ x. P x b l) (eqb-true q a ends.0) (subst (λ y. P q y l) (eqb-true p b ends.1) here)
    go false e = there a b e

-- the same for one instance and the others
pub with_at-each : {A : Type 0} (P : ℕ → A → Type 0) (at : ℕ → A) (q : ℕ) (x : A) → P q x → ((a : ℕ) → a ≢ q → P a (at a)) → (a : ℕ) → P a (with_at at q x a)
with_at-each P at q x here there a = go (a == q) refl
  where
    go : (its : Bool) → (a == q) ≡ its → P a (cond its x (at a))
    go true e = subst (λ y. P y x) (sym (eqb-true a q e)) here
    go false e = there a (eqb-false a q e)

-- another lane from q leads to another instance
pub other_receiver : (q p a b : ℕ) → is_lane q p a b ≡ false → a ≡ q → b ≢ p
other_receiver q p a b e same to = false≢true (sym e ∙ and_from (q == a) (p == b) (eq-eqb q a (sym same)) (eq-eqb p b (sym to)))

-- if an instance's recorder changes, the clocks of the parcels that others have filled in stay right; so do its own, if
-- there are none
pub clocks_beside : (w : World) (s : ℕ) (r : RecorderView) (a b : ℕ) → (a ≡ s → filled w a b ≡ []) → HaveClocks (w.recorders a) b (filled w a b) → HaveClocks (with_at w.recorders s r a) b (filled w a b)
clocks_beside w s r a b none old = go (a == s) refl
  where
    go : (its : Bool) → (a == s) ≡ its → HaveClocks (cond its r (w.recorders a)) b (filled w a b)
    go true e = subst (λ xs. HaveClocks r b xs) (sym (none (eqb-true a s e))) tt
    go false e = old

-- the published and freed parcels of a lane stay the same, and whether it is closed
pub record IsQuiet (before after : Traffic Parcel) : Type 0 where
  pub published : after.published ≡ before.published
  pub freed : after.freed ≡ before.freed
  pub closed : after.closed ≡ before.closed

-- a parcel that is put back changes none of these
pub back_quiet : (t : Traffic Parcel) (xs : List Parcel) (slot : ℕ) → IsQuiet t (back_in t xs slot)
back_quiet t [] slot = record { published = refl; freed = refl; closed = refl }
back_quiet t (x ∷ xs) slot = record { published = refl; freed = refl; closed = refl }

-- the filled parcels stay too
pub back_filling : (t : Traffic Parcel) (xs : List Parcel) (slot : ℕ) → (back_in t xs slot).filling ≡ t.filling
back_filling t [] slot = refl
back_filling t (x ∷ xs) slot = refl

-- a step that is no event
pub stands_quiet : (n k : ℕ) (w : World) (q p : ℕ) (step : lane.Step Parcel) → Stands n k w → MayBeOnLane (w.lanes q p) step → IsQuiet (w.lanes q p).traffic (lane_with (w.lanes q p) step).traffic → HaveClocks (w.recorders q) p (lane_with (w.lanes q p) step).traffic.filling
    → Stands n k (record w { lanes = lanes_with w q p step })
stands_quiet n k w q p step stands may quiet clocks =
    let old = stands.lanes q p in
    record {
      legal = stands.legal;
      lanes = with_lane-each (λ a b l. IsLane n k w.history (w.recorders a) a b l) w.lanes q p (lane_with (w.lanes q p) step) (record {
        fits = kept k (w.lanes q p) step old.fits may;
        published = quiet.published ∙ old.published;
        freed = ap length quiet.freed ∙ old.freed;
        closed = quiet.closed ∙ old.closed;
        clocks = clocks;
      }) (λ a b other. stands.lanes a b);
      instances = stands.instances;
    }

-- an instance without new events or new knowledge
pub stands_idle : (n k : ℕ) (h g : List Occurrence) (p : ℕ) (r : RecorderView) (region : ℕ) → IsLegal n k h → Begins h g → chart_of g p ≡ chart_of h p → knowledge_of n g p ≡ knowledge_of n h p → IsInstance n h p r region → IsInstance n g p r region
stands_idle n k h g p r region legal begins line knows old = record {
  recorder = IsRecorder-idle n k h g p r legal begins line knows old.recorder;
  region_fits = subst (λ l. MayHaveRegion l region) (sym line) old.region_fits;
}
