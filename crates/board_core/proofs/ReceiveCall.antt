-- The steps of a receive on a board at rest, if its event may come.
use Rattle.std.proofs.Common.{◌≡◌, ◌≢◌, ℕ, ◌+◌, List, [], ◌∷◌, ◌++◌, length, map, refl, sym, ap, ap₂, ◌∙◌, subst, arith}
use Rattle.std.specs.Prelude.{reverse, All}
use Rattle.std.proofs.lemmas.List.{length-drop}
use Rattle.std.proofs.lemmas.List.Elements.{All-nil, All-cons}
use Rattle.chart.specs.declared.history.Occurrence.TheVariants as event
use Rattle.chart.specs.declared.instance.EventNo.{EventNo}
use Rattle.chart.specs.Charts.{LineView}
use Rattle.chart.specs.Histories.{sent, received, AreTwo, MayFollow as MayHappen}
use Rattle.chart.specs.Reports.{ReportView}
use Rattle.chart.specs.Order.{AreLineRaces}
use Rattle.chart.proofs.Existence.{races_exist}
use Rattle.clock.specs.Clocks.{entry_of}
use Rattle.lane_core.specs.Steps as lane
use Rattle.lane_core.specs.Traffic.{message_in}
use Rattle.lane_core.specs.IndexWords.{IndexLane, after as lane_with, MayFollow as MayBeOnLane}
use Rattle.lane_core.proofs.IndexRuns.{kept, half, taken_from}
use Rattle.line_recorder.specs.Recorders.{RecorderView, IsReportOf}
use Rattle.board_core.specs.Parcels.{Parcel}
use Rattle.board_core.specs.Steps.{Receiver_loads, Takes, Frees}
use Rattle.board_core.specs.World.{World, after, taken, with_receives}
use Rattle.board_core.specs.Runs.{MayFollow, AreAnswers}
use Rattle.board_core.proofs.GoodsLemmas.{goods_many}
use Rattle.board_core.proofs.Standing.{Stands, with_lane-each}
use Rattle.board_core.proofs.Resting.{IsAtRest, AreAtRest, receives_alone, lane_here, lane_there, rest_with, receives_alone_with}

-- there is a report of the next receive
has_report : (r : RecorderView) (q region : ℕ) (clock : List ℕ) → (report : ReportView) × IsReportOf r q region clock report
has_report r q region clock =
    let races = races_exist r.line.events (entry_of clock r.line.instance) q region in
    let place : ℕ → EventNo = λ j. record { instance = r.line.instance; index = j } in (
      record { receive = place (length r.line.events + 1); earlier = map place races.0 },
      record {
        receive = refl;
        races = subst (AreLineRaces r.line.events (entry_of clock r.line.instance) q region) (sym (places races.0)) races.1;
        own = of_line races.0;
      },
    )
  where
    places : (js : List ℕ) → map (λ (e : EventNo). e.index) (map (λ (j : ℕ). record { instance = r.line.instance; index = j }) js) ≡ js
    places [] = refl
    places (j ∷ js) = ap (λ xs. j ∷ xs) (places js)

    of_line : (js : List ℕ) → All (λ (e : EventNo). e.instance ≡ r.line.instance) (map (λ (j : ℕ). record { instance = r.line.instance; index = j }) js)
    of_line [] = All-nil (λ (e : EventNo). e.instance ≡ r.line.instance)
    of_line (j ∷ js) = All-cons (λ (e : EventNo). e.instance ≡ r.line.instance) (record { instance = r.line.instance; index = j }) (map (λ (j : ℕ). record { instance = r.line.instance; index = j }) js) refl (of_line js)

module _ (n k : ℕ) (w : World) (q p region : ℕ) (stands : Stands n k w) (rest : AreAtRest w) (opened : w.regions p ≡ region) (may : MayHappen n k w.history (event.Receive p q region)) where
  abbrev pub found : World
  found = after w (Receiver_loads q p)

  abbrev pub out : World
  out = after found (Takes q p)

  abbrev l : IndexLane Parcel
  l = lane_with (w.lanes q p) lane.Receiver_loads

  found_rest : AreAtRest found
  found_rest = rest_with w q p l rest (record { filled = (rest q p).filled; taken = (rest q p).taken })

  other : q ≢ p
  other = λ same. may.0.4 (sym same)

  two : AreTwo n q p
  two = (may.0.2, may.0.3, may.0.0, may.0.1, other)

  out_lane : out.lanes q p ≡ lane_with l lane.Takes
  out_lane = lane_here found q p (lane_with (found.lanes q p) lane.Takes) ∙ ap (λ y. lane_with y lane.Takes) (lane_here w q p l)

  pub receive_looks : MayFollow n w (Receiver_loads q p)
  receive_looks = record { two = two; alone = receives_alone w rest q p; end = tt }

  has_message : MayBeOnLane l lane.Takes
  has_message =
      let its = stands.lanes q p in
      let many = goods_many n w.history q p in
      omega (arith, many, length-drop (received w.history q p) (sent w.history q p), may.1, ap length its.published, its.freed, its.fits.published, its.fits.freed, its.fits.emptied, half (w.lanes q p).put (w.lanes q p).sender.published (w.lanes q p).sender.closed its.fits.put, ap length (rest q p).taken)

  pub receive_takes : MayFollow n found (Takes q p)
  receive_takes = record {
    two = two;
    alone = receives_alone found found_rest q p;
    end = subst (λ y. MayBeOnLane y lane.Takes) (sym (lane_here w q p l)) has_message;
  }

  -- the taken parcel
  pub message : (x : Parcel) × (taken out q p ≡ x ∷ [])
  message =
      let its = stands.lanes q p in
      let there = taken_from k l (kept k (w.lanes q p) lane.Receiver_loads its.fits tt) has_message in
      (there.0, ap (λ (y : IndexLane Parcel). reverse y.traffic.emptying) out_lane ∙ ap₂ (λ o xs. reverse (message_in o ++ xs)) there.1 (rest q p).taken)

  pub report : (report : ReportView) × IsReportOf (w.recorders p) q (w.regions p) (message.0).clock report
  report = has_report (w.recorders p) q (w.regions p) (message.0).clock

  abbrev pub received_now : World
  received_now = after out (Frees q p (report.0 ∷ []))

  pub receive_frees : MayFollow n out (Frees q p (report.0 ∷ []))
  receive_frees =
      let line = ap (λ (v : LineView). length v.events) (stands.instances p may.0.0 may.0.1).recorder.line in (
        record {
          two = two;
          alone = receives_alone_with found q p (lane_with (found.lanes q p) lane.Takes) found_rest other;
          end = subst (λ y. MayBeOnLane y lane.Frees) (sym out_lane) (omega arith);
        },
        omega (arith, ap length message.1, line, may.2),
        subst (λ xs. AreAnswers (w.recorders p) q (w.regions p) xs (report.0 ∷ [])) (sym message.1) (report.1, tt),
      )

  pub received_history : received_now.history ≡ event.Receive p q region ∷ w.history
  received_history = ap₂ (λ c xs. with_receives w.history p q c xs) opened message.1

  pub received_rest : AreAtRest received_now
  received_rest = with_lane-each (λ a b y. IsAtRest y) out.lanes q p (lane_with (out.lanes q p) lane.Frees) (record {
    filled = ap (λ (y : IndexLane Parcel). y.traffic.filling) out_lane ∙ (rest q p).filled;
    taken = refl;
  }) (λ a b other. subst IsAtRest (sym (lane_there found q p a b (lane_with (found.lanes q p) lane.Takes) other)) (found_rest a b))
