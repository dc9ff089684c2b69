-- The steps of a send on a board at rest, if its event may come.
use Rattle.std.proofs.Common.{◌≡◌, ℕ, false, [], ◌∷◌, ◌++◌, length, refl, sym, ap, ◌∙◌, subst, arith}
use Rattle.std.proofs.lemmas.List.{length-drop}
use Rattle.chart.specs.declared.history.Occurrence.TheVariants as event
use Rattle.chart.specs.Charts.{LineView}
use Rattle.chart.specs.Messages.{Content}
use Rattle.chart.specs.Histories.{sent, received, MayFollow as MayHappen}
use Rattle.chart.proofs.Histories.{received-le}
use Rattle.lane_core.specs.Steps as lane
use Rattle.lane_core.specs.IndexWords.{IndexLane, after as lane_with, MayFollow as MayBeOnLane}
use Rattle.board_core.specs.Parcels.{Parcel}
use Rattle.board_core.specs.Steps.{Sender_loads, Fills, Publishes}
use Rattle.board_core.specs.World.{World, after, filled, parcel_of, with_sends}
use Rattle.board_core.specs.Runs.{MayFollow}
use Rattle.board_core.proofs.GoodsLemmas.{goods_many}
use Rattle.board_core.proofs.Standing.{Stands, with_lane-each}
use Rattle.board_core.proofs.Resting.{IsAtRest, AreAtRest, sends_alone, lane_here, lane_there, rest_with, sends_alone_with}

module _ (n k : ℕ) (w : World) (q p : ℕ) (m : Content) (stands : Stands n k w) (rest : AreAtRest w) (shut : w.regions q ≡ 0) (may : MayHappen n k w.history (event.Send q p m)) where
  abbrev pub looked : World
  looked = after w (Sender_loads q p)

  abbrev pub put : World
  put = after looked (Fills q p m)

  abbrev pub passed : World
  passed = after put (Publishes q p)

  abbrev x : Parcel
  x = parcel_of looked q p m

  abbrev l : IndexLane Parcel
  l = lane_with (w.lanes q p) lane.Sender_loads

  looked_rest : AreAtRest looked
  looked_rest = rest_with w q p l rest (record { filled = (rest q p).filled; taken = (rest q p).taken })

  put_lane : put.lanes q p ≡ lane_with l (lane.Fills x)
  put_lane = lane_here looked q p (lane_with (looked.lanes q p) (lane.Fills x)) ∙ ap (λ y. lane_with y (lane.Fills x)) (lane_here w q p l)

  put_filled : filled put q p ≡ x ∷ []
  put_filled = ap (λ (y : IndexLane Parcel). y.traffic.filling) put_lane ∙ ap (λ xs. xs ++ x ∷ []) (rest q p).filled

  pub send_looks : MayFollow n w (Sender_loads q p)
  send_looks = record { two = may.0; alone = sends_alone w rest q p; end = tt }

  has_room : MayBeOnLane l (lane.Fills x)
  has_room =
      let its = stands.lanes q p in
      let many = goods_many n w.history q p in
      omega (arith, many, length-drop (received w.history q p) (sent w.history q p), received-le n k w.history stands.legal q p, may.2, ap length its.published, its.freed, its.fits.published, its.fits.filled, its.fits.freed, its.fits.taken, its.fits.sender_slots, ap length (rest q p).filled)

  pub send_fills : MayFollow n looked (Fills q p m)
  send_fills = record {
    two = may.0;
    alone = sends_alone looked looked_rest q p;
    end = subst (λ y. MayBeOnLane y (lane.Fills x)) (sym (lane_here w q p l)) has_room;
  }

  is_open : (lane_with l (lane.Fills x)).sender.closed ≡ false
  is_open = let its = stands.lanes q p in its.fits.closed ∙ its.closed ∙ may.1

  pub send_publishes : MayFollow n put (Publishes q p)
  send_publishes =
      let line = ap (λ (v : LineView). length v.events) (stands.instances q may.0.0 may.0.1).recorder.line in (
        record {
          two = may.0;
          alone = sends_alone_with looked q p (lane_with (looked.lanes q p) (lane.Fills x)) looked_rest may.0.4;
          end = subst (λ y. MayBeOnLane y lane.Publishes) (sym put_lane) (is_open, omega arith);
        },
        shut,
        omega (arith, ap length put_filled, line, may.3),
      )

  pub passed_history : passed.history ≡ event.Send q p m ∷ w.history
  passed_history = ap (with_sends w.history q p) put_filled

  pub passed_rest : AreAtRest passed
  passed_rest = with_lane-each (λ a b y. IsAtRest y) put.lanes q p (lane_with (put.lanes q p) lane.Publishes) (record {
    filled = refl;
    taken = ap (λ (y : IndexLane Parcel). y.traffic.emptying) put_lane ∙ (rest q p).taken;
  }) (λ a b other. subst IsAtRest (sym (lane_there looked q p a b (lane_with (looked.lanes q p) (lane.Fills x)) other)) (looked_rest a b))
