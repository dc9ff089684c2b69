-- Facts that hold after every run on a board.
use Rattle.std.proofs.Common.{◌≡◌, ℕ, ◌+◌, ◌≤◌, inl, inr, false, List, [], ◌∷◌, ◌++◌, length, drop, refl, sym, ap, ◌∙◌, subst, arith, append_assoc}
use Rattle.std.specs.Prelude.{reverse}
use Rattle.std.proofs.lemmas.List.{length-append}
use Rattle.std.proofs.Math.Seq.{drop-append_seam}
use Rattle.chart.specs.declared.history.Occurrence.{Occurrence}
use Rattle.chart.specs.declared.history.Occurrence.TheVariants as event
use Rattle.chart.specs.Events.{greatest_region, MayHaveRegion}
use Rattle.chart.specs.Charts.{LineView}
use Rattle.chart.specs.Histories.{received, is_closed, chart_of}
use Rattle.chart.proofs.Histories.{is_closed-close, is_closed-close_other}
use Rattle.chart.proofs.Steps.{line_after_close}
use Rattle.lane_core.specs.Steps as lane
use Rattle.lane_core.specs.Traffic.{with_at}
use Rattle.lane_core.specs.IndexWords.{IndexLane, after as lane_with}
use Rattle.lane_core.proofs.IndexRuns.{Fits, kept}
use Rattle.line_recorder.specs.Recorders.{after_sends}
use Rattle.board_core.specs.Instances.{HaveClocks, IsInstance}
use Rattle.board_core.specs.Parcels.{Parcel, names, goods}
use Rattle.board_core.specs.Steps.{Step, Sender_loads, Fills, Publishes, Closes, Receiver_loads, Takes, Puts_back, Frees, Opens, Shuts}
use Rattle.board_core.specs.World.{World, after, filled, taken, after_receives, with_sends, with_receives, parcel_of}
use Rattle.board_core.specs.Runs.{MayFollow, IsRun, world_after}
use Rattle.board_core.proofs.Standing.{have_clocks_push, IsLane, Stands, stands_first, with_lane-each, with_at-each, other_receiver, clocks_beside, back_quiet, back_filling, stands_quiet, stands_idle}
use Rattle.board_core.proofs.Several.{several_sent, several_received}

-- the freed parcels and those in the receiver's hands are the first of the published ones
in_hands : {k : ℕ} (l : IndexLane Parcel) → Fits k l → (left : List Parcel) × (drop (length l.traffic.freed) l.traffic.published ≡ reverse l.traffic.emptying ++ left)
in_hands l fits =
    let t = l.traffic in
    let left = fits.holds.left in
    (left, ap (drop (length t.freed)) (fits.holds.order ∙ append_assoc t.freed (reverse t.emptying) left) ∙ drop-append_seam t.freed (reverse t.emptying ++ left))

-- a publish
stands_published : (n k : ℕ) (w : World) (q p : ℕ) → Stands n k w → MayFollow n w (Publishes q p) → Stands n k (after w (Publishes q p))
stands_published n k w q p stands (may, shut, short) =
    let h = w.history in
    let l = w.lanes q p in
    let xs = filled w q p in
    let r = w.recorders q in
    let old = stands.lanes q p in
    let its = (stands.instances q may.two.0 may.two.1).recorder in
    let unclosed : is_closed h q p ≡ false = sym old.closed ∙ sym old.fits.closed ∙ may.end.0 in
    let line = ap (λ (v : LineView). length v.events) its.line in
    let room : length (goods n h q p) + length xs ≤ received h q p + k = omega (arith, ap length (sym old.published), old.freed, old.fits.published, old.fits.filled, old.fits.freed, old.fits.seen_freed, old.fits.room) in
    let done = several_sent n k q p h r xs may.two stands.legal unclosed its old.clocks room (omega (arith, line, short)) in
    let g = with_sends h q p xs in
    let new = after_sends r p (names xs) in
    record {
      legal = done.legal;
      lanes = with_lane-each (λ a b x. IsLane n k g (with_at w.recorders q new a) a b x) w.lanes q p (lane_with l lane.Publishes) (record {
        fits = kept k l lane.Publishes old.fits may.end;
        published = ap (λ ys. ys ++ xs) old.published ∙ sym done.here;
        freed = old.freed ∙ sym (done.received q p);
        closed = old.closed ∙ sym (done.closed q p);
        clocks = tt;
      }) (λ a b other. let its = stands.lanes a b in record {
        fits = its.fits;
        published = its.published ∙ sym (done.there a b other);
        freed = its.freed ∙ sym (done.received a b);
        closed = its.closed ∙ sym (done.closed a b);
        clocks = clocks_beside w q new a b (λ same. subst (λ x. filled w x b ≡ []) (sym same) (may.alone.filled_no_other b (other_receiver q p a b other same))) its.clocks;
      });
      instances = λ s low high. with_at-each (λ a o. 1 ≤ a → a ≤ n → IsInstance n g a o (w.regions a)) w.recorders q new (λ low high. record { recorder = done.recorder; region_fits = inl shut }) (λ a ne low high. done.others a (w.recorders a) (w.regions a) ne (stands.instances a low high)) s low high;
    }

-- a close
stands_closed : (n k : ℕ) (w : World) (q p : ℕ) → Stands n k w → MayFollow n w (Closes q p) → Stands n k (after w (Closes q p))
stands_closed n k w q p stands may =
    let h = w.history in
    let l = w.lanes q p in
    let old = stands.lanes q p in
    let unclosed : is_closed h q p ≡ false = sym old.closed ∙ sym old.fits.closed ∙ may.end in
    let e : Occurrence = event.Close q p in
    record {
      legal = ((may.two, unclosed), stands.legal);
      lanes = with_lane-each (λ a b x. IsLane n k (e ∷ h) (w.recorders a) a b x) w.lanes q p (lane_with l lane.Closes) (record {
        fits = kept k l lane.Closes old.fits may.end;
        published = old.published;
        freed = old.freed;
        closed = sym (is_closed-close h q p);
        clocks = tt;
      }) (λ a b other. let its = stands.lanes a b in record {
        fits = its.fits;
        published = its.published;
        freed = its.freed;
        closed = its.closed ∙ sym (is_closed-close_other h q p a b other);
        clocks = its.clocks;
      });
      instances = λ s low high. stands_idle n k h (e ∷ h) s (w.recorders s) (w.regions s) stands.legal (e ∷ [], refl) (line_after_close h q p s) refl (stands.instances s low high);
    }

-- a free
stands_freed : (n k : ℕ) (w : World) (q p : ℕ) (reports : _) → Stands n k w → MayFollow n w (Frees q p reports) → Stands n k (after w (Frees q p reports))
stands_freed n k w q p reports stands (may, short, answers) =
    let h = w.history in
    let l = w.lanes q p in
    let xs = taken w q p in
    let r = w.recorders p in
    let region = w.regions p in
    let old = stands.lanes q p in
    let its = stands.instances p may.two.2 may.two.3 in
    let hands = in_hands l old.fits in
    let next : drop (received h q p) (goods n h q p) ≡ xs ++ hands.0 = ap (λ i. drop i (goods n h q p)) (sym old.freed) ∙ ap (drop (length l.traffic.freed)) (sym old.published) ∙ hands.1 in
    let line = ap (λ (v : LineView). length v.events) its.recorder.line in
    let done = several_received n k q p region h r xs hands.0 reports (may.two.2, may.two.3, may.two.0, may.two.1, λ same. may.two.4 (sym same)) stands.legal its answers next (omega (arith, line, short)) in
    let g = with_receives h p q region xs in
    let new = after_receives r q region xs reports in
    record {
      legal = done.legal;
      lanes = with_lane-each (λ a b x. IsLane n k g (with_at w.recorders p new a) a b x) w.lanes q p (lane_with l lane.Frees) (record {
        fits = kept k l lane.Frees old.fits may.end;
        published = old.published ∙ sym (done.goods q p);
        freed = length-append l.traffic.freed xs ∙ ap (λ i. i + length xs) old.freed ∙ sym done.here;
        closed = old.closed ∙ sym (done.closed q p);
        clocks = clocks_beside w p new q p (λ same. absurd (may.two.4 same)) old.clocks;
      }) (λ a b other. let its = stands.lanes a b in record {
        fits = its.fits;
        published = its.published ∙ sym (done.goods a b);
        freed = its.freed ∙ sym (done.there a b other);
        closed = its.closed ∙ sym (done.closed a b);
        clocks = clocks_beside w p new a b (λ same. subst (λ x. filled w x b ≡ []) (sym same) (may.alone.filled_nothing b)) its.clocks;
      });
      instances = λ s low high. with_at-each (λ a o. 1 ≤ a → a ≤ n → IsInstance n g a o (w.regions a)) w.recorders p new (λ low high. done.own) (λ a ne low high. done.others a (w.recorders a) (w.regions a) ne (stands.instances a low high)) s low high;
    }

-- a coregion is opened or shut
stands_region : (n k : ℕ) (w : World) (p region : ℕ) → Stands n k w → (1 ≤ p → p ≤ n → MayHaveRegion (chart_of w.history p) region) → Stands n k (record w { regions = with_at w.regions p region })
stands_region n k w p region stands may = record {
  legal = stands.legal;
  lanes = stands.lanes;
  instances = λ s low high. with_at-each (λ a c. 1 ≤ a → a ≤ n → IsInstance n w.history a (w.recorders a) c) w.regions p region (λ low high. record { recorder = (stands.instances p low high).recorder; region_fits = may low high }) (λ a ne low high. stands.instances a low high) s low high;
}

stands_after : (n k : ℕ) (w : World) (step : Step) → Stands n k w → MayFollow n w step → Stands n k (after w step)
stands_after n k w (Sender_loads q p) stands may = stands_quiet n k w q p lane.Sender_loads stands may.end (record { published = refl; freed = refl; closed = refl }) (stands.lanes q p).clocks
stands_after n k w (Fills q p m) stands may =
    let x = parcel_of w q p m in
    stands_quiet n k w q p (lane.Fills x) stands may.end (record { published = refl; freed = refl; closed = refl }) (have_clocks_push (w.recorders q) p (filled w q p) x (stands.lanes q p).clocks refl)
stands_after n k w (Publishes q p) stands may = stands_published n k w q p stands may
stands_after n k w (Closes q p) stands may = stands_closed n k w q p stands may
stands_after n k w (Receiver_loads q p) stands may = stands_quiet n k w q p lane.Receiver_loads stands may.end (record { published = refl; freed = refl; closed = refl }) (stands.lanes q p).clocks
stands_after n k w (Takes q p) stands may = stands_quiet n k w q p lane.Takes stands may.end (record { published = refl; freed = refl; closed = refl }) (stands.lanes q p).clocks
stands_after n k w (Puts_back q p) stands may =
    let t = (w.lanes q p).traffic in
    stands_quiet n k w q p lane.Puts_back stands may.end (back_quiet t t.emptying _) (subst (HaveClocks (w.recorders q) p) (sym (back_filling t t.emptying _)) (stands.lanes q p).clocks)
stands_after n k w (Frees q p reports) stands may = stands_freed n k w q p reports stands may
stands_after n k w (Opens p) stands may = stands_region n k w p (greatest_region (w.recorders p).line.events + 1) stands (λ low high. inr (inl (ap (λ (v : LineView). greatest_region v.events + 1) (stands.instances p low high).recorder.line)))
stands_after n k w (Shuts p) stands may = stands_region n k w p 0 stands (λ low high. inl refl)

-- after every run the board agrees with its history
pub stands : (n k : ℕ) (steps : List Step) → IsRun n k steps → Stands n k (world_after n k steps)
stands n k [] run = stands_first n k
stands n k (step ∷ steps) run = stands_after n k (world_after n k steps) step (stands n k steps run.1) run.0
