-- A run for each legal history: the steps of one call for each event.
use Rattle.std.proofs.Common.{◌≡◌, ◌≢◌, ℕ, zero, suc, ◌+◌, ◌≤◌, ◌==◌, inl, inr, Bool, true, false, List, [], ◌∷◌, refl, sym, ap, ◌∙◌, subst, arith}
use Rattle.std.proofs.lemmas.Bool.{ne_eqb, eq-eqb, eqb-true, eqb-false}
use Rattle.chart.specs.declared.history.Occurrence.{Occurrence}
use Rattle.chart.specs.declared.history.Occurrence.TheVariants as event
use Rattle.chart.specs.Charts.{LineView}
use Rattle.chart.specs.Events.{greatest_region, last_region, MayHaveRegion, send_event, receive_event}
use Rattle.chart.specs.Histories.{by, waiting, is_closed, chart_of, MayFollow as MayHappen, IsLegal}
use Rattle.chart.proofs.Regions.{last_region-push}
use Rattle.chart.proofs.Sends.{line_after_send, line_after_receive}
use Rattle.chart.proofs.Steps.{line_of_other, line_after_close}
use Rattle.lane_core.specs.Steps as lane
use Rattle.lane_core.specs.IndexWords.{after as lane_with}
use Rattle.line_recorder.proofs.Carrying.{first_message}
use Rattle.board_core.specs.Steps.{Step, Sender_loads, Fills, Publishes, Closes, Receiver_loads, Takes, Frees, Opens, Shuts}
use Rattle.board_core.specs.Runs.{IsRun, world_after, history_of}
use Rattle.board_core.specs.Laws.{HistoryLaw}
use Rattle.board_core.proofs.Along.{stands}
use Rattle.board_core.proofs.Resting.{AreAtRest, sends_alone, is_idle, rest_with}
use Rattle.board_core.proofs.SendCall.{send_looks, send_fills, send_publishes, passed_history, passed_rest}
use Rattle.board_core.proofs.ReceiveCall.{report, receive_looks, receive_takes, receive_frees, received_history, received_rest}

-- The runs.

-- a run that leads to this history, on a board at rest, where each instance's open coregion is that of its last event
pub record Reaches (n k : ℕ) (h : List Occurrence) (steps : List Step) : Type 0 where
  pub run : IsRun n k steps
  pub history : history_of n k steps ≡ h
  pub rest : AreAtRest (world_after n k steps)
  pub regions : (p : ℕ) → (world_after n k steps).regions p ≡ last_region (chart_of h p)

-- the same, except that p's open coregion is this one
record IsReady (n k : ℕ) (h : List Occurrence) (p region : ℕ) (steps : List Step) : Type 0 where
  run : IsRun n k steps
  history : history_of n k steps ≡ h
  rest : AreAtRest (world_after n k steps)
  here : (world_after n k steps).regions p ≡ region
  there : (s : ℕ) → s ≢ p → (world_after n k steps).regions s ≡ last_region (chart_of h s)

-- p's coregion is shut, if one is open
shutting : (n k : ℕ) (h : List Occurrence) (p : ℕ) (steps : List Step) → 1 ≤ p → p ≤ n → Reaches n k h steps → (more : List Step) × IsReady n k h p 0 more
shutting n k h p steps low high old = go ((world_after n k steps).regions p) refl
  where
    go : (c : ℕ) → (world_after n k steps).regions p ≡ c → (more : List Step) × IsReady n k h p 0 more
    go zero e = (steps, record { run = old.run; history = old.history; rest = old.rest; here = e; there = λ s ne. old.regions s })
    go (suc c) e = (
      Shuts p ∷ steps,
      record {
        run = ((low, high, is_idle (world_after n k steps) old.rest p, omega arith), old.run);
        history = old.history;
        rest = old.rest;
        here = rw (eq-eqb p p refl);
        there = λ s ne. rw (ne_eqb s p ne) (old.regions s);
      },
    )

-- p's coregion becomes one that its next event may have
readying : (n k : ℕ) (h : List Occurrence) (p region : ℕ) (steps : List Step) → 1 ≤ p → p ≤ n → Reaches n k h steps → MayHaveRegion (chart_of h p) region → (more : List Step) × IsReady n k h p region more
readying n k h p region steps low high old (inl none) = subst (λ c. (more : List Step) × IsReady n k h p c more) (sym none) (shutting n k h p steps low high old)
readying n k h p region steps low high old (inr (inl next)) =
    let w = shutting n k h p steps low high old in
    let line = ((stands n k w.0 w.1.run).instances p low high).recorder.line in
    let greatest = ap (λ (v : LineView). greatest_region v.events + 1) line ∙ ap (λ x. greatest_region (chart_of x p) + 1) w.1.history in (
      Opens p ∷ w.0,
      record {
        run = ((low, high, is_idle (world_after n k w.0) w.1.rest p, w.1.here), w.1.run);
        history = w.1.history;
        rest = w.1.rest;
        here = rw (eq-eqb p p refl) (greatest ∙ sym next);
        there = λ s ne. rw (ne_eqb s p ne) (w.1.there s ne);
      },
    )
readying n k h p region steps low high old (inr (inr same)) = (steps, record { run = old.run; history = old.history; rest = old.rest; here = old.regions p ∙ sym same.2; there = λ s ne. old.regions s })

-- after an event in its instance's open coregion, the coregions are those of the last events
regions_after : (h : List Occurrence) (e : Occurrence) (regions : ℕ → ℕ) (region : ℕ) → last_region (chart_of (e ∷ h) (by e)) ≡ region → regions (by e) ≡ region → ((s : ℕ) → s ≢ by e → regions s ≡ last_region (chart_of h s)) → (s : ℕ) → regions s ≡ last_region (chart_of (e ∷ h) s)
regions_after h e regions region last here there s = go (s == by e) refl
  where
    go : (its : Bool) → (s == by e) ≡ its → regions s ≡ last_region (chart_of (e ∷ h) s)
    go true i = subst (λ x. regions x ≡ last_region (chart_of (e ∷ h) x)) (sym (eqb-true s (by e) i)) (here ∙ sym last)
    go false i = there s (eqb-false s (by e) i) ∙ ap last_region (sym (line_of_other h e s (λ same. eqb-false s (by e) i (sym same))))

-- a run to a legal history with one more event
reach_more : (n k : ℕ) (h : List Occurrence) (e : Occurrence) (steps : List Step) → MayHappen n k h e → Reaches n k h steps → (more : List Step) × Reaches n k (e ∷ h) more
reach_more n k h (event.Send p q m) steps may old =
    let ready = shutting n k h p steps may.0.0 may.0.1 old in
    let w = world_after n k ready.0 in
    let its = ready.1 in
    let stand = stands n k ready.0 its.run in
    let now : MayHappen n k w.history (event.Send p q m) = subst (λ x. MayHappen n k x (event.Send p q m)) (sym its.history) may in (
      Publishes p q ∷ Fills p q m ∷ Sender_loads p q ∷ ready.0,
      record {
        run = (send_publishes n k w p q m stand its.rest its.here now, (send_fills n k w p q m stand its.rest its.here now, (send_looks n k w p q m stand its.rest its.here now, its.run)));
        history = passed_history n k w p q m stand its.rest its.here now ∙ ap (λ x. event.Send p q m ∷ x) its.history;
        rest = passed_rest n k w p q m stand its.rest its.here now;
        regions = regions_after h (event.Send p q m) w.regions 0 (ap last_region (line_after_send h p q m) ∙ last_region-push (chart_of h p) (send_event q m.name)) its.here its.there;
      },
    )
reach_more n k h (event.Receive p q region) steps may old =
    let ready = readying n k h p region steps may.0.0 may.0.1 old may.3 in
    let w = world_after n k ready.0 in
    let its = ready.1 in
    let stand = stands n k ready.0 its.run in
    let now : MayHappen n k w.history (event.Receive p q region) = subst (λ x. MayHappen n k x (event.Receive p q region)) (sym its.history) may in
    let report = (report n k w q p region stand its.rest its.here now).0 in
    let first = first_message (waiting h q p) may.1 in
    let line_event = receive_event q first.0.name region in (
      Frees q p (report ∷ []) ∷ Takes q p ∷ Receiver_loads q p ∷ ready.0,
      record {
        run = (receive_frees n k w q p region stand its.rest its.here now, (receive_takes n k w q p region stand its.rest its.here now, (receive_looks n k w q p region stand its.rest its.here now, its.run)));
        history = received_history n k w q p region stand its.rest its.here now ∙ ap (λ x. event.Receive p q region ∷ x) its.history;
        rest = received_rest n k w q p region stand its.rest its.here now;
        regions = regions_after h (event.Receive p q region) w.regions region (ap last_region (line_after_receive h p q region first.0 first.1 first.2) ∙ last_region-push (chart_of h p) line_event) its.here its.there;
      },
    )
reach_more n k h (event.Close p q) steps may old =
    let w = world_after n k steps in
    let stand = stands n k steps old.run in
    let its = stand.lanes p q in
    let unclosed : is_closed w.history p q ≡ false = ap (λ x. is_closed x p q) old.history ∙ may.1 in (
      Closes p q ∷ steps,
      record {
        run = (record { two = may.0; alone = sends_alone w old.rest p q; end = its.fits.closed ∙ its.closed ∙ unclosed }, old.run);
        history = ap (λ x. event.Close p q ∷ x) old.history;
        rest = rest_with w p q (lane_with (w.lanes p q) lane.Closes) old.rest (record { filled = refl; taken = (old.rest p q).taken });
        regions = λ s. old.regions s ∙ ap last_region (sym (line_after_close h p q s));
      },
    )

reach : (n k : ℕ) (h : List Occurrence) → IsLegal n k h → (steps : List Step) × Reaches n k h steps
reach n k [] legal = ([], record { run = tt; history = refl; rest = λ q p. record { filled = refl; taken = refl }; regions = λ p. refl })
reach n k (e ∷ h) legal = let before = reach n k h legal.1 in reach_more n k h e before.0 legal.0 before.1

pub every_history : HistoryLaw
every_history n k h legal = let its = reach n k h legal in (its.0, its.1.run, its.1.history)
