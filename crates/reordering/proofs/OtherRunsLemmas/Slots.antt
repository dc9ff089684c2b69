-- Runs whose lanes have a given number of slots: what they keep, and one in which a receive comes first.
use Rattle.std.proofs.Common.{◌≡◌, ◌≢◌, ℕ, ◌+◌, ◌<◌, ◌≤◌, ◌==◌, ◌↔◌, Bool, true, false, cond, [], ◌∷◌, ◌++◌, subst₂, eqb-true, ◌⊎◌, inl, inr, ⊎_elim, List, length, refl, sym, subst, arith, length-drop}
use Rattle.std.proofs.Math.Path.{fun_ext}
use Rattle.std.proofs.lemmas.Bool.{and_parts}
use Rattle.std.proofs.lemmas.List.{length_push}
use Rattle.chart.specs.declared.history.Occurrence.{Occurrence}
use Rattle.chart.specs.declared.history.Occurrence.TheVariants.{Send, Receive, Close}
use Rattle.chart.specs.Events.{is_send_to, is_receive_from, tally}
use Rattle.chart.specs.Histories.{is_lane, sent, received, waiting, chart_of, IsLegal, Begins}
use Rattle.chart.specs.Charts.{Chart, Place, IsReceiveFrom, BelongsTo}
use Rattle.chart.specs.Places.{IsEvent}
use Rattle.chart.specs.Order.{Direct}
use Rattle.chart.proofs.Belongs.{not_both, one_receiver}
use Rattle.chart.proofs.Begun.{legal_begun}
use Rattle.chart.proofs.Sends.{sends_of}
use Rattle.reordering.specs.OtherRuns.Walks.{Turns, Wanted, inner, parted, wanted}
use Rattle.reordering.specs.OtherRuns.OtherRuns.{HasCome, IsRunWithin, DirectWithin, BeforeWithin, ComesFirstWithin, IsPossibleWithin, CanBeOvertakenWithin}
use Rattle.reordering.specs.OtherRuns.OtherRuns.HasCome.{was_sent, was_received}
use Rattle.reordering.specs.OtherRuns.OtherRuns.DirectWithin.{enforced, freed}
use Rattle.reordering.specs.OtherRuns.OtherRuns.BeforeWithin.{direct, through}
use Rattle.reordering.proofs.OtherRunsLemmas.Turns.{IsWithin, within_event}
use Rattle.reordering.proofs.OtherRunsLemmas.Turns.IsWithin.{receive}
use Rattle.reordering.proofs.OtherRunsLemmas.Beginnings.{inner_first}
use Rattle.reordering.proofs.OtherRunsLemmas.Legality.{legal_parted}
use Rattle.reordering.proofs.OtherRunsLemmas.Causes.{all_come}
use Rattle.reordering.proofs.OtherRunsLemmas.Wanted.{raise-new, balanced, balanced-first, more-wanted}
use Rattle.reordering.proofs.OtherRunsLemmas.Sound.{wanted_first, sound}
use Rattle.reordering.proofs.OtherRunsLemmas.Closed.{closed-end}
use Rattle.reordering.proofs.OtherRunsLemmas.Witnesses.{inner_come, come_inner, parted_causes, parted_events}

-- in a legal history the sent messages of a lane are at most as many as the received ones and the slots
slots_kept : (n k : ℕ) (h : List Occurrence) → IsLegal n k h → (q p : ℕ) → length (sent h q p) ≤ received h q p + k
slots_kept n k [] legal q p = omega arith
slots_kept n k (Send a b m ∷ h) legal q p = go (is_lane a b q p) refl (slots_kept n k h legal.1 q p)
  where
    go : (its : Bool) → is_lane a b q p ≡ its → length (sent h q p) ≤ received h q p + k → length (cond its (sent h q p ++ m ∷ []) (sent h q p)) ≤ received h q p + k
    go true lane before =
        let ends = and_parts (a == q) (b == p) lane in
        let less = subst₂ (λ x y. length (waiting h x y) < k) (eqb-true a q ends.0) (eqb-true b p ends.1) legal.0.2 in
        omega (arith, before, less, length-drop (received h q p) (sent h q p), length_push (sent h q p) m)
    go false lane before = before
slots_kept n k (Receive a b c ∷ h) legal q p = go (is_lane b a q p) (slots_kept n k h legal.1 q p)
  where
    go : (its : Bool) → length (sent h q p) ≤ received h q p + k → length (sent h q p) ≤ cond its (received h q p + 1) (received h q p) + k
    go true before = omega (arith, before)
    go false before = before
slots_kept n k (Close a b ∷ h) legal q p = slots_kept n k h legal.1 q p

-- in each run the events that are enforced before an event have come when it has
module _ (n k : ℕ) (c : Chart) (g : List Occurrence) (run : IsRunWithin n k c g) (h : List Occurrence) (begins : Begins h g) where
  direct_within : (e r : Place) → DirectWithin k c e r → HasCome c h r → HasCome c h e
  direct_within e r (enforced d) come = run.causes h begins e r d come
  direct_within e r (freed is to le) (was_sent q out lower) =
      let same = one_receiver c q e.instance r out to in
      let sent_so = subst (λ x. tally (is_send_to x) (c r.instance) r.index ≤ length (sent h r.instance x)) same lower in
      was_received r.instance is (omega (arith, le, sent_so, slots_kept n k h (legal_begun n k h g begins run.legal) r.instance e.instance))
  direct_within e r (freed is to le) (was_received q into lower) = absurd (not_both c e.instance q r to into)

  pub order_within : {e r : Place} → BeforeWithin k c e r → HasCome c h r → HasCome c h e
  order_within {e = e} {r = r} (direct d) come = direct_within e r d come
  order_within (through x y) come = order_within x (order_within y come)

-- A receive in a history that is legal with k slots.
module _ (n k : ℕ) (g : List Occurrence) (legal : IsLegal n k g) (s r : Place) (belongs : BelongsTo (chart_of g) s r) where
  abbrev pub first : Wanted
  first = wanted_first n k g legal s r belongs

  abbrev pub sends : Turns
  sends = (wanted k g first).sends

  abbrev pub receives : Turns
  receives = (wanted k g first).receives

  is_balanced : (q p : ℕ) → (receives q p ≤ sends q p) × (sends q p ≤ receives q p + k)
  is_balanced = balanced k g first (balanced-first k s.instance r.instance (tally (is_receive_from s.instance) (chart_of g r.instance) r.index))

  closed_direct : (e f : Place) → Direct (chart_of g) e f → IsWithin (chart_of g) sends receives f → IsWithin (chart_of g) sends receives e
  closed_direct e f d = closed-end n k g legal first e f (enforced d)

  -- r is wanted, with all events before it
  wants_it : IsWithin (chart_of g) sends receives r
  wants_it =
      let turn : ℕ = tally (is_receive_from s.instance) (chart_of g r.instance) r.index in
      receive s.instance belongs.received (omega (arith, raise-new (λ a b. 0) s.instance r.instance turn, (more-wanted k g first).1 s.instance r.instance))

  wants_before : {e f : Place} → BeforeWithin k (chart_of g) e f → IsWithin (chart_of g) sends receives f → IsWithin (chart_of g) sends receives e
  wants_before {e = e} {f = f} (direct d) wants = closed-end n k g legal first e f d wants
  wants_before (through x y) wants = wants_before x (wants_before y wants)

  pub wants_up : (e : Place) → (e ≡ r) ⊎ BeforeWithin k (chart_of g) e r → IsWithin (chart_of g) sends receives e
  wants_up e (inl same) = subst (λ x. IsWithin (chart_of g) sends receives x) (sym same) wants_it
  wants_up e (inr before) = wants_before before wants_it

  -- the run
  pub is_run : IsRunWithin n k (chart_of g) (parted sends receives g g)
  is_run = record {
    legal = legal_parted n k k sends receives (omega arith) (λ q p. (is_balanced q p).0) (λ q p. (is_balanced q p).1) g legal;
    events = parted_events n k g legal sends receives closed_direct;
    causes = parted_causes n k g legal sends receives closed_direct;
  }

  -- the receive comes first in it
  pub comes_first_there : ComesFirstWithin k (chart_of g) (parted sends receives g g) r
  comes_first_there = (
    inner sends receives g,
    inner_first sends receives g g,
    λ e. (
      λ come. sound n k g legal s r belongs e (inner_come (chart_of g) sends receives g g e come).0,
      λ up.
          let wants = wants_up e up in
          come_inner (chart_of g) sends receives g g e wants (all_come n k g legal e (within_event (chart_of g) sends receives e wants)),
    ),
  )

  first_within : (f : List Occurrence) × IsRunWithin n k (chart_of g) f × ComesFirstWithin k (chart_of g) f r
  first_within = (parted sends receives g g, is_run, comes_first_there)

-- in some run of the events of a chart that is possible with k slots the receive comes first
pub witness_within : (n k : ℕ) (c : Chart) → IsPossibleWithin n k c → (q : ℕ) (r : Place) → IsReceiveFrom c q r → (g : List Occurrence) × IsRunWithin n k c g × ComesFirstWithin k c g r
witness_within n k c (h, legal, same) q r =
    subst (λ d. IsReceiveFrom d q r → (g : List Occurrence) × IsRunWithin n k d g × ComesFirstWithin k d g r) (fun_ext same)
    (λ from. let s = sends_of n k h legal q r from in first_within n k h legal s.0 r s.1)

-- an event isn't before the receive exactly if the receive can overtake it
pub reordered_within : (n k : ℕ) (c : Chart) → IsPossibleWithin n k c → (q : ℕ) (r : Place) → IsReceiveFrom c q r → (e : Place) → IsEvent c e → e ≢ r → (BeforeWithin k c e r → ⊥) ↔ CanBeOvertakenWithin n k c e r
reordered_within n k c possible q r from e here differs = (
  λ apart.
      let w = witness_within n k c possible q r from in
      let moment = w.2 in
      (w.0, w.1, (moment.0, moment.1, (moment.2 r).1 (inl refl), λ come. ⊎_elim (λ same. differs same) (λ before. apart before) ((moment.2 e).0 come))),
  λ can before. can.2.3 (order_within n k c can.0 can.1 can.2.0 can.2.1 before can.2.2),
)
