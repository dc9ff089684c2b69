-- Which line can go on, and that one can as long as events are left.
use Rattle.std.proofs.Common.{◌≡◌, ℕ, suc, ◌+◌, ◌-◌, ◌<◌, ◌≤◌, ◌⊎◌, inl, inr, List, length, map, None, Some, refl, sym, ap, ◌∙◌, subst, arith, eq-eqb}
use Rattle.std.specs.Prelude.{slice_index}
use Rattle.std.specs.List.{range_with_len}
use Rattle.std.proofs.Math.Path.{fun_ext}
use Rattle.std.proofs.lemmas.Bool.{cases_lt}
use Rattle.std.proofs.lemmas.Option.{none-some}
use Rattle.std.proofs.lemmas.List.FromFn.{get_or-map-range_with_len}
use Rattle.chart.specs.declared.event.Event.{Event as Occurs}
use Rattle.chart.specs.declared.event.Event.TheVariants as events
use Rattle.chart.specs.Charts.{Chart, Place, at, chart_event, LineView, IsSendTo, IsReceiveFrom, BelongsTo, IsPossible, chart_lines}
use Rattle.chart.specs.Places.{IsEvent}
use Rattle.chart.specs.Events.{is_send_to}
use Rattle.chart.proofs.Growing.{HasSends}
use Rattle.chart.proofs.Tally.{ith_at}
use Rattle.chart.proofs.Sends.{sends_of}
use Rattle.chart.proofs.Belongs.{IsEvent-from_passes, same_place, not_both, same_send}
use Rattle.closure.specs.Closures.{IsPossibleChart}
use Rattle.closure.specs.Runs.{IsStopped, AreStopped}
use Rattle.closure.proofs.Impossible.{no_cycle}
use Rattle.closure.proofs.ReadLemmas.{instance_within}
use Rattle.closure.proofs.RunLemmas.{IsCyclic-from_stopped}
use Rattle.chart_layout.specs.declared.row.Row.{Row}
use Rattle.chart_layout.specs.declared.finding.Way.{Way}
use Rattle.chart_layout.specs.declared.finding.Way.TheVariants.{Level, Early}
use Rattle.chart_layout.specs.Layouts.{laid_out, row_of, AreInOrder}
use Rattle.chart_layout.specs.Ways.{IsNextEvent, IsArrival, HasNoArrival, HasNoWay, HaveNoArrival, HaveNoWay, AreLaidOut}
use Rattle.chart_layout.proofs.BegunLemmas.{row_of_laid_out}

-- a line has only one next event
pub same_next : (c : Chart) (rows : List Row) (e f : Place) → e.instance ≡ f.instance → IsNextEvent c rows e → IsNextEvent c rows f → e ≡ f
same_next c rows e f line x y = same_place e f line (x.next ∙ ap (λ p. length (laid_out rows p) + 1) line ∙ sym y.next)

-- it has none if all of its events are in the rows
pub none_next : (c : Chart) (rows : List Row) (p : ℕ) → length (c (suc p)) ≤ length (laid_out rows (suc p)) → (e : Place) → e.instance ≡ suc p → IsNextEvent c rows e → ⊥
none_next c rows p all e line next =
    let number = subst (λ q. e.index ≡ length (laid_out rows q) + 1) line next.next in
    let bound = subst (λ q. e.index ≤ length (c q)) line next.event.1 in
    omega arith

pub no_way : (c : Chart) (rows : List Row) (way : Way) (p : ℕ) → length (c (suc p)) ≤ length (laid_out rows (suc p)) → HasNoWay c rows way p
no_way c rows Level p all = λ s r line belongs next_s next_r. none_next c rows p all r line next_r
no_way c rows Early p all = λ q s line sends next_s. none_next c rows p all s line next_s

pub no_arrival : (c : Chart) (rows : List Row) (p : ℕ) → length (c (suc p)) ≤ length (laid_out rows (suc p)) → HasNoArrival c rows p
no_arrival c rows p all e i line arrival = none_next c rows p all e line arrival.next

-- an event is a send or a receive
pub kind_of : (c : Chart) (e : Place) → IsEvent c e → ((q : ℕ) × IsSendTo c q e) ⊎ ((q : ℕ) × IsReceiveFrom c q e)
kind_of c e here = let m = ith_at (c e.instance) e.index here.0 here.1 in go m.0 m.1
  where
    go : (m : Occurs) → chart_event c e ≡ Some m → ((q : ℕ) × IsSendTo c q e) ⊎ ((q : ℕ) × IsReceiveFrom c q e)
    go (events.Send to name) is = inl (to, (events.Send to name, is, eq-eqb to to refl))
    go (events.Receive from name region) is = inr (from, (events.Receive from name region, is, eq-eqb from from refl))

module _ (c : Chart) (rows : List Row) (e : Place) (p : ℕ) (line : e.instance ≡ suc p) (next : IsNextEvent c rows e) where
  -- if the next event is no receive, it is a send, and the line can't go on in the other ways
  module _ (none : (q : ℕ) → IsReceiveFrom c q e → ⊥) where
    pub is_send : (q : ℕ) × IsSendTo c q e
    is_send = elim (kind_of c e next.event) [ inl sends ↦ sends | inr receives ↦ absurd (none receives.0 receives.1) ]

    pub not_level : HasNoWay c rows Level p
    not_level = λ s r here belongs next_s next_r. none s.instance (subst (IsReceiveFrom c s.instance) (same_next c rows r e (here ∙ sym line) next_r next) belongs.received)

    pub not_arrival : HasNoArrival c rows p
    not_arrival = λ x i here arrival. none arrival.send.instance (subst (IsReceiveFrom c arrival.send.instance) (same_next c rows x e (here ∙ sym line) arrival.next next) arrival.belongs.received)

    pub not_otherwise : (way : Way) → (way ≡ Early → ⊥) → HasNoWay c rows way p
    not_otherwise Level other = not_level
    not_otherwise Early other = absurd (other refl)

  -- if it is the receive of a send, it depends on this send
  module _ (s : Place) (belongs : BelongsTo c s e) where
    pub not_early : HasNoWay c rows Early p
    not_early = λ q t here sends next_t. not_both c q s.instance e (subst (IsSendTo c q) (same_next c rows t e (here ∙ sym line) next_t next) sends) belongs.received

    its_send : (t r : Place) → r.instance ≡ suc p → BelongsTo c t r → IsNextEvent c rows r → t ≡ s
    its_send t r here other next_r = same_send c t s e (subst (BelongsTo c t) (same_next c rows r e (here ∙ sym line) next_r next) other) belongs

    pub not_level_yet : (s.index ≡ length (laid_out rows s.instance) + 1 → ⊥) → HasNoWay c rows Level p
    not_level_yet later = λ t r here other next_t next_r. later (subst (λ (x : Place). x.index ≡ length (laid_out rows x.instance) + 1) (its_send t r here other next_r) next_t.next)

    -- as many events of the send's line are in the rows as there are before the send
    pub send_next : s.index - 1 ≡ length (laid_out rows s.instance) → IsNextEvent c rows s
    send_next same = let event = IsEvent-from_passes c (is_send_to e.instance) s belongs.sent in record { event = event; next = omega (arith, event.0, same) }

    pub not_level_there : (s.index - 1 ≡ length (laid_out rows s.instance) → ⊥) → HasNoWay c rows Level p
    not_level_there differs = not_level_yet (λ same. differs (omega (arith, same)))

    pub not_else : (way : Way) → (way ≡ Level → ⊥) → HasNoWay c rows way p
    not_else Level level = absurd (level refl)
    not_else Early level = not_early

    -- it comes next if its send is above
    pub arrives : (i : ℕ) → row_of rows s ≡ Some i → IsArrival c rows e i
    arrives i row = record { next = next; send = s; belongs = belongs; row = row }

    pub not_there : row_of rows s ≡ None → HasNoArrival c rows p
    not_there none x i here arrival =
        let same : arrival.send ≡ s = its_send arrival.send x here arrival.belongs arrival.next in
        none-some i (sym none ∙ ap (row_of rows) (sym same) ∙ arrival.row)

-- each receive of a possible chart has its send
pub has_sends : (n : ℕ) (c : Chart) → IsPossible n c → HasSends c
has_sends n c possible = subst HasSends (fun_ext possible.3) (sends_of n possible.1 possible.0 possible.2)

-- if no line can go on, all events are in the rows: otherwise some line could, since the chart has no cycle
module _ (lines : List LineView) (rows : List Row) (possible : IsPossibleChart lines) (order : AreInOrder rows) (arrivals : HaveNoArrival (chart_lines lines) (length lines) rows) (early : HaveNoWay (chart_lines lines) (length lines) rows Early) where
  abbrev n : ℕ
  n = length lines

  abbrev c : Chart
  c = chart_lines lines

  -- the number of events of each line in the rows
  abbrev made : List ℕ
  made = map (λ p. length (laid_out rows (suc p))) (range_with_len 0 n)

  made_at : (p : ℕ) → p < n → slice_index made p ≡ length (laid_out rows (suc p))
  made_at p inside = get_or-map-range_with_len (λ q. length (laid_out rows (suc q))) 0 n p p 0 inside (omega arith)

  stopped : AreStopped c n made
  stopped p inside =
      elim (cases_lt (length (laid_out rows (suc p))) (length (c (suc p)))) [
        | inr all ↦ inl (omega (arith, all, made_at p inside))
        | inl more ↦ by_kind more (kind_of c (at (suc p) (suc (length (laid_out rows (suc p))))) (omega arith, omega arith))
      ]
    where
      by_kind : length (laid_out rows (suc p)) < length (c (suc p)) → ((q : ℕ) × IsSendTo c q (at (suc p) (suc (length (laid_out rows (suc p)))))) ⊎ ((q : ℕ) × IsReceiveFrom c q (at (suc p) (suc (length (laid_out rows (suc p)))))) → IsStopped c n made p
      by_kind more (inl sends) = absurd (early p inside sends.0 (at (suc p) (suc (length (laid_out rows (suc p))))) refl sends.1 (record { event = (omega arith, omega arith); next = omega arith }))
      by_kind more (inr receives) =
          let e = at (suc p) (suc (length (laid_out rows (suc p)))) in
          let w = has_sends n c possible.possible receives.0 e receives.1 in
          let event = IsEvent-from_passes c (is_send_to (suc p)) w.0 w.1.sent in
          let on = instance_within lines w.0 event in
          let next : IsNextEvent c rows e = record { event = (omega arith, omega arith); next = omega arith } in
          let later : length (laid_out rows w.0.instance) < w.0.index = elim (cases_lt (length (laid_out rows w.0.instance)) w.0.index) [
            | inl low ↦ low
            | inr above ↦ let row = row_of_laid_out rows order w.0 event.0 above in absurd (arrivals p inside e row.0 refl (record { next = next; send = w.0; belongs = w.1; row = row.1 }))
          ] in
          inr (
            on.0,
            w.0.index,
            on.2,
            subst (λ k. BelongsTo c (at (suc on.0) w.0.index) (at (suc p) (suc k))) (sym (made_at p inside)) (subst (λ q. BelongsTo c (at q w.0.index) e) on.1 w.1),
            omega (arith, made_at on.0 on.2, subst (λ q. length (laid_out rows q) < w.0.index) on.1 later),
          )

  pub all_laid_out : AreLaidOut c n rows
  all_laid_out p inside =
      elim (cases_lt (length (laid_out rows (suc p))) (length (c (suc p)))) [
        | inr all ↦ all
        | inl more ↦ absurd (no_cycle n c possible.possible (IsCyclic-from_stopped c n made stopped p inside (omega (arith, more, made_at p inside))))
      ]
