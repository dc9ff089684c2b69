-- Each event of a chart has its counterpart in the chart of a run with the same events.
use Rattle.std.proofs.Common.{◌≡◌, ℕ, suc, ◌+◌, ◌-◌, ◌<◌, ◌≤◌, ◌==◌, Bool, true, false, cond, List, [], ◌∷◌, length, take, Some, refl, sym, ap, ◌∙◌, arith, count_by, take_all, eq-eqb}
use Rattle.std.specs.Prelude.{option_map}
use Rattle.std.proofs.lemmas.Bool.{eqb-false}
use Rattle.chart.specs.declared.event.Event.{Event}
use Rattle.chart.specs.declared.event.Event.TheVariants.{Send, Receive}
use Rattle.chart.specs.declared.history.Occurrence.{Occurrence}
use Rattle.chart.specs.declared.instance.EventNo.{EventNo}
use Rattle.chart.specs.Charts.{Chart, LineView, chart_event, chart_lines}
use Rattle.chart.specs.Events.{is_send_to, is_receive_from}
use Rattle.chart.specs.Histories.{chart_of}
use Rattle.chart.specs.Places.{IsEvent}
use Rattle.chart.proofs.Lanes.{received_count}
use Rattle.chart.proofs.Tally.{ith_at, tally-le, tally-lt}
use Rattle.closure.specs.Faults.{place_of}
use Rattle.cmd_draw.specs.Witness.Counterparts.{is_like, turn_of, nth, counterpart_of, counterpart}
use Rattle.reordering.specs.OtherRuns.OtherRuns.{IsRunWithin, names_to}
use Rattle.reordering.proofs.OtherRunsLemmas.Counted.{names_sent}
use Rattle.picture_laws.specs.Marks.{and_one}
use Rattle.picture_laws.proofs.CountLemmas.{passing, count_is}

-- the event of a turn that is reached
nth_there : (m : Event) (n i : ℕ) (line : List Event) → 1 ≤ n → n ≤ passing (is_like m) line → (j : ℕ) × (nth m n i line ≡ Some j) × (i ≤ j) × (j < i + length line)
nth_there m n i [] low high = absurd (omega (arith, low, high))
nth_there m n i (x ∷ line) low high = go (is_like m x) high (n == 1) refl (λ k some many. nth_there m k (i + 1) line some many)
  where
    go : (like : Bool) → n ≤ and_one like (passing (is_like m) line) → (last : Bool) → (n == 1) ≡ last
        → ((k : ℕ) → 1 ≤ k → k ≤ passing (is_like m) line → (j : ℕ) × (nth m k (i + 1) line ≡ Some j) × (i + 1 ≤ j) × (j < i + 1 + length line))
        → (j : ℕ) × (cond like (cond last (Some i) (nth m (n - 1) (i + 1) line)) (nth m n (i + 1) line) ≡ Some j) × (i ≤ j) × (j < i + suc (length line))
    go true enough true e rest = (i, refl, omega arith, omega arith)
    go true enough false e rest = let found = rest (n - 1) (let differs = eqb-false n 1 e in omega (arith, low, differs)) (omega (arith, enough)) in (found.0, found.1, omega (arith, found.2), omega (arith, found.3))
    go false enough last e rest = let found = rest n low enough in (found.0, found.1, omega (arith, found.2), omega (arith, found.3))

length_names : (p : ℕ) (line : List Event) → length (names_to p line) ≡ passing (is_send_to p) line
length_names p [] = refl
length_names p (Send to name ∷ line) = go (to == p) (length_names p line)
  where
    go : (its : Bool) → length (names_to p line) ≡ passing (is_send_to p) line → length (cond its (name ∷ names_to p line) (names_to p line)) ≡ and_one its (passing (is_send_to p) line)
    go true rest = ap suc rest
    go false rest = rest
length_names p (Receive from name region ∷ line) = length_names p line

like_itself : (m : Event) → is_like m m ≡ true
like_itself (Send to name) = eq-eqb to to refl
like_itself (Receive from name region) = eq-eqb from from refl

module _ (n k : ℕ) (c : Chart) (h : List Occurrence) (run : IsRunWithin n k c h) where
  -- on each line as many events are alike
  as_many : (p : ℕ) (m : Event) → passing (is_like m) (c p) ≡ passing (is_like m) (chart_of h p)
  as_many p (Send to name) =
      sym (length_names to (c p)) ∙ ap length (sym (run.events.messages p to) ∙ names_sent h p to) ∙ length_names to (chart_of h p)
  as_many p (Receive from name region) =
      sym (count_is (is_receive_from from) (c p)) ∙ sym (run.events.receives from p) ∙ sym (received_count n k h run.legal from p) ∙ count_is (is_receive_from from) (chart_of h p)

pub counterpart_there : (n k : ℕ) (lines others : List LineView) (h : List Occurrence) → IsRunWithin n k (chart_lines lines) h → chart_of h ≡ chart_lines others → (e : EventNo) → IsEvent (chart_lines lines) (place_of e)
    → (f : EventNo) × (counterpart lines others e ≡ Some f) × (f.instance ≡ e.instance) × IsEvent (chart_lines others) (place_of f)
counterpart_there n k lines others h run same e event = (
  record { instance = e.instance; index = found.0 },
  ap (counterpart_of e (chart_lines lines e.instance) (chart_lines others e.instance)) m.1 ∙ ap (option_map event_at) found.1,
  refl,
  (found.2, omega (arith, found.3)),
)
  where
    event_at : ℕ → EventNo
    event_at index = record { instance = e.instance; index = index }

    m : (m : Event) × (chart_event (chart_lines lines) (place_of e) ≡ Some m)
    m = ith_at (chart_lines lines e.instance) e.index event.0 event.1

    low : 1 ≤ turn_of (take e.index (chart_lines lines e.instance)) m.0
    low = let less = tally-lt (is_like m.0) (chart_lines lines e.instance) 0 e.index event.0 (m.0, m.1, like_itself m.0) in omega (arith, less)

    high : turn_of (take e.index (chart_lines lines e.instance)) m.0 ≤ passing (is_like m.0) (chart_lines others e.instance)
    high =
        let up = tally-le (is_like m.0) (chart_lines lines e.instance) e.index (length (chart_lines lines e.instance)) event.1 in
        let all = ap (count_by (is_like m.0)) (take_all (length (chart_lines lines e.instance)) (chart_lines lines e.instance) (omega arith)) in
        let moved = as_many n k (chart_lines lines) h run e.instance m.0 ∙ ap (λ (d : Chart). passing (is_like m.0) (d e.instance)) same in
        omega (arith, up, all, count_is (is_like m.0) (chart_lines lines e.instance), moved)

    found : (j : ℕ) × (nth m.0 (turn_of (take e.index (chart_lines lines e.instance)) m.0) 1 (chart_lines others e.instance) ≡ Some j) × (1 ≤ j) × (j < 1 + length (chart_lines others e.instance))
    found = nth_there m.0 (turn_of (take e.index (chart_lines lines e.instance)) m.0) 1 (chart_lines others e.instance) low high
