-- Race pairs of a chart: each is a race, and how many there are is one number.
use Rattle.std.proofs.Common.{◌≡◌, ℕ, suc, ◌+◌, ◌<◌, false, List, [], ◌∷◌, ◌++◌, length, map, get_or, Some, refl, sym, ap, ◌∙◌, subst, arith, add-one, append_assoc, eq-eqb}
use Rattle.std.specs.Prelude.{All}
use Rattle.std.specs.List.{flat_map}
use Rattle.std.proofs.lemmas.List.{length-append, get_or-map, length-map}
use Rattle.std.proofs.lemmas.List.Concat.{flat_map-cons}
use Rattle.std.proofs.lemmas.List.Elements.{All-nil, All-cons, All-append, All-head, All-tail, All-map, All-weaker}
use Rattle.std.proofs.lemmas.Option.{same_Some, slice_get-get_or}
use Rattle.chart.specs.declared.event.Event.{Event}
use Rattle.chart.specs.declared.event.Event.TheVariants.{Send, Receive}
use Rattle.chart.specs.declared.instance.EventNo.{EventNo}
use Rattle.chart.specs.Events.{ith, is_in}
use Rattle.chart.specs.Charts.{Chart, at, chart_event, LineView, IsNumbered, IsReceiveFrom, chart_lines}
use Rattle.chart.specs.Order.{Before, region_of_event}
use Rattle.chart.specs.Reports.{ReportView, receives_from, receives_of}
use Rattle.chart.proofs.Tally.{ith_within, ith-append_next}
use Rattle.closure.specs.Faults.{place_of}
use Rattle.repair.specs.Messages.{IsRace}
use Rattle.repair.specs.declared.pairs.RacePair.{RacePair}
use Rattle.repair.specs.Repairs.{pairs_of_report, pairs_of, ArePairs}
use Rattle.repair.specs.Counted.{CountedView}
use Rattle.repair.specs.Best.{HasPairs}
use Rattle.shown_races.proofs.ShownLemmas.{IsRaceOf}
use Rattle.repair.proofs.CountedLemmas.{counted_races, counted_receives, one_counted}

-- what holds of each of several lists' elements holds of those of all
all_flat : {X Y : Type 0} (P : Y → Type 0) (f : X → List Y) (xs : List X) → All (λ x. All P (f x)) xs → All P (flat_map f xs)
all_flat P f [] each = All-nil P
all_flat P f (x ∷ xs) each =
    subst (All P) (sym (flat_map-cons f x xs)) (All-append P (f x) (flat_map f xs) (All-head (λ y. All P (f y)) x xs each) (all_flat P f xs (All-tail (λ y. All P (f y)) x xs each)))

-- there is a receive
abbrev HasReceive : Chart → EventNo → Type 0
HasReceive c e = (q : ℕ) × IsReceiveFrom c q (place_of e)

-- the receives among the last events of a line are receives of the chart
receives_on : (c : Chart) (p : ℕ) (front line : List Event) (i : ℕ) → c p ≡ front ++ line → i ≡ length front + 1 → All (HasReceive c) (receives_from p i line)
receives_on c p front [] i is place = All-nil (HasReceive c)
receives_on c p front (Send to name ∷ line) i is place =
    let m : Event = Send to name in
    let longer : i + 1 ≡ length (front ++ m ∷ []) + 1 = ap (λ n. n + 1) place ∙ ap (λ n. n + 1) (sym (length-append front (m ∷ []))) in
    receives_on c p (front ++ m ∷ []) line (i + 1) (is ∙ sym (append_assoc front (m ∷ []) line)) longer
receives_on c p front (Receive from name region ∷ line) i is place =
    let m : Event = Receive from name region in
    let longer : i + 1 ≡ length (front ++ m ∷ []) + 1 = ap (λ n. n + 1) place ∙ ap (λ n. n + 1) (sym (length-append front (m ∷ []))) in
    let here : ith (c p) i ≡ Some m = ap (λ l. ith l i) is ∙ ap (ith (front ++ m ∷ line)) (place ∙ add-one (length front)) ∙ ith-append_next front line m in
    All-cons (HasReceive c) (record { instance = p; index = i }) (receives_from p (i + 1) line) (from, (m, here, eq-eqb from from refl))
    (receives_on c p (front ++ m ∷ []) line (i + 1) (is ∙ sym (append_assoc front (m ∷ []) line)) longer)

-- those of each line
receives_are : (lines : List LineView) → IsNumbered lines → All (HasReceive (chart_lines lines)) (flat_map receives_of lines)
receives_are lines numbered = all_flat (HasReceive (chart_lines lines)) receives_of lines each
  where
    each : All (λ (l : LineView). All (HasReceive (chart_lines lines)) (receives_of l)) lines
    each i d within =
        let none : LineView = record { instance = suc i; events = [] } in
        let l = get_or lines i d in
        let number = numbered i l (slice_get-get_or lines i d within) in
        let same : get_or lines i none ≡ l = same_Some (get_or lines i none) l (sym (slice_get-get_or lines i none within) ∙ slice_get-get_or lines i d within) in
        let its : chart_lines lines l.instance ≡ l.events = ap (chart_lines lines) number ∙ ap (λ (x : LineView). x.events) same in
        receives_on (chart_lines lines) l.instance [] l.events 1 its refl

-- a race of a report
race_in : (c : Chart) (r e : EventNo) → IsRaceOf c r e → IsRace c (place_of e) (place_of r)
race_in c r e race =
    let line = race.line in
    let w = race.apart in
    let there : chart_event c (place_of e) ≡ Some w.0 = ap (λ p. ith (c p) e.index) line ∙ w.1 in
    let same : at r.instance e.index ≡ place_of e = ap (λ p. at p e.index) (sym line) in
    record {
      earlier = record { line = line; begun = (ith_within (c e.instance) e.index w.0 there).0; less = race.less };
      apart = λ m here. subst (λ x. is_in (region_of_event (chart_event c (place_of r))) x ≡ false) (same_Some w.0 m (sym there ∙ here)) w.2;
      free = λ before. race.free (subst (λ x. Before c x (place_of r)) (sym same) before);
    }

-- a race pair of a chart
abbrev pub IsRacePair : Chart → RacePair → Type 0
IsRacePair c pair = IsRace c (place_of pair.earlier) (place_of pair.receive) × HasReceive c pair.receive

pub pairs_race : (counted : CountedView) (lines : List LineView) (pairs : List RacePair) → IsNumbered lines → ArePairs counted lines pairs → All (IsRacePair (chart_lines lines)) pairs
pairs_race counted lines pairs numbered (reports, are, is) = subst (All (IsRacePair (chart_lines lines))) (sym is) (all_flat (IsRacePair (chart_lines lines)) pairs_of_report reports each)
  where
    each : All (λ (report : ReportView). All (IsRacePair (chart_lines lines)) (pairs_of_report report)) reports
    each i d within =
        let report = get_or reports i d in
        let receives = counted_receives counted lines reports are in
        let long = length-map reports (λ (r : ReportView). r.receive) in
        let there : get_or (map (λ (r : ReportView). r.receive) reports) i d.receive ≡ report.receive = get_or-map (λ (r : ReportView). r.receive) reports i d d.receive within in
        let listed : get_or (flat_map receives_of lines) i d.receive ≡ report.receive = ap (λ es. get_or es i d.receive) (sym receives) ∙ there in
        let inside : i < length (flat_map receives_of lines) = omega (arith, within, long, ap (λ (es : List EventNo). length es) receives) in
        let receive : HasReceive (chart_lines lines) report.receive = subst (HasReceive (chart_lines lines)) listed (receives_are lines numbered i d.receive inside) in
        let paired : EventNo → RacePair = λ (e : EventNo). record { earlier = e; receive = report.receive } in
        All-map (IsRacePair (chart_lines lines)) paired report.earlier
        (All-weaker (IsRaceOf (chart_lines lines) report.receive) (λ (e : EventNo). IsRacePair (chart_lines lines) (paired e)) (λ e race. (race_in (chart_lines lines) report.receive e race, receive)) report.earlier (counted_races counted lines reports are i d within))

-- a chart has one list of race pairs
pub one_pairs : (counted : CountedView) (lines : List LineView) (xs ys : List RacePair) → ArePairs counted lines xs → ArePairs counted lines ys → xs ≡ ys
one_pairs counted lines xs ys (a, are_a, is_a) (b, are_b, is_b) = is_a ∙ ap pairs_of (one_counted counted lines a b are_a are_b) ∙ sym is_b

-- and so many
pub one_count : (counted : CountedView) (lines : List LineView) (m n : ℕ) → HasPairs counted lines m → HasPairs counted lines n → m ≡ n
one_count counted lines m n (xs, are_x, is_m) (ys, are_y, is_n) = is_m ∙ ap (λ (l : List RacePair). length l) (one_pairs counted lines xs ys are_x are_y) ∙ sym is_n
