-- The reports with the races that count: a chart has one list of them, they are few, and each of their events is a race.
-- And the places of races that were luck, in a chart with one message more.
use Rattle.std.proofs.Common.{◌≡◌, ◌≢◌, ℕ, ◌+◌, ◌*◌, ◌≤◌, ◌==◌, Bool, true, false, cond, List, [], ◌∷◌, length, map, All, refl, sym, ap, ◌∙◌, subst, arith, eqb-true, eq-eqb}
use Rattle.std.specs.Prelude.{nat_le}
use Rattle.std.specs.List.{flat_map}
use Rattle.std.proofs.lemmas.Bool.{false≢true}
use Rattle.std.proofs.lemmas.List.{length-map}
use Rattle.std.proofs.lemmas.List.Edits.{length-insert}
use Rattle.std.proofs.lemmas.List.Elements.{All-map, All-weaker, All-filter}
use Rattle.chart.specs.declared.event.Event.{Event}
use Rattle.chart.specs.declared.instance.EventNo.{EventNo}
use Rattle.chart.specs.declared.instance.TheConstants.{MAX_INSTANCES}
use Rattle.chart.specs.declared.line.TheConstants.{MAX_EVENTS}
use Rattle.chart.specs.Charts.{Chart, LineView, IsChart, chart_lines}
use Rattle.chart.specs.Events.{send_event, receive_event}
use Rattle.chart.specs.Reports.{ReportView, receives_of}
use Rattle.repair.specs.Counted.{CountedView, lucky_report, was_luck, counted_of, AreCounted, IsWithin, IsPlaced, ArePlaced}
use Rattle.repair.specs.Growing.{message_of}
use Rattle.repair.specs.Messages.{NewMessage, IsWith, moved_index}
use Rattle.repair.specs.Moves.{moved_event, moved_report, moved_counted, HasNumbers}
use Rattle.repair.specs.Repairs.{AreFew, IsBest, with_message}
use Rattle.repair.specs.declared.best.Addition.{Addition}
use Rattle.shown_races.specs.Shown.{AreShown}
use Rattle.shown_races.proofs.ShownLemmas.{IsRaceOf, HasRaces, shown_races, shown_receives, one_shown}
use Rattle.repair.proofs.CountLemmas.{line_shorts, few_shown, no_longer}

-- Fewer races of each report:

lucky_receives : (luck : List ReportView) (reports : List ReportView) → map (λ (r : ReportView). r.receive) (map (lucky_report luck) reports) ≡ map (λ (r : ReportView). r.receive) reports
lucky_receives luck [] = refl
lucky_receives luck (r ∷ rs) = ap (λ (es : List EventNo). r.receive ∷ es) (lucky_receives luck rs)

some_receives : (only : Bool) (luck reports : List ReportView) → map (λ (r : ReportView). r.receive) (cond only (map (lucky_report luck) reports) reports) ≡ map (λ (r : ReportView). r.receive) reports
some_receives true luck reports = lucky_receives luck reports
some_receives false luck reports = refl

pub counted_receives : (counted : CountedView) (lines : List LineView) (reports : List ReportView) → AreCounted counted lines reports → map (λ (r : ReportView). r.receive) reports ≡ flat_map receives_of lines
counted_receives counted lines reports (shown, are, is) =
    ap (map (λ (r : ReportView). r.receive)) is ∙ some_receives counted.only_luck counted.luck shown ∙ shown_receives counted.showing lines shown are

some_races : (c : Chart) (only : Bool) (luck reports : List ReportView) → All (HasRaces c) reports → All (HasRaces c) (cond only (map (lucky_report luck) reports) reports)
some_races c false luck reports each = each
some_races c true luck reports each =
    All-map (HasRaces c) (lucky_report luck) reports
    (All-weaker (HasRaces c) (λ (r : ReportView). HasRaces c (lucky_report luck r)) (λ r races. All-filter (was_luck luck r.receive) (IsRaceOf c r.receive) r.earlier races) reports each)

pub counted_races : (counted : CountedView) (lines : List LineView) (reports : List ReportView) → AreCounted counted lines reports → All (HasRaces (chart_lines lines)) reports
counted_races counted lines reports (shown, are, is) =
    subst (All (HasRaces (chart_lines lines))) (sym is) (some_races (chart_lines lines) counted.only_luck counted.luck shown (shown_races counted.showing lines shown are))

-- a chart has one list of them
pub one_counted : (counted : CountedView) (lines : List LineView) (xs ys : List ReportView) → AreCounted counted lines xs → AreCounted counted lines ys → xs ≡ ys
one_counted counted lines xs ys (a, are_a, is_a) (b, are_b, is_b) = is_a ∙ ap (counted_of counted) (one_shown counted.showing lines a b are_a are_b) ∙ sym is_b

some_few : (only : Bool) (luck reports : List ReportView) → AreFew reports → AreFew (cond only (map (lucky_report luck) reports) reports)
some_few false luck reports few = few
some_few true luck reports few = record { count = count; each = each }
  where
    count : length (map (lucky_report luck) reports) ≤ MAX_INSTANCES * MAX_EVENTS
    count = let long = length-map reports (lucky_report luck) in let many = few.count in omega (arith, long, many)

    each : All (λ (report : ReportView). length report.earlier ≤ MAX_EVENTS) (map (lucky_report luck) reports)
    each =
        All-map (λ (report : ReportView). length report.earlier ≤ MAX_EVENTS) (lucky_report luck) reports
        (All-weaker (λ (report : ReportView). length report.earlier ≤ MAX_EVENTS) (λ (report : ReportView). length (lucky_report luck report).earlier ≤ MAX_EVENTS)
        (λ report short. let fewer = no_longer (was_luck luck report.receive) report.earlier in omega (arith, fewer, short)) reports few.each)

pub few_counted : (counted : CountedView) (lines : List LineView) (reports : List ReportView) → IsChart lines → AreCounted counted lines reports → AreFew reports
few_counted counted lines reports chart (shown, are, is) =
    subst AreFew (sym is) (some_few counted.only_luck counted.luck shown (few_shown counted.showing lines shown chart are))

-- the reports that were made one way or the other
pub counted_as : (counted : CountedView) (lines : List LineView) (only : Bool) (shown reports : List ReportView) → counted.only_luck ≡ only → AreShown counted.showing lines shown → reports ≡ cond only (map (lucky_report counted.luck) shown) shown → AreCounted counted lines reports
counted_as counted lines only shown reports is are made =
    (shown, are, made ∙ ap (λ (b : Bool). cond b (map (lucky_report counted.luck) shown) shown) (sym is))

-- Places of events:

-- no line is longer than it may be
small : (lines : List LineView) (e : EventNo) → IsChart lines → IsWithin lines e → e.index ≤ MAX_EVENTS
small lines e chart within = let short = line_shorts lines e.instance chart in omega (arith, within, short)

pub small_numbers : (counted : CountedView) (lines : List LineView) → IsChart lines → ArePlaced counted lines → All HasNumbers counted.luck
small_numbers counted lines chart placed =
    All-weaker (IsPlaced lines) HasNumbers (λ report is. record {
      receive = small lines report.receive chart is.receive;
      earlier = All-weaker (IsWithin lines) (λ (e : EventNo). e.index ≤ MAX_EVENTS) (λ e within. small lines e chart within) report.earlier is.earlier;
    }) counted.luck placed

-- with one event more
index_next : (k i n : ℕ) → i ≤ n → moved_index k i ≤ n + 1
index_next k i n within = by (nat_le i k)
  where
    by : (b : Bool) → cond b i (i + 1) ≤ n + 1
    by true = omega (arith, within)
    by false = omega (arith, within)

module _ (m : NewMessage) (lines longer : List LineView) (with : IsWith m (chart_lines lines) (chart_lines longer)) where
  on_sender : (e : EventNo) → e.instance ≡ m.sender → IsWithin lines e → moved_index m.sent e.index ≤ length (chart_lines longer e.instance)
  on_sender e is within =
      let line = length-insert (chart_lines lines m.sender) m.sent (send_event m.receiver m.name) with.sent_within in
      let same = ap (λ (l : List Event). length l) with.send in
      let mine = ap (λ p. length (chart_lines lines p)) is in
      let theirs = ap (λ p. length (chart_lines longer p)) is in
      let next = index_next m.sent e.index (length (chart_lines lines e.instance)) within in
      omega (arith, line, same, mine, theirs, next)

  on_receiver : (e : EventNo) → e.instance ≡ m.receiver → IsWithin lines e → moved_index m.received e.index ≤ length (chart_lines longer e.instance)
  on_receiver e is within =
      let line = length-insert (chart_lines lines m.receiver) m.received (receive_event m.sender m.name m.region) with.received_within in
      let same = ap (λ (l : List Event). length l) with.receive in
      let mine = ap (λ p. length (chart_lines lines p)) is in
      let theirs = ap (λ p. length (chart_lines longer p)) is in
      let next = index_next m.received e.index (length (chart_lines lines e.instance)) within in
      omega (arith, line, same, mine, theirs, next)

  unequal : (a b : ℕ) → (a == b) ≡ false → a ≢ b
  unequal a b off is = false≢true (sym off ∙ eq-eqb a b is)

  elsewhere : (e : EventNo) → (e.instance == m.sender) ≡ false → (e.instance == m.receiver) ≡ false → IsWithin lines e → e.index ≤ length (chart_lines longer e.instance)
  elsewhere e not_sender not_receiver within =
      let same = ap (λ (l : List Event). length l) (with.others e.instance (unequal e.instance m.sender not_sender) (unequal e.instance m.receiver not_receiver)) in
      omega (arith, same, within)

  moved_within : (e : EventNo) → IsWithin lines e → IsWithin longer (moved_event m e)
  moved_within e within = by (e.instance == m.sender) (e.instance == m.receiver) refl refl
    where
      by : (s r : Bool) → (e.instance == m.sender) ≡ s → (e.instance == m.receiver) ≡ r → cond s (moved_index m.sent e.index) (cond r (moved_index m.received e.index) e.index) ≤ length (chart_lines longer e.instance)
      by true r is also = on_sender e (eqb-true e.instance m.sender is) within
      by false true is also = on_receiver e (eqb-true e.instance m.receiver also) within
      by false false is also = elsewhere e is also within

  moved_placed : (report : ReportView) → IsPlaced lines report → IsPlaced longer (moved_report m report)
  moved_placed report is = record {
    receive = moved_within report.receive is.receive;
    earlier = All-map (IsWithin longer) (moved_event m) report.earlier
        (All-weaker (IsWithin lines) (λ (e : EventNo). IsWithin longer (moved_event m e)) moved_within report.earlier is.earlier);
  }

  pub luck_placed : (counted : CountedView) → ArePlaced counted lines → ArePlaced (moved_counted m counted) longer
  luck_placed counted placed =
      All-map (IsPlaced longer) (moved_report m) counted.luck
      (All-weaker (IsPlaced lines) (λ (r : ReportView). IsPlaced longer (moved_report m r)) moved_placed counted.luck placed)

-- with the best message
pub best_placed : (counted next : CountedView) (lines chart : List LineView) (added : Addition) (left : ℕ) → IsBest counted lines added left → chart ≡ with_message (message_of added.message) lines → next ≡ moved_counted (message_of added.message) counted → ArePlaced counted lines → ArePlaced next chart
best_placed counted next lines chart added left (name, pairs, new, are, best) is so placed =
    let m = message_of added.message in
    let moved = luck_placed m lines (with_message m lines) best.is.repair.mended.added counted placed in
    subst (λ (k : CountedView). ArePlaced k chart) (sym so) (subst (ArePlaced (moved_counted m counted)) (sym is) moved)
