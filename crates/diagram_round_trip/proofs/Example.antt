-- A chart whose messages are level: one is received, and the other is lost.
use Rattle.std.proofs.Common.{◌≡◌, ◌≢◌, ℕ, zero, suc, ◌<◌, ◌≤◌, inl, inr, List, [], ◌∷◌, Option, None, Some, All, length, codes, get_or, ne_eqb, refl, sym, ap, ◌∙◌, subst, arith}
use Rattle.std.specs.Prelude.{slice_get}
use Rattle.std.specs.List.{range_with_len}
use Rattle.std.proofs.lemmas.Bool.{false≢true}
use Rattle.std.proofs.lemmas.Option.{none-some, same_Some}
use Rattle.chart.specs.declared.event.Event.{Event}
use Rattle.chart.specs.declared.event.Event.TheVariants.{Send, Receive}
use Rattle.chart.specs.declared.history.Occurrence.{Occurrence}
use Rattle.chart.specs.declared.history.Occurrence.TheVariants as occurrences
use Rattle.chart.specs.declared.instance.EventNo.{EventNo}
use Rattle.chart.specs.Charts.{Chart, Place, LineView, at, chart_event, chart_lines, BelongsTo, IsReceiveFrom, IsChart, IsLine, IsNumbered, IsPossible}
use Rattle.chart.specs.Events.{name_of, partner_of, region_of, is_receive_from}
use Rattle.chart.specs.Histories.{IsLegal, chart_of}
use Rattle.chart.specs.Keywords.{is_reserved, is_keyword, spelled}
use Rattle.chart.specs.Messages.{Content}
use Rattle.chart.specs.Names.{IsName, name_of as named}
use Rattle.chart.specs.NameSets.{AreNames}
use Rattle.chart.specs.Order.{IsReport}
use Rattle.chart.specs.Reports.{ReportView, AreReports, IsReportIn}
use Rattle.closure.specs.Faults.{place_of}
use Rattle.diagram_export.specs.Preparing.{notes_of, starts_from}
use Rattle.chart_layout.specs.Ends.{IsEnd, AreEnds, end_of}
use Rattle.chart_layout.specs.Layouts.{laid_out, IsDrawing}
use Rattle.chart_layout.specs.declared.row.Row.{Row}
use Rattle.chart_layout.specs.declared.row.Row.TheVariants as rows
use Rattle.diagram_round_trip.specs.Laws.{SomeLevelExport}
use Rattle.diagram_round_trip.specs.LevelCharts.{IsLevelChart}
use Rattle.diagram_round_trip.proofs.Lists.{each_get, all_of}
use Rattle.diagram_round_trip.proofs.RowSayings.{view}

abbrev names : List (List ℕ)
names = codes "a" ∷ codes "b" ∷ []

abbrev first_line : LineView
first_line = record { instance = 1; events = Send 2 (codes "m") ∷ Send 2 (codes "n") ∷ [] }

abbrev second_line : LineView
second_line = record { instance = 2; events = Receive 1 (codes "m") 0 ∷ [] }

abbrev lines : List LineView
lines = first_line ∷ second_line ∷ []

abbrev c : Chart
c = chart_lines lines

abbrev event : ℕ → ℕ → EventNo
event p i = record { instance = p; index = i }

abbrev drawing : List Row
drawing = rows.Message (event 1 1) (event 2 1) ∷ rows.Event (event 1 2) ∷ []

abbrev reports : List ReportView
reports = record { receive = event 2 1; earlier = [] } ∷ []

abbrev ends : List (List (Option EventNo))
ends = (Some (event 2 1) ∷ None ∷ []) ∷ (Some (event 1 1) ∷ []) ∷ []

abbrev content : List ℕ → Content
content name = record { name = name; body = [] }

abbrev history : List Occurrence
history = occurrences.Send 1 2 (content (codes "n")) ∷ occurrences.Receive 2 1 0 ∷ occurrences.Send 1 2 (content (codes "m")) ∷ []

-- the events of the chart

received : (p i q : ℕ) → IsReceiveFrom c q (at p i) → (p ≡ 2) × (i ≡ 1)
received zero zero q (m, e, t) = absurd (none-some m e)
received zero (suc i) q (m, e, t) = absurd (none-some m e)
received (suc zero) zero q (m, e, t) = absurd (none-some m e)
received (suc zero) (suc zero) q (m, e, t) = absurd (false≢true (ap (is_receive_from q) (same_Some (Send 2 (codes "m")) m e) ∙ t))
received (suc zero) (suc (suc zero)) q (m, e, t) = absurd (false≢true (ap (is_receive_from q) (same_Some (Send 2 (codes "n")) m e) ∙ t))
received (suc zero) (suc (suc (suc i))) q (m, e, t) = absurd (none-some m e)
received (suc (suc zero)) zero q (m, e, t) = absurd (none-some m e)
received (suc (suc zero)) (suc zero) q (m, e, t) = (refl, refl)
received (suc (suc zero)) (suc (suc i)) q (m, e, t) = absurd (none-some m e)
received (suc (suc (suc p))) zero q (m, e, t) = absurd (none-some m e)
received (suc (suc (suc p))) (suc i) q (m, e, t) = absurd (none-some m e)

belongs : BelongsTo c (at 1 1) (at 2 1)
belongs = record { sent = (Send 2 (codes "m"), refl, refl); received = (Receive 1 (codes "m") 0, refl, refl); turn = refl }

no_end : (e : Place) → chart_event c e ≡ None → IsEnd c e None
no_end e none = (
  λ x b. absurd (none-some b.received.0 (sym none ∙ b.received.1)),
  λ x b. absurd (none-some b.sent.0 (sym none ∙ b.sent.1)),
)

differ : (m n : ℕ) → m ≡ n → m ≡ 1 → n ≡ 2 → ⊥
differ m n same one two = omega arith

lost_end : IsEnd c (at 1 2) None
lost_end = (λ x b. differ 1 2 (received 1 2 x.instance b.received).0 refl refl, λ x b. not_taken x b (received x.instance x.index 1 b.received))
  where
    not_taken : (x : Place) → BelongsTo c (at 1 2) x → (x.instance ≡ 2) × (x.index ≡ 1) → ⊥
    not_taken x b w =
        let moved : BelongsTo c (at 1 2) (at 2 x.index) = subst (λ p. BelongsTo c (at 1 2) (at p x.index)) w.0 b in
        let there : BelongsTo c (at 1 2) (at 2 1) = subst (λ i. BelongsTo c (at 1 2) (at 2 i)) w.1 moved in
        differ 1 2 (sym there.turn) refl refl

are_ends : AreEnds c ends
are_ends e = go e.instance e.index
  where
    go : (p i : ℕ) → IsEnd c (at p i) (end_of ends (event p i))
    go zero zero = no_end (at 0 0) refl
    go zero (suc i) = no_end (at 0 (suc i)) refl
    go (suc zero) zero = no_end (at 1 0) refl
    go (suc zero) (suc zero) = inr belongs
    go (suc zero) (suc (suc zero)) = lost_end
    go (suc zero) (suc (suc (suc i))) = no_end (at 1 (suc (suc (suc i)))) refl
    go (suc (suc zero)) zero = no_end (at 2 0) refl
    go (suc (suc zero)) (suc zero) = inl belongs
    go (suc (suc zero)) (suc (suc i)) = no_end (at 2 (suc (suc i))) refl
    go (suc (suc (suc p))) zero = no_end (at (suc (suc (suc p))) 0) refl
    go (suc (suc (suc p))) (suc i) = no_end (at (suc (suc (suc p))) (suc i)) refl

-- the chart

is_chart : IsChart lines
is_chart = record {
  several = omega arith;
  limit = omega arith;
  numbered = numbered;
  partners = all_of (λ l. All (λ m. partner_of m ≤ 2) l.events) lines (
    all_of (λ m. partner_of m ≤ 2) first_line.events (omega arith, (omega arith, tt)),
    (all_of (λ m. partner_of m ≤ 2) second_line.events (omega arith, tt), tt),
  );
  each = all_of IsLine lines (
    record {
      short = omega arith;
      partners = λ i m e. each_get (λ x. partner_of x ≢ 1) first_line.events i m e ((λ f. omega arith), ((λ f. omega arith), tt));
      regions = λ i m e. inl (each_get (λ x. region_of x ≡ 0) first_line.events i m e (refl, (refl, tt)));
    },
    (
      record {
        short = omega arith;
        partners = λ i m e. each_get (λ x. partner_of x ≢ 2) second_line.events i m e ((λ f. omega arith), tt);
        regions = λ i m e. inl (each_get (λ x. region_of x ≡ 0) second_line.events i m e (refl, tt));
      },
      tt,
    ),
  );
}
  where
    numbered : IsNumbered lines
    numbered zero l e = ap (λ (x : LineView). x.instance) (sym (same_Some first_line l e))
    numbered (suc zero) l e = ap (λ (x : LineView). x.instance) (sym (same_Some second_line l e))
    numbered (suc (suc i)) l e = absurd (none-some l e)

possible : IsPossible 2 c
possible = (history, 1, legal, charts)
  where
    legal : IsLegal 2 1 history
    legal = (
      ((omega arith, omega arith, omega arith, omega arith, (λ e. omega arith)), refl, omega arith, omega arith),
      (
        ((omega arith, omega arith, omega arith, omega arith, (λ e. omega arith)), omega arith, omega arith, inl refl),
        (((omega arith, omega arith, omega arith, omega arith, (λ e. omega arith)), refl, omega arith, omega arith), tt),
      ),
    )

    charts : (p : ℕ) → chart_of history p ≡ c p
    charts zero = refl
    charts (suc zero) = refl
    charts (suc (suc zero)) = refl
    charts (suc (suc (suc p))) = rw (ne_eqb 1 (suc (suc (suc p))) (λ e. omega arith), ne_eqb 2 (suc (suc (suc p))) (λ e. omega arith)) refl

distinct : AreNames names
distinct = record { limit = omega arith; distinct = go }
  where
    go : (i j : ℕ) (w : List ℕ) → slice_get names i ≡ Some w → slice_get names j ≡ Some w → i ≡ j
    go zero zero w e f = refl
    go zero (suc zero) w e f = absurd (omega (arith, ap (λ l. get_or l 0 0) (same_Some (codes "a") w e ∙ sym (same_Some (codes "b") w f))))
    go zero (suc (suc j)) w e f = absurd (none-some w f)
    go (suc zero) zero w e f = absurd (omega (arith, ap (λ l. get_or l 0 0) (same_Some (codes "b") w e ∙ sym (same_Some (codes "a") w f))))
    go (suc zero) (suc zero) w e f = refl
    go (suc zero) (suc (suc j)) w e f = absurd (none-some w f)
    go (suc (suc i)) j w e f = absurd (none-some w e)

order : (p : ℕ) → laid_out drawing p ≡ range_with_len 1 (length (c p))
order zero = refl
order (suc zero) = refl
order (suc (suc zero)) = refl
order (suc (suc (suc p))) = rw (ne_eqb 1 (suc (suc (suc p))) (λ e. omega arith), ne_eqb 2 (suc (suc (suc p))) (λ e. omega arith)) refl

alone : (i : ℕ) (e : EventNo) → slice_get drawing i ≡ Some (rows.Event e) → (i ≡ 1) × (e ≡ event 1 2)
alone zero e f = absurd (cc f)
alone (suc zero) e f = (refl, cc f)
alone (suc (suc i)) e f = absurd (none-some (rows.Event e) f)

level : (i : ℕ) (s r : EventNo) → slice_get drawing i ≡ Some (rows.Message s r) → BelongsTo c (place_of s) (place_of r)
level zero s r f =
    let sender : event 1 1 ≡ s = cc f in
    let receiver : event 2 1 ≡ r = cc f in
    subst (λ x. BelongsTo c (place_of x) (place_of r)) sender (subst (λ x. BelongsTo c (at 1 1) (place_of x)) receiver belongs)
level (suc zero) s r f = absurd (cc f)
level (suc (suc i)) s r f = absurd (none-some (rows.Message s r) f)

drawing_is : IsDrawing lines drawing
drawing_is = record {
  order = order;
  level = level;
  lower = λ i e s f b.
      let its = subst (λ x. BelongsTo c s (place_of x)) (alone i e f).1 b in
      let w = received 1 2 s.instance its.received in
      absurd (omega (arith, w.0));
}

level_chart : IsLevelChart names lines drawing
unfolding named is_reserved is_keyword spelled
level_chart = record {
  chart = is_chart;
  possible = possible;
  many = refl;
  distinct = distinct;
  named = all_of IsName names (refl, (refl, tt));
  messages = all_of (λ l. All (λ m. IsName (name_of m)) l.events) lines (
    all_of (λ m. IsName (name_of m)) first_line.events (refl, (refl, tt)),
    (all_of (λ m. IsName (name_of m)) second_line.events (refl, tt), tt),
  );
  regions = all_of (λ l. All (λ m. region_of m ≡ 0) l.events) lines (
    all_of (λ m. region_of m ≡ 0) first_line.events (refl, (refl, tt)),
    (all_of (λ m. region_of m ≡ 0) second_line.events (refl, tt), tt),
  );
  laid_out = drawing_is;
  level = λ i e f. subst (λ x. IsEnd c (place_of x) None) (sym (alone i e f).1) lost_end;
}

report : IsReport c (at 2 1) []
report = record {
  rising = λ i j d less within. absurd (omega arith);
  exact = λ j. (λ has. absurd (let l = has.1 in omega arith), λ its. absurd (none_before j its.0 its.1.0 its.1.1));
}
  where
    none_before : (j : ℕ) → j < 1 → (m : Event) → chart_event c (at 2 j) ≡ Some m → ⊥
    none_before zero l m e = none-some m e
    none_before (suc j) l m e = omega arith

are_reports : AreReports lines reports
are_reports = record {
  are = record {
    receives = refl;
    each = all_of (IsReportIn c) reports (record { exact = report; line = all_of _ [] tt }, tt);
  };
}

-- there is such an export
pub some_level_export : SomeLevelExport
some_level_export = (
  names,
  lines,
  drawing,
  reports,
  ends,
  view names lines drawing reports ends (notes_of drawing reports) (starts_from 0 (notes_of drawing reports)),
  record {
    level = level_chart;
    reports_are = are_reports;
    ends_are = are_ends;
    export = record { tool_is = refl; names_are = refl; lines_are = refl; rows_are = refl; reports_are = refl; ends_are = refl; notes_are = refl; starts_are = refl };
  },
  (event 1 1, event 2 1, refl),
  (event 1 2, refl),
)
