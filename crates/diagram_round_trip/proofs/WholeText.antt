-- The content of all rows of an export, and its whole text.
use Rattle.std.proofs.Common.{◌≡◌, ℕ, suc, ◌+◌, ◌<◌, ◌||◌, inl, Bool, true, false, List, [], ◌∷◌, ◌++◌, Option, None, Some, length, map, refl, sym, ap, ◌∙◌, subst, append_assoc, arith}
use Rattle.std.specs.Prelude.{slice_get}
use Rattle.std.specs.List.{flat_map, list_any}
use Rattle.std.proofs.lemmas.Bool.{false≢true}
use Rattle.chart.specs.declared.instance.EventNo.{EventNo}
use Rattle.chart.specs.Charts.{Chart, LineView, chart_lines, BelongsTo, IsSendTo}
use Rattle.chart.specs.Reports.{ReportView}
use Rattle.closure.specs.Faults.{place_of}
use Rattle.diagram_export.specs.Exports.{ExportView, note_of}
use Rattle.diagram_export.specs.ExportText.{row_text, noted}
use Rattle.chart_layout.specs.Ends.{IsEnd}
use Rattle.chart_layout.specs.Layouts.{laid_out, row_on, number_on}
use Rattle.chart_layout.specs.declared.row.Row.{Row}
use Rattle.chart_layout.specs.declared.row.Row.TheVariants as rows
use Rattle.chart_layout.proofs.LaidOutLemmas.{number_on-own}
use Rattle.diagrams.specs.Messages.Each.{Each}
use Rattle.diagram_round_trip.specs.LevelCharts.{IsLevelChart}
use Rattle.diagram_round_trip.proofs.ChartFacts.{stays_lost, has_laid_out}
use Rattle.diagram_round_trip.proofs.DiagramLemmas.{IsExported}
use Rattle.diagram_round_trip.proofs.LineLemmas.{is_taken, StayLost, event_on, events_on}
use Rattle.diagram_round_trip.proofs.Lists.{each_append, Counts, counts_on, counts_front, counts_has, Has, has_left}
use Rattle.diagram_round_trip.proofs.RowSayings.{IsRaceNote, IsSent, event_at, IsRowOf, view, RowSays, map_both}
use Rattle.diagram_round_trip.proofs.ExportedRows.{ExportedRow, Sent, RaceNote, exported_text, all_text}

-- the joined texts of rows

texts_joined : (names : List (List ℕ)) (one other : List ExportedRow) (rest : List ℕ) → all_text names (one ++ other) rest ≡ all_text names one (all_text names other rest)
texts_joined names [] other rest = refl
texts_joined names (s ∷ one) other rest = ap (exported_text names s) (texts_joined names one other rest)

events_noted : (p : ℕ) (race_notes exported : List ExportedRow) → Each IsRaceNote race_notes → events_on p (race_notes ++ exported) ≡ events_on p exported
events_noted p [] exported all = refl
events_noted p (Sent is_lost from to name ∷ race_notes) exported all = absurd all.0
events_noted p (RaceNote at words ∷ race_notes) exported all = events_noted p race_notes exported all.1

taken_noted : (q p : ℕ) (race_notes exported : List ExportedRow) → Each IsRaceNote race_notes → list_any (is_taken q p) (race_notes ++ exported) ≡ list_any (is_taken q p) exported
taken_noted q p [] exported all = refl
taken_noted q p (Sent is_lost from to name ∷ race_notes) exported all = absurd all.0
taken_noted q p (RaceNote at words ∷ race_notes) exported all = taken_noted q p race_notes exported all.1

stay_noted : (race_notes exported : List ExportedRow) → Each IsRaceNote race_notes → StayLost exported → StayLost (race_notes ++ exported)
stay_noted [] exported all stay = stay
stay_noted (Sent is_lost from to name ∷ race_notes) exported all stay = absurd all.0
stay_noted (RaceNote at words ∷ race_notes) exported all stay = (tt, stay_noted race_notes exported all.1 stay)

module _ (names : List (List ℕ)) (lines : List LineView) (drawing : List Row) (reports : List ReportView) (ends : List (List (Option EventNo))) (notes : List (Option ℕ)) (starts : List ℕ)
    (is : IsLevelChart names lines drawing) where
  abbrev v : ExportView
  v = view names lines drawing reports ends notes starts

  abbrev c : Chart
  c = chart_lines lines

  abbrev Says : Row → Type 0
  Says row = RowSays names lines drawing reports ends notes starts row

  -- a message of a lane among these rows
  pub record HasMessage (some : List Row) (q p : ℕ) : Type 0 where
    pub row : ℕ
    pub send : EventNo
    pub receive : EventNo
    pub here : slice_get some row ≡ Some (rows.Message send receive)
    pub sender : send.instance ≡ q
    pub receiver : receive.instance ≡ p

  pub record RowsSay (some : List Row) : Type 0 where
    pub exported : List ExportedRow
    pub text : (rest : List ℕ) → flat_map (row_text v) some ++ rest ≡ all_text names exported rest
    pub valid : Each (IsExported (length lines)) exported
    pub events : (p : ℕ) → events_on p exported ≡ map (event_at c p) (laid_out some p)
    pub taken : (q p : ℕ) → list_any (is_taken q p) exported ≡ true → HasMessage some q p
    pub stay : StayLost exported
    pub none : length some ≡ 0 → exported ≡ []
    pub one : 0 < length some → (s : ExportedRow) × (more : List ExportedRow) × (exported ≡ s ∷ more)
    pub quiet : ((e : EventNo) → note_of v e ≡ None) → Each IsSent exported

  -- with one more row
  module _ (row : Row) (some : List Row) (k : ℕ → ℕ) (counts : (p : ℕ) → Counts (k p) (laid_out (row ∷ some) p))
      (alone : (e : EventNo) → row ≡ rows.Event e → IsEnd c (place_of e) None)
      (belong : (i : ℕ) (s r : EventNo) → slice_get some i ≡ Some (rows.Message s r) → BelongsTo c (place_of s) (place_of r))
      (first : Says row) (others : RowsSay some) where
    none_later : (e : EventNo) (q : ℕ) → row ≡ rows.Event e → IsSendTo c q (place_of e) → list_any (is_taken e.instance q) others.exported ≡ false
    none_later e q its sends_to = go (list_any (is_taken e.instance q) others.exported) refl
      where
        later : HasMessage some e.instance q → ⊥
        later m =
            let own : Has (row_on e.instance row) e.index = subst (λ r. Has (row_on e.instance r) e.index) (sym its) (subst (λ l. Has l e.index) (sym (number_on-own e.instance e refl)) (inl refl)) in
            let above = counts_has (k e.instance) (row_on e.instance row) e.index (counts_front (k e.instance) (row_on e.instance row) (laid_out some e.instance) (counts e.instance)) own in
            let sends_here : Has (number_on e.instance m.send ++ number_on e.instance m.receive) m.send.index = has_left (number_on e.instance m.send) (number_on e.instance m.receive) m.send.index (subst (λ l. Has l m.send.index) (sym (number_on-own e.instance m.send m.sender)) (inl refl)) in
            let its_line = has_laid_out names lines drawing is some m.row (rows.Message m.send m.receive) e.instance m.send.index m.here sends_here in
            let below = counts_has (k e.instance + length (row_on e.instance row)) (laid_out some e.instance) m.send.index (counts_on (k e.instance) (row_on e.instance row) (laid_out some e.instance) (counts e.instance)) its_line in
            let high = above.1 in
            let low = below.0 in
            stays_lost names lines drawing is e m.send m.receive q sends_to (alone e its) (belong m.row m.send m.receive m.here) m.sender m.receiver (omega arith)

        go : (its_any : Bool) → list_any (is_taken e.instance q) others.exported ≡ its_any → list_any (is_taken e.instance q) others.exported ≡ false
        go true any = absurd (later (others.taken e.instance q any))
        go false any = any

    taken_more : (q p : ℕ) → list_any (is_taken q p) (first.head ∷ (first.race_notes ++ others.exported)) ≡ true → HasMessage (row ∷ some) q p
    taken_more q p any = go (is_taken q p first.head) refl any
      where
        at_first : IsRowOf row q p → HasMessage (row ∷ some) q p
        at_first m = record { row = 0; send = m.send; receive = m.receive; here = ap Some m.is; sender = m.sender; receiver = m.receiver }

        further : HasMessage some q p → HasMessage (row ∷ some) q p
        further m = record { row = suc m.row; send = m.send; receive = m.receive; here = m.here; sender = m.sender; receiver = m.receiver }

        go : (now : Bool) → is_taken q p first.head ≡ now → (now || list_any (is_taken q p) (first.race_notes ++ others.exported)) ≡ true → HasMessage (row ∷ some) q p
        go true e h = at_first (first.taken q p e)
        go false e h = further (others.taken q p (sym (taken_noted q p first.race_notes others.exported first.only) ∙ h))

    pub says_more : RowsSay (row ∷ some)
    says_more = record {
      exported = first.head ∷ (first.race_notes ++ others.exported);
      text = λ rest.
          append_assoc (row_text v row) (flat_map (row_text v) some) rest ∙ ap (λ l. row_text v row ++ l) (others.text rest) ∙ first.text (all_text names others.exported rest)
          ∙ ap (exported_text names first.head) (sym (texts_joined names first.race_notes others.exported rest));
      valid = (first.valid.0, each_append (IsExported (length lines)) first.race_notes others.exported first.valid.1 others.valid);
      events = λ p.
          ap (λ l. event_on p first.head ++ l) (events_noted p first.race_notes others.exported first.only ∙ others.events p)
          ∙ ap (λ l. l ++ map (event_at c p) (laid_out some p)) (first.events p)
          ∙ sym (map_both (event_at c p) (row_on p row) (laid_out some p));
      taken = taken_more;
      stay = (
        first.stays (first.race_notes ++ others.exported) (λ e q its sends_to. taken_noted e.instance q first.race_notes others.exported first.only ∙ none_later e q its sends_to),
        stay_noted first.race_notes others.exported first.only others.stay,
      );
      none = λ e. absurd (omega arith);
      one = λ some_row. (first.head, first.race_notes ++ others.exported, refl);
      quiet = λ none. (first.message, subst (λ l. Each IsSent (l ++ others.exported)) (sym (first.quiet (none (noted row)))) (others.quiet none));
    }

  -- all rows
  pub rows_say : (some : List Row) (k : ℕ → ℕ) → ((p : ℕ) → Counts (k p) (laid_out some p)) → ((i : ℕ) (e : EventNo) → slice_get some i ≡ Some (rows.Event e) → IsEnd c (place_of e) None)
      → ((i : ℕ) (s r : EventNo) → slice_get some i ≡ Some (rows.Message s r) → BelongsTo c (place_of s) (place_of r)) → ((i : ℕ) (row : Row) → slice_get some i ≡ Some row → Says row) → RowsSay some
  rows_say [] k counts alone belong says = record {
    exported = [];
    text = λ rest. refl;
    valid = tt;
    events = λ p. refl;
    taken = λ q p any. absurd (false≢true any);
    stay = tt;
    none = λ e. refl;
    one = λ some_row. absurd (omega arith);
    quiet = λ none. tt;
  }
  rows_say (row ∷ some) k counts alone belong says =
      says_more row some k counts (λ e its. alone 0 e (ap Some its)) (λ i s r here. belong (suc i) s r here) (says 0 row refl)
      (rows_say some (λ p. k p + length (row_on p row)) (λ p. counts_on (k p) (row_on p row) (laid_out some p) (counts p)) (λ i e here. alone (suc i) e here) (λ i s r here. belong (suc i) s r here) (λ i r here. says (suc i) r here))
