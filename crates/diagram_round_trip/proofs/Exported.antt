-- The text of an export for mscgen whose messages are level, and the content of its rows for each line.
use Rattle.std.proofs.Common.{◌≡◌, ℕ, zero, suc, ◌+◌, ◌<◌, ◌≤◌, ◌==◌, ◌⊎◌, inl, inr, cond, List, [], ◌∷◌, ◌++◌, Option, None, Some, length, map, codes, ne_eqb, refl, sym, ap, ◌∙◌, subst, append_assoc, arith}
use Rattle.std.specs.Prelude.{slice_get, unwrap_or}
use Rattle.std.specs.List.{flat_map, range_with_len}
use Rattle.std.proofs.lemmas.Option.{none-some, same_Some, slice_get_within, get_or_from_slice_get}
use Rattle.std.proofs.lemmas.List.{length-append}
use Rattle.chart.specs.declared.event.Event.{Event}
use Rattle.chart.specs.declared.instance.EventNo.{EventNo}
use Rattle.chart.specs.Charts.{LineView, chart_lines}
use Rattle.chart.specs.Events.{ith, send_event}
use Rattle.chart.specs.Reports.{ReportView, AreReports, receives_of}
use Rattle.chart.proofs.ReportLists.{receives-within}
use Rattle.diagram_export.specs.Exports.{ExportView, report_at, note_of, in_row}
use Rattle.diagram_export.specs.ExportText.{start, end, comma_before, in_mscgen, participant, participants_end, row_text, export_text}
use Rattle.diagram_export.specs.Spelling.{quoted, space}
use Rattle.diagram_export.specs.Words.{spelled}
use Rattle.chart_layout.specs.Ends.{AreEnds}
use Rattle.chart_layout.specs.declared.row.Row.{Row}
use Rattle.chart_layout.specs.declared.row.Row.TheVariants as rows
use Rattle.texts.specs.Instances.{name_at}
use Rattle.diagrams.specs.Messages.Lines.{lines_from}
use Rattle.diagrams.specs.Messages.Regions.{line_of}
use Rattle.diagrams.specs.declared.messages.end.End.{End}
use Rattle.diagram_round_trip.specs.LevelCharts.{IsLevelChart}
use Rattle.diagram_round_trip.proofs.ChartFacts.{message, lost, counts}
use Rattle.diagram_round_trip.proofs.LineLemmas.{events_on}
use Rattle.diagram_round_trip.proofs.Lists.{get_seam, all_at}
use Rattle.diagram_round_trip.proofs.RowSayings.{event_at, view, RowSays, message_says, lost_says}
use Rattle.diagram_round_trip.proofs.ExportedRows.{ExportedRow, quote, all_text, rows_text as exported_rows, others_text, whole_text}
use Rattle.diagram_round_trip.proofs.WholeText.{RowsSay, rows_say}

-- Reports are at instances.

get_split : {A : Type 0} (xs ys : List A) (i : ℕ) (x : A) → slice_get (xs ++ ys) i ≡ Some x → (slice_get xs i ≡ Some x) ⊎ ((j : ℕ) × (slice_get ys j ≡ Some x))
get_split [] ys i x e = inr (i, e)
get_split (y ∷ xs) ys zero x e = inl e
get_split (y ∷ xs) ys (suc i) x e = get_split xs ys i x e

on_a_line : (lines : List LineView) (i : ℕ) (e : EventNo) → slice_get (flat_map receives_of lines) i ≡ Some e → (j : ℕ) × (l : LineView) × (slice_get lines j ≡ Some l) × (e.instance ≡ l.instance)
on_a_line [] i e here = absurd (none-some e here)
on_a_line (l ∷ lines) i e here = elim (get_split (receives_of l) (flat_map receives_of lines) i e here) [
  | inl own ↦ (0, l, refl, (all_at (λ (x : EventNo). (x.instance ≡ l.instance) × (1 ≤ x.index) × (x.index < 1 + length l.events)) (receives_of l) i e own (receives-within l.instance 1 l.events)).0)
  | inr other ↦ let w = on_a_line lines other.0 e other.1 in (suc w.0, w.1, w.2, w.3)
]

get_map : {A B : Type 0} (f : A → B) (xs : List A) (i : ℕ) (x : A) → slice_get xs i ≡ Some x → slice_get (map f xs) i ≡ Some (f x)
get_map f [] i x e = absurd (none-some x e)
get_map f (y ∷ xs) zero x e = ap (λ z. Some (f z)) (same_Some y x e)
get_map f (y ∷ xs) (suc i) x e = get_map f xs i x e

reported : (reports : List ReportView) (o : Option ℕ) (report : ReportView) → report_at reports o ≡ Some report → (place : ℕ) × (slice_get reports place ≡ Some report)
reported reports None report e = absurd (none-some report e)
reported reports (Some place) report e = (place, e)

-- Events of a line by their numbers.

reads_from : (line front rest : List Event) (a : ℕ) → line ≡ front ++ rest → a ≡ suc (length front) → map (λ i. unwrap_or (ith line i) (send_event 0 [])) (range_with_len a (length rest)) ≡ rest
reads_from line front [] a is at_a = refl
reads_from line front (m ∷ rest) a is at_a =
    let here : ith line a ≡ Some m = subst (λ k. ith line k ≡ Some m) (sym at_a) (ap (λ l. slice_get l (length front)) is ∙ get_seam front m rest) in
    let long : length (front ++ m ∷ []) ≡ length front + 1 = length-append front (m ∷ []) in
    rw here (ap (λ l. m ∷ l) (reads_from line (front ++ m ∷ []) rest (a + 1) (is ∙ sym (append_assoc front (m ∷ []) rest)) (omega arith)))

-- The text of the entities.

joined_name : (a b x c rest : List ℕ) → (a ++ (b ++ (x ++ c))) ++ rest ≡ a ++ (b ++ (x ++ (c ++ rest)))
joined_name a b x c rest = simp append_assoc

module _ (names : List (List ℕ)) (lines : List LineView) (drawing : List Row) (reports : List ReportView) (ends : List (List (Option EventNo))) (notes : List (Option ℕ)) (starts : List ℕ) where
  abbrev v : ExportView
  v = view names lines drawing reports ends notes starts

  first_declared : (l : LineView) (name rest : List ℕ) → l.instance ≡ 1 → name_at names 1 ≡ name → participant v l ++ rest ≡ codes "  " ++ quote name rest
  unfolding in_mscgen comma_before quoted spelled
  first_declared l name rest is named =
      ap (λ p. in_mscgen v p ++ rest) is ∙ joined_name (codes "  ") (codes "\"") (name_at names 1) (codes "\"") rest ∙ ap (λ n. codes "  " ++ quote n rest) named

  next_declared : (l : LineView) (j : ℕ) (name rest : List ℕ) → l.instance ≡ suc (suc j) → name_at names (suc (suc j)) ≡ name → participant v l ++ rest ≡ codes ",\n  " ++ quote name rest
  unfolding in_mscgen comma_before quoted spelled
  next_declared l j name rest is named =
      ap (λ p. in_mscgen v p ++ rest) is
      ∙ ap (λ b. (cond b (codes "  ") (codes ",\n  ") ++ (codes "\"" ++ (name_at names (suc (suc j)) ++ codes "\""))) ++ rest) (ne_eqb (suc (suc j)) 1 (λ e. omega arith))
      ∙ joined_name (codes ",\n  ") (codes "\"") (name_at names (suc (suc j))) (codes "\"") rest ∙ ap (λ n. codes ",\n  " ++ quote n rest) named

  others_declared : (ls : List LineView) (others : List (List ℕ)) (k : ℕ) (rest : List ℕ) → length ls ≡ length others → ((j : ℕ) (l : LineView) → slice_get ls j ≡ Some l → l.instance ≡ suc (suc (k + j)))
      → ((j : ℕ) (n : List ℕ) → slice_get others j ≡ Some n → name_at names (suc (suc (k + j))) ≡ n) → flat_map (participant v) ls ++ (codes ";\n" ++ rest) ≡ others_text others rest
  others_declared [] [] k rest same numbered named = refl
  others_declared [] (n ∷ others) k rest same numbered named = absurd (omega arith)
  others_declared (l ∷ ls) [] k rest same numbered named = absurd (omega arith)
  others_declared (l ∷ ls) (n ∷ others) k rest same numbered named =
      let level : k + 0 ≡ k = omega arith in
      append_assoc (participant v l) (flat_map (participant v) ls) (codes ";\n" ++ rest)
      ∙ ap (λ x. participant v l ++ x) (others_declared ls others (k + 1) rest (omega arith)
      (λ j m e. subst (λ x. m.instance ≡ suc (suc x)) (omega arith) (numbered (suc j) m e)) (λ j m e. subst (λ x. name_at names (suc (suc x)) ≡ m) (omega arith) (named (suc j) m e)))
      ∙ next_declared l k n (others_text others rest) (numbered 0 l refl ∙ ap (λ x. suc (suc x)) level) (ap (λ x. name_at names (suc (suc x))) (sym level) ∙ named 0 n refl)

  pub all_declared : (ls : List LineView) (first : List ℕ) (others : List (List ℕ)) (rest : List ℕ) → length ls ≡ suc (length others) → ((j : ℕ) (l : LineView) → slice_get ls j ≡ Some l → l.instance ≡ suc j)
      → ((j : ℕ) (n : List ℕ) → slice_get (first ∷ others) j ≡ Some n → name_at names (suc j) ≡ n) → flat_map (participant v) ls ++ (codes ";\n" ++ rest) ≡ codes "  " ++ quote first (others_text others rest)
  all_declared [] first others rest same numbered named = absurd (omega arith)
  all_declared (l ∷ ls) first others rest same numbered named =
      append_assoc (participant v l) (flat_map (participant v) ls) (codes ";\n" ++ rest)
      ∙ ap (λ x. participant v l ++ x) (others_declared ls others 0 rest (omega arith)
      (λ j m e. subst (λ x. m.instance ≡ suc x) (omega arith) (numbered (suc j) m e)) (λ j m e. subst (λ x. name_at names (suc x) ≡ m) (omega arith) (named (suc j) m e)))
      ∙ first_declared l first (others_text others rest) (numbered 0 l refl) (named 0 first refl)

named_here : (names : List (List ℕ)) (j : ℕ) (n : List ℕ) → slice_get names j ≡ Some n → name_at names (suc j) ≡ n
named_here names j n e = ap (λ o. unwrap_or o []) e

-- the lines of a chart, one after the other
pub lines_all : (ends : List End) (p n : ℕ) (ls : List LineView) → length ls ≡ n → ((i : ℕ) (l : LineView) → slice_get ls i ≡ Some l → line_of (p + i) ends ≡ l) → lines_from ends p n ≡ ls
unfolding lines_from
lines_all ends p zero [] same each = refl
lines_all ends p zero (l ∷ ls) same each = absurd (omega arith)
lines_all ends p (suc n) [] same each = absurd (omega arith)
lines_all ends p (suc n) (l ∷ ls) same each =
    let level : p + 0 ≡ p = omega arith in
    ap (λ x. line_of x ends ∷ lines_from ends (suc p) n) (sym level) ∙ ap (λ x. x ∷ lines_from ends (suc p) n) (each 0 l refl)
    ∙ ap (λ x. l ∷ x) (lines_all ends (suc p) n ls (omega arith) (λ i m e. ap (λ x. line_of x ends) (omega arith) ∙ each (suc i) m e))

module _ (first : List ℕ) (others : List (List ℕ)) (lines : List LineView) (drawing : List Row) (reports : List ReportView) (ends : List (List (Option EventNo))) (notes : List (Option ℕ)) (starts : List ℕ)
    (is : IsLevelChart (first ∷ others) lines drawing) (are_ends : AreEnds (chart_lines lines) ends) (are_reports : AreReports lines reports) where
  abbrev names : List (List ℕ)
  names = first ∷ others

  abbrev w : ExportView
  w = view names lines drawing reports ends notes starts

  at_instance : (e : EventNo) (report : ReportView) → note_of w e ≡ Some report → (at : ℕ) × (report.receive.instance ≡ suc at) × (at < length lines)
  at_instance e report is_there =
      let place = reported reports (in_row None notes _) report is_there in
      let receive = get_map (λ (r : ReportView). r.receive) reports place.0 report place.1 in
      let line = on_a_line lines place.0 report.receive (ap (λ l. slice_get l place.0) (sym are_reports.are.receives) ∙ receive) in
      (line.0, line.3 ∙ is.chart.numbered line.0 line.1 line.2, slice_get_within lines line.0 line.1 line.2)

  row_says : (i : ℕ) (row : Row) → slice_get drawing i ≡ Some row → RowSays names lines drawing reports ends notes starts row
  row_says i (rows.Message s r) here =
      message_says names lines drawing reports ends notes starts are_ends is s r (message names lines drawing is s r (is.laid_out.level i s r here)) (λ report e. at_instance r report e)
  row_says i (rows.Event e) here =
      lost_says names lines drawing reports ends notes starts are_ends is e (lost names lines drawing is i e here) (is.level i e here) (λ report f. at_instance e report f)

  pub all_say : RowsSay names lines drawing reports ends notes starts is drawing
  all_say =
      rows_say names lines drawing reports ends notes starts is drawing (λ p. 1) (counts names lines drawing is) is.level (λ i s r here. is.laid_out.level i s r here) row_says

  -- the events of each line
  pub events_all : (p : ℕ) → events_on p all_say.exported ≡ chart_lines lines p
  events_all p = all_say.events p ∙ ap (map (event_at (chart_lines lines) p)) (is.laid_out.order p) ∙ reads_from (chart_lines lines p) [] (chart_lines lines p) 1 refl refl

  rows_spelled : (some : List Row) (exported : List ExportedRow) (rest : List ℕ) → ((more : List ℕ) → flat_map (row_text w) some ++ more ≡ all_text names exported more) → (length some ≡ 0 → exported ≡ []) → (0 < length some → (s : ExportedRow) × (more : List ExportedRow) × (exported ≡ s ∷ more))
      → cond (length some == 0) space (flat_map (row_text w) some) ++ rest ≡ exported_rows names exported rest
  unfolding space
  rows_spelled [] exported rest text none one = ap (λ s. exported_rows names s rest) (sym (none refl))
  rows_spelled (row ∷ some) exported rest text none one =
      let more = one (omega arith) in
      ap (λ b. cond b space (flat_map (row_text w) (row ∷ some)) ++ rest) (ne_eqb (length (row ∷ some)) 0 (λ e. omega arith))
      ∙ text rest ∙ ap (λ s. all_text names s rest) more.2 ∙ ap (λ s. exported_rows names s rest) (sym more.2)

  -- the text
  pub whole_is : export_text w ≡ whole_text first others all_say.exported
  unfolding export_text start end participants_end
  whole_is =
      let many = is.many in
      ap (λ x. codes "msc {\n" ++ (flat_map (participant w) lines ++ (codes ";\n" ++ x))) (rows_spelled drawing all_say.exported (codes "}\n") all_say.text all_say.none all_say.one)
      ∙ ap (λ x. codes "msc {\n" ++ x)
      (all_declared names lines drawing reports ends notes starts lines first others (exported_rows names all_say.exported (codes "}\n")) (omega arith) (λ j l e. is.chart.numbered j l e) (λ j n e. named_here names j n e))

  -- the lines of the exported rows
  pub line_exported : (ends_of_all : List End) → ((p : ℕ) → line_of p ends_of_all ≡ record { instance = p; events = events_on p all_say.exported }) → lines_from ends_of_all 1 (length names) ≡ lines
  line_exported ends_of_all are =
      lines_all ends_of_all 1 (length names) lines (sym is.many)
      (λ i l e. ap (λ p. line_of p ends_of_all) (omega arith) ∙ are (suc i) ∙ ap (λ x. record { instance = suc i; events = x }) (events_all (suc i) ∙ ap (λ (x : LineView). x.events) (get_or_from_slice_get lines i l (record { instance = suc i; events = [] }) e))
      ∙ ap (λ p. record { instance = p; events = l.events }) (sym (is.chart.numbered i l e)))
