-- The text of an export for mscgen, imported.
use Rattle.std.proofs.Common.{◌≡◌, inl, inr, ℕ, zero, suc, ◌+◌, ◌==◌, ◌||◌, nat_lt, Bool, true, false, cond, List, [], ◌∷◌, Option, None, Some, Ok, length, replicate, refl, sym, ap, ◌∙◌, subst, arith}
use Rattle.std.specs.Prelude.{slice_get, unwrap_or}
use Rattle.std.proofs.lemmas.Bool.{false≢true}
use Rattle.std.proofs.lemmas.Bool.Decides.{nat_tests}
use Rattle.chart.specs.declared.instance.EventNo.{EventNo}
use Rattle.chart.specs.Charts.{LineView, chart_lines}
use Rattle.chart.specs.Reports.{ReportView, AreReports, has_races}
use Rattle.closure.specs.Faults.{place_of}
use Rattle.diagrams.specs.Building.{DiagramChartView, ◌>>=◌}
use Rattle.diagram_import.specs.Importing.{behind_mark, first_place, first_overtaking, strictly_at, strictly, imported_from, imported}
use Rattle.diagram_import.specs.Readers.{tool_in, diagram_in, refused_as, of_mscgen}
use Rattle.diagram_import.specs.Refusals.{NoChart}
use Rattle.diagram_import.specs.Skipping.{blanked_from, line_behind}
use Rattle.diagram_export.specs.Exports.{ExportView, note_of, report_at, in_row}
use Rattle.diagram_export.specs.ExportText.{export_text}
use Rattle.diagram_export.specs.Preparing.{IsExportOf, notes_of, notes_from, starts_from}
use Rattle.diagram_join.specs.Building.{JoinedChartView, alone, built_joined}
use Rattle.chart_layout.specs.Ends.{AreEnds}
use Rattle.chart_layout.specs.Layouts.{row_of}
use Rattle.chart_layout.specs.declared.row.Row.{Row}
use Rattle.diagrams.specs.Messages.Each.{Each}
use Rattle.diagram_tool.specs.Detection.Gaps.{gap_length, gaps_length}
use Rattle.diagram_tool.specs.Detection.Detection.{begins_word, tool_of, detected_tool}
use Rattle.diagram_tool.specs.declared.Tool.{Tool}
use Rattle.diagram_tool.specs.declared.Tool.TheVariants.{Mscgen}
use Rattle.diagram_round_trip.specs.Laws.{all_lines, IsDetectedOr, IsChartOf, MscgenRoundTrip}
use Rattle.diagram_round_trip.specs.LevelCharts.{IsLevelChart}
use Rattle.diagram_round_trip.proofs.Exported.{whole_is}
use Rattle.diagram_round_trip.proofs.RoundTrip.{says, reads, diagram, out, diagram_read, built_chart, names_out, lines_out, renamed_out, notes_out, left_out, none_noted}
use Rattle.diagram_round_trip.proofs.Lists.{all_of}
use Rattle.diagram_round_trip.proofs.RowSayings.{view, IsSent}
use Rattle.diagram_round_trip.proofs.Renames.{IsNote}
use Rattle.diagram_round_trip.proofs.ExportedRows.{whole_text}

-- A text whose lines are all read.

unskipped : (line : ℕ) (text : List ℕ) → blanked_from [] line text ≡ text
unfolding blanked_from
unskipped line [] = refl
unskipped line (b ∷ text) = go (b == 10) (unskipped (line_behind line b) text)
  where
    go : (feed : Bool) → blanked_from [] (line_behind line b) text ≡ text → cond feed b b ∷ blanked_from [] (line_behind line b) text ≡ b ∷ text
    go true more = ap (λ l. b ∷ l) more
    go false more = ap (λ l. b ∷ l) more

-- Without races of receives there are no notes.

neither : (a b : Bool) → (a || b) ≡ false → (a ≡ false) × (b ≡ false)
neither true b h = absurd (false≢true (sym h))
neither false b h = (refl, h)

no_notes : (rows : List Row) (place : ℕ) (notes : List (Option ℕ)) (reports : List ReportView) → has_races reports ≡ false → notes_from rows place notes reports ≡ notes
no_notes rows place notes [] none = refl
no_notes rows place notes (report ∷ reports) none =
    let both = neither (nat_lt 0 (length report.earlier)) (has_races reports) none in
    let empty : (length report.earlier == 0) ≡ true = grind (arith, nat_tests, both.0) in
    rw empty (no_notes rows (place + 1) notes reports both.1)

abbrev none_in : ℕ → List (Option ℕ)
none_in n = replicate n None

nothing_at : (n k : ℕ) → unwrap_or (slice_get (none_in n) k) None ≡ None
nothing_at zero k = refl
nothing_at (suc n) zero = refl
nothing_at (suc n) (suc k) = nothing_at n k

nothing_in : (n : ℕ) (row : Option ℕ) → in_row None (none_in n) row ≡ None
nothing_in n None = refl
nothing_in n (Some k) = nothing_at n k

module _ (first : List ℕ) (others : List (List ℕ)) (lines : List LineView) (drawing : List Row) (reports : List ReportView) (ends : List (List (Option EventNo)))
    (is : IsLevelChart (first ∷ others) lines drawing) (are_ends : AreEnds (chart_lines lines) ends) (are_reports : AreReports lines reports) where
  abbrev names : List (List ℕ)
  names = first ∷ others

  abbrev notes : List (Option ℕ)
  notes = notes_of drawing reports

  abbrev starts : List ℕ
  starts = starts_from 0 notes

  abbrev w : ExportView
  w = view names lines drawing reports ends notes starts

  abbrev text : List ℕ
  text = export_text w

  abbrev chart : DiagramChartView
  chart = out first others lines drawing reports ends notes starts is are_ends are_reports

  abbrev spelled : List ℕ
  spelled = whole_text first others (says first others lines drawing reports ends notes starts is are_ends are_reports).exported

  text_is : text ≡ spelled
  text_is = whole_is first others lines drawing reports ends notes starts is are_ends are_reports

  unmarked : behind_mark text ≡ text
  unfolding behind_mark
  unmarked = subst (λ t. behind_mark t ≡ t) (sym text_is) refl

  detects : detected_tool text ≡ Ok Mscgen
  unfolding detected_tool gaps_length gap_length tool_of begins_word
  detects = subst (λ t. detected_tool t ≡ Ok Mscgen) (sym text_is) refl

  tool_is : (tool : Option Tool) → IsDetectedOr Mscgen tool → tool_in tool text ≡ Ok Mscgen
  unfolding tool_in
  tool_is tool (inl named) = ap (λ t. tool_in t text) named
  tool_is tool (inr none) = ap (λ t. tool_in t text) none ∙ ap (refused_as _) detects

  diagram_is : diagram_in Mscgen text ≡ Ok (diagram first others lines drawing reports ends notes starts is are_ends are_reports)
  unfolding diagram_in
  diagram_is = ap (refused_as (of_mscgen text)) (diagram_read first others lines drawing reports ends notes starts is are_ends are_reports)

  no_note : has_races reports ≡ false → (e : EventNo) → note_of w e ≡ None
  no_note none e =
      ap (λ n. report_at reports (in_row None n (row_of drawing (place_of e)))) (no_notes drawing 0 (none_in (length drawing)) reports none)
      ∙ ap (report_at reports) (nothing_in (length drawing) (row_of drawing (place_of e)))

  nothing_left : has_races reports ≡ false → chart.left_out ≡ []
  nothing_left none =
      left_out first others lines drawing reports ends notes starts is are_ends are_reports
      ∙ none_noted (reads first others lines drawing reports ends notes starts is are_ends are_reports).placed []
      (subst (Each IsSent) (sym (reads first others lines drawing reports ends notes starts is are_ends are_reports).same) ((says first others lines drawing reports ends notes starts is are_ends are_reports).quiet (no_note none)))

  abbrev joined : JoinedChartView
  joined = record { built = chart; overtaking = [] }

  strict : (is_strict : Bool) → (is_strict ≡ true → has_races reports ≡ false) → strictly is_strict text joined ≡ Ok joined
  unfolding strictly first_place first_overtaking
  strict true none = ap (λ l. strictly_at text joined (first_overtaking (first_place None l) [])) (nothing_left (none refl))
  strict false none = refl

  pub comes_back : (tool : Option Tool) → IsDetectedOr Mscgen tool → (is_strict : Bool) → (is_strict ≡ true → has_races reports ≡ false) → IsChartOf names lines (imported tool text (all_lines is_strict))
  unfolding imported imported_from built_joined
  comes_back tool detected is_strict none = record {
    built = chart;
    is =
        ap (λ t. imported_from tool [] is_strict (behind_mark t)) (unskipped 1 text)
        ∙ ap (imported_from tool [] is_strict) unmarked
        ∙ ap (λ own. own >>= (λ t. diagram_in t text >>= (λ d. refused_as NoChart (built_joined d []) >>= (λ c. strictly is_strict text c)))) (tool_is tool detected)
        ∙ ap (λ read. read >>= (λ d. refused_as NoChart (built_joined d []) >>= (λ c. strictly is_strict text c))) diagram_is
        ∙ ap (λ d. refused_as NoChart (alone d) >>= (λ c. strictly is_strict text c)) (built_chart first others lines drawing reports ends notes starts is are_ends are_reports)
        ∙ strict is_strict none;
    same_names = names_out first others lines drawing reports ends notes starts is are_ends are_reports;
    same_lines = lines_out first others lines drawing reports ends notes starts is are_ends are_reports;
    none_renamed = renamed_out first others lines drawing reports ends notes starts is are_ends are_reports;
    notes = all_of IsNote chart.left_out (notes_out first others lines drawing reports ends notes starts is are_ends are_reports);
  }

-- an export is its view
view_is : (names : List (List ℕ)) (lines : List LineView) (rows : List Row) (reports : List ReportView) (ends : List (List (Option EventNo))) (v : ExportView)
    → IsExportOf Mscgen names lines rows reports ends v → v ≡ view names lines rows reports ends (notes_of rows reports) (starts_from 0 (notes_of rows reports))
view_is its_names lines rows reports ends v e =
    ap (λ x. record v { tool = x }) e.tool_is
    ∙ ap (λ x. record { tool = Mscgen; names = x; lines = v.lines; reports = v.reports; rows = v.rows; ends = v.ends; notes = v.notes; starts = v.starts }) e.names_are
    ∙ ap (λ x. record { tool = Mscgen; names = its_names; lines = x; reports = v.reports; rows = v.rows; ends = v.ends; notes = v.notes; starts = v.starts }) e.lines_are
    ∙ ap (λ x. record { tool = Mscgen; names = its_names; lines = lines; reports = v.reports; rows = x; ends = v.ends; notes = v.notes; starts = v.starts }) e.rows_are
    ∙ ap (λ x. record { tool = Mscgen; names = its_names; lines = lines; reports = x; rows = rows; ends = v.ends; notes = v.notes; starts = v.starts }) e.reports_are
    ∙ ap (λ x. record { tool = Mscgen; names = its_names; lines = lines; reports = reports; rows = rows; ends = x; notes = v.notes; starts = v.starts }) e.ends_are
    ∙ ap (λ x. record { tool = Mscgen; names = its_names; lines = lines; reports = reports; rows = rows; ends = ends; notes = x; starts = v.starts }) e.notes_are
    ∙ ap (λ x. record { tool = Mscgen; names = its_names; lines = lines; reports = reports; rows = rows; ends = ends; notes = notes_of rows reports; starts = x }) e.starts_are

-- the law
pub mscgen_round_trip : MscgenRoundTrip
mscgen_round_trip [] lines rows reports ends v e tool detected is_strict none =
    let several = e.level.chart.several in
    let many = e.level.many in
    absurd (omega arith)
mscgen_round_trip (first ∷ others) lines rows reports ends v e tool detected is_strict none =
    subst (λ x. IsChartOf (first ∷ others) lines (imported tool (export_text x) (all_lines is_strict))) (sym (view_is (first ∷ others) lines rows reports ends v e.export))
    (comes_back first others lines rows reports ends e.level e.ends_are e.reports_are tool detected is_strict none)
