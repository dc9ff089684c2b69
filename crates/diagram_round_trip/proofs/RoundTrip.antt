-- The chart is read from an export for mscgen whose messages are level.
use Rattle.std.proofs.Common.{◌≡◌, ℕ, zero, suc, ◌+◌, ◌≤◌, ◌||◌, inl, inr, false, cond, List, [], ◌∷◌, Option, None, Ok, Err, length, map, nat_lt, refl, sym, ap, ◌∙◌, subst, arith}
use Rattle.std.proofs.lemmas.Bool.Decides.{nat_tests}
use Rattle.std.proofs.lemmas.Option.{slice_get_cases, get_or_from_slice_get}
use Rattle.std.proofs.lemmas.List.{get_or_past}
use Rattle.chart.specs.declared.instance.EventNo.{EventNo}
use Rattle.chart.specs.declared.instance.TheConstants.{MAX_INSTANCES}
use Rattle.chart.specs.declared.line.TheConstants.{MAX_EVENTS}
use Rattle.chart.specs.Charts.{LineView, IsLine, chart_lines}
use Rattle.chart.specs.Names.{IsName}
use Rattle.chart.specs.Reports.{ReportView, AreReports}
use Rattle.diagrams.specs.Diagrams.{DiagramView}
use Rattle.diagrams.specs.Building.{DiagramChartView, ◌>>=◌, staying, chart_built, built_by, built, possible, within, built_named}
use Rattle.diagrams.specs.Collecting.{CollectedView}
use Rattle.diagrams.specs.Full.{load, full_from}
use Rattle.diagrams.specs.Losing.{kept, with_lost}
use Rattle.diagrams.specs.Naming.{names_from}
use Rattle.diagrams.specs.declared.built.BuildError.TheVariants.{Instances}
use Rattle.diagrams.specs.declared.left_out.LeftOut.{LeftOut}
use Rattle.diagrams.specs.declared.message.Message.{Message}
use Rattle.diagram_export.specs.ExportText.{export_text}
use Rattle.diagram_labels.specs.Labels.{none}
use Rattle.chart_layout.specs.Ends.{AreEnds}
use Rattle.chart_layout.specs.declared.row.Row.{Row}
use Rattle.diagrams.specs.Messages.Lines.{lines_from}
use Rattle.diagrams.specs.Messages.Turns.{all_ends}
use Rattle.diagrams.specs.Messages.Each.{Each}
use Rattle.diagram_mscgen.specs.Reading.Reading.{diagram_by, diagram_of}
use Rattle.diagram_mscgen.specs.Grammar.Faults.{located, msc_of}
use Rattle.texts.specs.Bytes.Places.{start, behind}
use Rattle.diagram_mscgen.specs.Grammar.Tokens.{tokens_of, mark_length}
use Rattle.diagram_round_trip.specs.LevelCharts.{IsLevelChart}
use Rattle.diagram_round_trip.proofs.DiagramLemmas.{IsExported, participants_of, items_from, diagram_built}
use Rattle.diagram_round_trip.proofs.DiagramChartLemmas.{names_kept, messages_from, notes_in, all_collected}
use Rattle.diagram_round_trip.proofs.Exported.{all_say, events_all, whole_is, line_exported}
use Rattle.diagram_round_trip.proofs.LineLemmas.{StayLost, exported_of, events_on, no_faults, all_kept, none_lost, none_full, named_in, names_itself, line_is}
use Rattle.diagram_round_trip.proofs.Lists.{each_weaker, each_of, all_at}
use Rattle.diagram_round_trip.proofs.MscLemmas.{Placed, Entity, ReadsWhole, reads_whole}
use Rattle.diagram_round_trip.proofs.PlainBytes.{ArePlain}
use Rattle.diagram_round_trip.proofs.RowSayings.{IsSent, view, plain_name}
use Rattle.diagram_round_trip.proofs.ExportedRows.{ExportedRow, Sent, RaceNote, IsPlain, whole_text, whole_kinds, whole_tokens}
use Rattle.diagram_round_trip.proofs.TokenLemmas.{AreKinds}
use Rattle.diagram_round_trip.proofs.Renames.{IsNote, none_renamed, only_notes}
use Rattle.diagram_round_trip.proofs.WholeText.{RowsSay}

each_map : {A B : Type 0} (P : B → Type 0) (f : A → B) (xs : List A) → Each P (map f xs) → Each (λ x. P (f x)) xs
each_map P f [] all = tt
each_map P f (x ∷ xs) all = (all.0, each_map P f xs all.1)

length_map : {A B : Type 0} (f : A → B) (xs : List A) → length (map f xs) ≡ length xs
length_map f [] = refl
length_map f (x ∷ xs) = ap suc (length_map f xs)

exported_plain : (n : ℕ) (s : ExportedRow) → IsExported n s → IsPlain s
exported_plain n (Sent is_lost from to name) is = is.4
exported_plain n (RaceNote at words) is = is.1

-- if the rows have only messages, nothing is skipped
pub none_noted : (placed : List Placed) (left_out : List LeftOut) → Each IsSent (exported_of placed) → notes_in placed left_out ≡ left_out
none_noted [] left_out all = refl
none_noted ((Sent is_lost from to name, place) ∷ placed) left_out all = none_noted placed left_out all.1
none_noted ((RaceNote at words, place) ∷ placed) left_out all = absurd all.0

module _ (first : List ℕ) (others : List (List ℕ)) (lines : List LineView) (drawing : List Row) (reports : List ReportView) (ends : List (List (Option EventNo))) (notes : List (Option ℕ)) (starts : List ℕ)
    (is : IsLevelChart (first ∷ others) lines drawing) (are_ends : AreEnds (chart_lines lines) ends) (are_reports : AreReports lines reports) where
  abbrev names : List (List ℕ)
  names = first ∷ others

  abbrev pub says : RowsSay names lines drawing reports ends notes starts is drawing
  says = all_say first others lines drawing reports ends notes starts is are_ends are_reports

  abbrev text : List ℕ
  text = whole_text first others says.exported

  plain_names : Each ArePlain names
  plain_names = each_of ArePlain names (λ i n e. plain_name n (all_at IsName names i n e is.named))

  plain_exported : Each IsPlain says.exported
  plain_exported = each_weaker (IsExported (length lines)) IsPlain (exported_plain (length lines)) says.exported says.valid

  are_kinds : AreKinds (whole_kinds first others says.exported) (tokens_of text)
  unfolding tokens_of mark_length
  are_kinds = (whole_tokens first others says.exported plain_names plain_exported).tokens (length text) (behind start []) (omega arith)

  pub reads : ReadsWhole names says.exported (tokens_of text)
  reads = reads_whole first others says.exported (tokens_of text) are_kinds

  valid : Each (λ (t : Placed). IsExported (length names) t.0) reads.placed
  valid = each_map (IsExported (length names)) (λ (t : Placed). t.0) reads.placed (subst (Each (IsExported (length names))) (sym reads.same) (subst (λ n. Each (IsExported n) says.exported) (sym is.many) says.valid))

  abbrev pub diagram : DiagramView
  diagram = record { participants = participants_of reads.entities; items = items_from 0 reads.placed; left_out = [] }

  several : 2 ≤ length names
  several = let two = is.chart.several in let many = is.many in omega arith

  diagram_is : diagram_of text ≡ Ok diagram
  unfolding diagram_of msc_of
  diagram_is = ap (λ r. diagram_by (located text r)) reads.read ∙ diagram_built names reads.place reads.entities reads.placed is.distinct several reads.named valid

  -- the chart of the diagram
  abbrev pub messages : List Message
  messages = messages_from 0 reads.placed

  abbrev pub left : List LeftOut
  left = notes_in reads.placed []

  named_each : Each (λ (e : Entity). IsName e.name × ArePlain e.name) reads.entities
  named_each =
      each_map (λ n. IsName n × ArePlain n) (λ (e : Entity). e.name) reads.entities
      (subst (Each (λ n. IsName n × ArePlain n)) (sym reads.named) (each_of (λ n. IsName n × ArePlain n) names (λ i n e. let its = all_at IsName names i n e is.named in (its, plain_name n its))))

  has_chart : (nat_lt (length (participants_of reads.entities)) 2 || nat_lt MAX_INSTANCES (length (participants_of reads.entities))) ≡ false
  has_chart =
      let few = is.distinct.limit in
      let many = several in
      let long : length (participants_of reads.entities) ≡ length names = length_map _ reads.entities ∙ sym (length_map (λ (e : Entity). e.name) reads.entities) ∙ ap length reads.named in
      let low : nat_lt (length (participants_of reads.entities)) 2 ≡ false = grind (arith, nat_tests) in
      let high : nat_lt MAX_INSTANCES (length (participants_of reads.entities)) ≡ false = grind (arith, nat_tests) in
      rw (low, high) refl

  exported_same : exported_of reads.placed ≡ says.exported
  exported_same = reads.same

  short : (p : ℕ) → length (chart_lines lines p) ≤ MAX_EVENTS
  short zero = omega arith
  short (suc p) = elim (slice_get_cases lines p).1 [
    | inl w ↦ subst (λ (l : LineView). length l.events ≤ MAX_EVENTS) (sym (get_or_from_slice_get lines p w.0 (record { instance = suc p; events = [] }) w.2)) (all_at IsLine lines p w.0 w.2 is.chart.each).short
    | inr w ↦ subst (λ (l : LineView). length l.events ≤ MAX_EVENTS) (sym (get_or_past lines p (record { instance = suc p; events = [] }) w.0)) (omega arith)
  ]

  room : (p : ℕ) → load [] p + length (events_on p (exported_of reads.placed)) ≤ MAX_EVENTS
  unfolding load
  room p =
      let fits = short p in
      let same : length (events_on p (exported_of reads.placed)) ≡ length (chart_lines lines p) = ap (λ s. length (events_on p s)) exported_same ∙ ap length (events_all first others lines drawing reports ends notes starts is are_ends are_reports p) in
      omega arith

  stay : StayLost (exported_of reads.placed)
  stay = subst StayLost (sym exported_same) says.stay

  staying_is : staying None messages left ≡ Ok (messages, left)
  unfolding staying
  staying_is =
      let all = all_kept 0 reads.placed stay in
      let none_of = none_lost 0 reads.placed left stay in
      ap (λ f. possible f messages >>= (λ same. within (full_from [] (kept messages)) (kept messages, with_lost left messages))) (no_faults 0 [] reads.placed tt)
      ∙ ap (λ l. within (full_from [] l) (l, with_lost left messages)) all
      ∙ ap (λ l. within (full_from [] messages) (messages, l)) none_of
      ∙ ap (λ f. within f (messages, left)) (none_full 0 [] reads.placed room)

  abbrev pub out : DiagramChartView
  out = chart_built (participants_of reads.entities) (items_from 0 reads.placed) names (messages, left)

  built_is : built diagram ≡ Ok out
  unfolding built built_by
  built_is =
      ap (λ b. cond b (Err Instances) (built_named diagram (names_from [] (participants_of reads.entities)))) has_chart
      ∙ ap (built_named diagram) (names_kept names [] reads.entities is.distinct (sym reads.named) named_each)
      ∙ ap (λ (c : CollectedView). staying c.fault c.messages c.left_out >>= (λ stay. Ok (chart_built (participants_of reads.entities) (items_from 0 reads.placed) names stay))) (all_collected names reads.placed valid)
      ∙ ap (λ r. r >>= (λ stay. Ok (chart_built (participants_of reads.entities) (items_from 0 reads.placed) names stay))) staying_is

  pub names_out : out.names ≡ names
  unfolding chart_built
  names_out = refl

  pub left_out : out.left_out ≡ left
  unfolding chart_built
  left_out = refl

  pub lines_out : out.lines ≡ lines
  unfolding chart_built
  lines_out =
      ap (λ l. lines_from (all_ends l) 1 (length names)) (names_itself (length names) (items_from 0 reads.placed) 0 [] none reads.placed refl refl refl valid)
      ∙ ap (λ s. lines_from (all_ends (named_in 0 s)) 1 (length names)) exported_same
      ∙ line_exported first others lines drawing reports ends notes starts is are_ends are_reports (all_ends (named_in 0 says.exported)) (λ p. line_is p (length lines) says.exported says.valid)

  pub renamed_out : out.renamed ≡ []
  unfolding chart_built
  renamed_out =
      none_renamed (length names) names reads.entities reads.placed reads.named named_each (each_of IsName names (λ i n e. all_at IsName names i n e is.named)) valid

  pub notes_out : Each IsNote out.left_out
  unfolding chart_built
  notes_out = only_notes reads.placed [] tt

  -- the diagram and the chart of the export
  pub diagram_read : diagram_of (export_text (view names lines drawing reports ends notes starts)) ≡ Ok diagram
  diagram_read = ap diagram_of (whole_is first others lines drawing reports ends notes starts is are_ends are_reports) ∙ diagram_is

  pub built_chart : built diagram ≡ Ok out
  built_chart = built_is
