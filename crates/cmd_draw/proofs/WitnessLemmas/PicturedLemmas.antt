-- The picture of a chart and its witness, by what it is made from.
use Rattle.std.proofs.Common.{◌≡◌, ℕ, List, length, Option, Result, Ok, Err, refl, sym, ap, ◌∙◌, subst}
use Rattle.chart.specs.Charts.{Chart, chart_lines, IsPossible}
use Rattle.chart.specs.Histories.{chart_of, IsLegal}
use Rattle.chart.specs.HistoryLines.{history_line, history_lines}
use Rattle.chart.proofs.HistoryLines.{chart-is}
use Rattle.std.proofs.lemmas.List.FromFn.{length-map-range_with_len}
use Rattle.chart.specs.declared.instance.EventNo.{EventNo}
use Rattle.cmd_base.specs.declared.error.ProgramError.{ProgramError}
use Rattle.cmd_base.specs.declared.error.ProgramError.TheVariants.{Usage, File, Memory, Text, ReceiveWithoutSend, NameMismatch, Cyclic, Write}
use Rattle.cmd_base.specs.declared.source.Source.{Source}
use Rattle.cmd_base.specs.Contents.{Named}
use Rattle.cmd_base.specs.Texts.{named_of}
use Rattle.cmd_base.specs.Columns.Columns.{AreColumns, RefusesColumns, only_of}
use Rattle.cmd_base.specs.declared.columns.error.ColumnError.{ColumnError}
use Rattle.cmd_base.specs.declared.columns.error.ColumnError.TheVariants as columns
use Rattle.cmd_draw.specs.Preparing.{reports_in}
use Rattle.cmd_draw.specs.Windows.{IsWindow}
use Rattle.cmd_draw.specs.declared.drawing.Wanted as whole
use Rattle.cmd_draw.specs.declared.windows.Rows as rows
use Rattle.texts.specs.Outs.{Sink}
use Rattle.schedule.specs.Outcomes.Outcomes.{OutcomeView, IsOutcome}
use Rattle.pictures.specs.Pictures.{PictureView}
use Rattle.pictures.specs.Preparing.{IsPictureOf}
use Rattle.schedule.specs.Meaning.{meaning}
use Rattle.schedule.specs.Plans.{Plan}
use Rattle.cmd_base.specs.declared.pairs.error.PairError.{PairError}
use Rattle.cmd_base.specs.declared.pairs.error.PairError.TheVariants as pairs
use Rattle.cmd_base.specs.declared.pairs.pair.Asked.{Asked}
use Rattle.cmd_base.specs.declared.pairs.pair.Pair.{Pair}
use Rattle.cmd_explain_race.specs.declared.finding.Found.{Found}
use Rattle.cmd_explain_race.specs.declared.verdict.Witnessed.{Witnessed}
use Rattle.cmd_explain_race.specs.Finding.{origin_of, IsFound, IsJudged, Judges}
use Rattle.schedule_replay.specs.declared.reordered_runs.showing.Shown.{Shown}
use Rattle.schedule_replay.specs.declared.reordered_runs.showing.Shown.TheVariants as founds
use Rattle.cmd_explain_race.specs.Reordering.{Origin, IsWitness}
use Rattle.cmd_explain_race.proofs.ReorderingLemmas.{no_slots}
use Rattle.cmd_draw.specs.declared.witness.drawing.Subject.{Subject}
use Rattle.cmd_draw.specs.declared.witness.drawing.Wanted.{Wanted}
use Rattle.cmd_draw.specs.declared.witness.error.PictureError.TheVariants as picture_left_out
use Rattle.cmd_draw.specs.declared.witness.stage.Stage.{Stage}
use Rattle.cmd_draw.specs.Witness.Beside.{beside_text}
use Rattle.cmd_draw.specs.Witness.Drawing.{other_title, IsPictured, ArePictured, IsSubject, AreStaged, WritesOne, DrawsSo, DrawsShown, DrawsWitness}
use Rattle.cmd_draw.specs.Witness.Stages.{IsWhole, IsStageOf, pictured_source, part_of}

-- the picture of a whole chart is the wanted one
pictured : (title : List ℕ) (wanted : Wanted) (source : Source) (columns : List ℕ) (w : whole.Wanted) (stage : Stage) (picture : PictureView) → IsWhole title (only_of wanted.only) wanted.numbers w
    → AreColumns (named_of source).0 (only_of wanted.only) columns → IsPossible (length (named_of source).1) (chart_lines (named_of source).1) → IsStageOf source stage
    → IsPictureOf (pictured_source w.title.now stage) (part_of columns w.numbers) picture
    → IsPictured title wanted source picture
pictured title wanted source columns w stage picture is are possible staged is_picture = record {
  all = w;
  is_whole = is;
  is_picture = record {
    columns = columns;
    rows = stage.prepared.layout;
    ends = stage.prepared.ends;
    reports = reports_in stage.reports;
    window = record { top = 0; bottom = 4294967294 };
    named_so = subst (λ only. AreColumns (named_of source).0 only columns) (sym is.only_is) are;
    possible = possible;
    prepared = staged.prepared;
    races = staged.races;
    chosen = subst (λ (r : rows.Rows). IsWindow (named_of source) stage.prepared.layout r (record { top = 0; bottom = 4294967294 })) (sym is.rows_are) refl;
    is_picture = rw is.events_are (rw staged.names at (rw staged.lines at is_picture));
  };
}

-- two pictures side by side are those of the two charts
pub pictured_from : (subject : Subject) (other : Source) (here there : Stage) (text : List ℕ) → IsSubject subject → IsPossible (length (named_of other).1) (chart_lines (named_of other).1)
    → (named_of other).0 ≡ (named_of subject.source.now).0 → IsStageOf subject.source.now here → IsStageOf other there → AreStaged subject here there text
    → ArePictured subject.asked.now subject.wanted.now subject.source.now subject.pair other text
pictured_from subject other here there text is possible names left right staged = record {
  here = staged.here;
  there = staged.there;
  left = pictured subject.wanted.now.title.now subject.wanted.now subject.source.now subject.columns.now staged.wanted_here here staged.here staged.whole_here is.columns is.possible left staged.left;
  right = pictured other_title subject.wanted.now other subject.columns.now staged.wanted_there there staged.there staged.whole_there
      (subst (λ ns. AreColumns ns (only_of subject.wanted.now.only) subject.columns.now) (sym names) is.columns) possible right staged.right;
  is = rw (left.lines, right.lines) at staged.is;
}

-- equal marks give equal texts of two pictures
pub marked_as : (words name : List ℕ) (pair : Pair) (left right : PictureView) (earlier receive earlier' receive' : Option EventNo) → earlier ≡ earlier' → receive ≡ receive'
    → beside_text words name pair left right (record { earlier = earlier; receive = receive }) ≡ beside_text words name pair left right (record { earlier = earlier'; receive = receive' })
marked_as words name pair left right earlier receive earlier' receive' one other = rw (one, other) refl

-- a property of a text holds for the text that was written
pub writes_as : {S : Type 0} (sink : S → Sink) (Is Are : List ℕ → Type 0) (old new : S) (result : Result (Unit {0}) ProgramError) → ((text : List ℕ) → Is text → Are text) → WritesOne sink Is old new result → WritesOne sink Are old new result
writes_as sink Is Are old new (Ok done) so wrote = (wrote.0, so wrote.0 wrote.1, wrote.2)
writes_as sink Is Are old new (Err Write) so wrote = (wrote.0, so wrote.0 wrote.1, wrote.2)
writes_as sink Is Are old new (Err Memory) so wrote = wrote
writes_as sink Is Are old new (Err Usage) so wrote = absurd wrote
writes_as sink Is Are old new (Err File) so wrote = absurd wrote
writes_as sink Is Are old new (Err (Text fault)) so wrote = absurd wrote
writes_as sink Is Are old new (Err (ReceiveWithoutSend p index)) so wrote = absurd wrote
writes_as sink Is Are old new (Err (NameMismatch p index)) so wrote = absurd wrote
writes_as sink Is Are old new (Err Cyclic) so wrote = absurd wrote

-- nothing was written, if memory ran out
pub writes_none : {S : Type 0} (sink : S → Sink) (Is : List ℕ → Type 0) (old : S) (error : ProgramError) → error ≡ Memory → WritesOne sink Is old old (Err error)
writes_none sink Is old error is = subst (λ (e : ProgramError). WritesOne sink Is old old (Err e)) (sym is) refl

-- the chart of a witness is possible
pub possible_witness : (named : Named) (origin : Origin) (pair : Pair) (plan : Plan) (o : OutcomeView) → IsWitness named origin pair plan → IsOutcome plan o → IsPossible (length o.chart) (chart_lines o.chart)
possible_witness (names, lines) origin pair plan o is it =
    let n = length names in
    let h = (meaning plan).run.history in
    let legal : IsLegal n plan.capacity h = is.1.run.legal in
    let same : o.chart ≡ history_lines n h = it.chart ∙ ap (λ (ns : List (List ℕ)). history_lines (length ns) h) is.0 in
    let chart : chart_of h ≡ chart_lines o.chart = chart-is n plan.capacity h legal ∙ ap chart_lines (sym same) in
    let many : length o.chart ≡ n = ap length same ∙ length-map-range_with_len (history_line h) 1 n in
    subst (λ m. IsPossible m (chart_lines o.chart)) (sym many) (h, plan.capacity, legal, λ p. ap (λ (c : Chart). c p) chart)

-- the outcome of a witness has the names of the chart
pub witness_names : (named : Named) (origin : Origin) (pair : Pair) (plan : Plan) (o : OutcomeView) → IsWitness named origin pair plan → IsOutcome plan o → o.names ≡ named.0
witness_names (names, lines) origin pair plan o is it = it.names ∙ is.0

-- if the two events are refused, nothing is written
pub not_found : {S : Type 0} (sink : S → Sink) (old : S) (asked : Asked) (wanted : Wanted) (source : Source) (columns : List ℕ) (error : PairError) → AreColumns (named_of source).0 (only_of wanted.only) columns
    → IsFound (named_of source) (origin_of source) asked (Err error) → DrawsWitness sink old old asked wanted source (Err (picture_left_out.Pair error))
not_found sink old asked wanted source columns (pairs.Program Memory) are is = refl
not_found sink old asked wanted source columns (pairs.Program Write) are is = absurd is
not_found sink old asked wanted source columns (pairs.Program Usage) are is = (columns, are, is, refl)
not_found sink old asked wanted source columns (pairs.Program File) are is = (columns, are, is, refl)
not_found sink old asked wanted source columns (pairs.Program (Text fault)) are is = (columns, are, is, refl)
not_found sink old asked wanted source columns (pairs.Program (ReceiveWithoutSend p index)) are is = (columns, are, is, refl)
not_found sink old asked wanted source columns (pairs.Program (NameMismatch p index)) are is = (columns, are, is, refl)
not_found sink old asked wanted source columns (pairs.Program Cyclic) are is = (columns, are, is, refl)
not_found sink old asked wanted source columns (pairs.NoSuchEvent missing) are is = (columns, are, is, refl)
not_found sink old asked wanted source columns pairs.NotEarlier are is = (columns, are, is, refl)
not_found sink old asked wanted source columns (pairs.NotAReceive receive) are is = (columns, are, is, refl)
not_found sink old asked wanted source columns (pairs.ManySlots k) are is = absurd (no_slots (named_of source).0 (named_of source).1 asked k is.0)

-- the chart has no such columns
pub no_columns : {S : Type 0} (sink : S → Sink) (old : S) (asked : Asked) (wanted : Wanted) (source : Source) (error : ColumnError) → RefusesColumns (named_of source).0 (only_of wanted.only) error → DrawsWitness sink old old asked wanted source (Err (picture_left_out.Columns error))
no_columns sink old asked wanted source columns.NoSuchName none = (none, refl)
no_columns sink old asked wanted source (columns.Program Memory) why = refl
no_columns sink old asked wanted source (columns.Program Usage) why = absurd why
no_columns sink old asked wanted source (columns.Program File) why = absurd why
no_columns sink old asked wanted source (columns.Program (Text fault)) why = absurd why
no_columns sink old asked wanted source (columns.Program (ReceiveWithoutSend p index)) why = absurd why
no_columns sink old asked wanted source (columns.Program (NameMismatch p index)) why = absurd why
no_columns sink old asked wanted source (columns.Program Cyclic) why = absurd why
no_columns sink old asked wanted source (columns.Program Write) why = absurd why

-- if a witness isn't drawn completely, memory ran out or a put failed
pub not_pictured : {S : Type 0} (sink : S → Sink) (old new : S) (asked : Asked) (wanted : Wanted) (source : Source) (columns : List ℕ) (found : Found) (witnessed : Witnessed) (error : ProgramError) → AreColumns (named_of source).0 (only_of wanted.only) columns
    → IsFound (named_of source) (origin_of source) asked (Ok found) → Judges source found (Ok witnessed) → DrawsShown sink old new asked wanted source found (Err error) → DrawsWitness sink old new asked wanted source (Err (picture_left_out.Pair (pairs.Program error)))
not_pictured sink old new asked wanted source columns found witnessed error are is judges draws = by_shown error found.shown refl draws
  where
    so : DrawsShown sink old new asked wanted source found (Err Write) → DrawsWitness sink old new asked wanted source (Err (picture_left_out.Pair (pairs.Program Write)))
    so shows = (witnessed, record { columns = columns; found = found; are = are; is_found = is; judges = judges; draws = shows })

    by_shown : (error : ProgramError) (shown : Shown) → shown ≡ found.shown → DrawsSo sink old new asked wanted source found.pair found.shown (Err error) → DrawsWitness sink old new asked wanted source (Err (picture_left_out.Pair (pairs.Program error)))
    by_shown Write shown same shows = so shows
    by_shown error (founds.Replay plan) same shows = replayed error (subst (λ (s : Shown). DrawsSo sink old new asked wanted source found.pair s (Err error)) (sym same) shows)
      where
        replayed : (error : ProgramError) → DrawsSo sink old new asked wanted source found.pair (founds.Replay plan) (Err error) → DrawsWitness sink old new asked wanted source (Err (picture_left_out.Pair (pairs.Program error)))
        replayed Memory wrote = wrote
        replayed Write wrote = so (subst (λ (s : Shown). DrawsSo sink old new asked wanted source found.pair s (Err Write)) same wrote)
        replayed Usage wrote = absurd wrote
        replayed File wrote = absurd wrote
        replayed (Text fault) wrote = absurd wrote
        replayed (ReceiveWithoutSend p index) wrote = absurd wrote
        replayed (NameMismatch p index) wrote = absurd wrote
        replayed Cyclic wrote = absurd wrote
    by_shown error founds.Enforced same shows = let none = subst (λ (s : Shown). DrawsSo sink old new asked wanted source found.pair s (Err error)) (sym same) shows in let differs = none.0 in cc
    by_shown error (founds.TooManySlots k) same shows = let none = subst (λ (s : Shown). DrawsSo sink old new asked wanted source found.pair s (Err error)) (sym same) shows in let differs = none.0 in cc

-- if each witness needs too many slots, nothing is drawn
pub too_many : {S : Type 0} (sink : S → Sink) (old : S) (asked : Asked) (wanted : Wanted) (source : Source) (columns : List ℕ) (found : Found) (error : PairError) → AreColumns (named_of source).0 (only_of wanted.only) columns
    → IsFound (named_of source) (origin_of source) asked (Ok found) → Judges source found (Err error) → DrawsWitness sink old old asked wanted source (Err (picture_left_out.Pair error))
too_many sink old asked wanted source columns found error are is judges = by_shown found.shown refl
  where
    by_shown : (shown : Shown) → shown ≡ found.shown → DrawsWitness sink old old asked wanted source (Err (picture_left_out.Pair error))
    by_shown (founds.TooManySlots k) same =
        let many = subst (λ (s : Shown). IsJudged source found.pair s (Err error)) (sym same) judges in
        let its : error ≡ pairs.ManySlots k = cc in
        subst (λ (e : PairError). DrawsWitness sink old old asked wanted source (Err (picture_left_out.Pair e))) (sym its) (record {
          columns = columns;
          found = found;
          are = are;
          is_found = is;
          judges = subst (λ (e : PairError). Judges source found (Err e)) its judges;
          draws = subst (λ (s : Shown). DrawsSo sink old old asked wanted source found.pair s (Ok tt)) same (refl, refl);
        })
    by_shown founds.Enforced same = let wrong = subst (λ (s : Shown). IsJudged source found.pair s (Err error)) (sym same) judges in cc
    by_shown (founds.Replay plan) same = let wrong = (subst (λ (s : Shown). IsJudged source found.pair s (Err error)) (sym same) judges).2 in cc
