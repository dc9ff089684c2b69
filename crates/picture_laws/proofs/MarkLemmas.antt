-- Each event that is drawn has one mark.
use Rattle.std.proofs.Common.{◌≡◌, ℕ, ◌+◌, ◌<◌, ◌≤◌, ◌^◌, ◌&&◌, Bool, true, false, List, [], ◌++◌, ◌*◌, length, take, Option, None, Some, refl, sym, ap, ◌∙◌, subst, arith, append_assoc, append-nil, decimal}
use Rattle.std.specs.Prelude.{count_by, codes, is_some, option_map}
use Rattle.std.specs.List.{flat_map, list_all}
use Rattle.std.proofs.lemmas.Bool.{and_from, and_right, both_ways, false_from_ne_true}
use Rattle.std.proofs.lemmas.Option.{same_Some}
use Rattle.chart.specs.declared.event.Event.{Event as Occurs}
use Rattle.chart.specs.declared.instance.EventNo.{EventNo}
use Rattle.chart.specs.declared.instance.TheConstants.{MAX_INSTANCES}
use Rattle.chart.specs.declared.line.TheConstants.{MAX_EVENTS}
use Rattle.chart.specs.Charts.{Chart, IsChart, chart_event, chart_lines}
use Rattle.chart.specs.Events.{name_of}
use Rattle.chart.specs.Names.{is_name_byte}
use Rattle.chart.specs.Places.{IsEvent}
use Rattle.closure.specs.Faults.{place_of}
use Rattle.closure.proofs.ReadLemmas.{instance_within, line_short}
use Rattle.chart_layout.specs.Layouts.{is_at, row_of}
use Rattle.chart_layout.proofs.IndexLemmas.{is_at-true, is_at-same}
use Rattle.texts.specs.Instances.{name_at}
use Rattle.picture_parts.specs.declared.elements.spot.Spot.{Spot}
use Rattle.picture_parts.specs.Columns.Choices.{ChoiceView, is_in_picture, count_from}
use Rattle.picture_parts.specs.Elements.Elements.{point_start}
use Rattle.pictures.specs.Pictures.{PictureView, cell_of, spot_of, event_of}
use Rattle.pictures.specs.PictureText.{picture_text, ground, remarks, bottom}
use Rattle.pictures.specs.Preparing.{SourceView, PartView}
use Rattle.pictures.specs.RowText.{name_in, message_name, row_text}
use Rattle.pictures.specs.Spots.{on_line}
use Rattle.picture_laws.specs.Marks.{begins, times_in, tag, HasPlainNames, HasItsMark, MarkLaw, OnlyMarksLaw, events_in}
use Rattle.picture_laws.specs.Places.{IsOfChart}
use Rattle.picture_laws.proofs.ArrowLemmas.{text_is}
use Rattle.picture_laws.proofs.CountLemmas.{rows_good, counted_rows, count_is, rows_marks, rows_same, rows_none, occurs, laid_marked, occurs_range, rows_have}
use Rattle.picture_laws.proofs.FrameLemmas.{top-quiet, bottom-quiet, ground-quiet, remarks-quiet}
use Rattle.picture_laws.proofs.MarkRows.{circle, body, rows-adds}
use Rattle.picture_laws.proofs.QuietLemmas.{word}
use Rattle.picture_laws.proofs.Standing.{Stands, stands, one_event, cell_there, no_cell}
use Rattle.picture_laws.proofs.TextLemmas.{Lacks, name_lacks, begins_same, begins_number}

whole : (p rest : List ℕ) → begins p (p ++ rest) ≡ true
whole p rest = ap (λ q. begins q (p ++ rest)) (sym (append-nil p)) ∙ begins_same p [] rest

-- a picture has the words that its rows have
total : (w : List ℕ) (hit : EventNo → Bool) (v : PictureView) → Stands v → ((p : ℕ) → Lacks 60 (name_at v.names p)) → ((e : EventNo) → Lacks 60 (message_name v e))
    → ((x : EventNo) (a : Spot) → spot_of v x ≡ Some a → IsEvent (chart_lines v.lines) (place_of x) → (rest : List ℕ) → begins w (body x a ++ rest) ≡ hit x)
    → times_in (word w) (picture_text v) ≡ rows_marks (λ x. is_some (cell_of v x) && hit x) v.choice.rows 0
total w hit v is names messages ready =
    ap (times_in (word w)) (text_is v) ∙ top-quiet w v (ground v ++ (flat_map (row_text v) v.choice.rows ++ (remarks v ++ bottom v)))
    ∙ ground-quiet w v names (flat_map (row_text v) v.choice.rows ++ (remarks v ++ bottom v))
    ∙ rows-adds w hit v names messages ready v.choice.rows (rows_good v is) (remarks v ++ bottom v)
    ∙ ap (rows_marks (λ x. is_some (cell_of v x) && hit x) v.choice.rows) (remarks-quiet w v (bottom v) ∙ ap (times_in (word w)) (sym (append-nil (bottom v))) ∙ bottom-quiet w v [])

module _ (v : PictureView) (is : Stands v) (chart : IsChart v.lines) (names : (p : ℕ) → Lacks 60 (name_at v.names p)) (messages : (e : EventNo) → Lacks 60 (message_name v e))
    (e : EventNo) (low_p : e.instance < 2 ^ 64) (low_i : e.index < 2 ^ 64) where
  abbrev c : Chart
  c = chart_lines v.lines

  -- numbers of events are small
  small_p : (x : EventNo) → IsEvent c (place_of x) → x.instance < 2 ^ 64
  small_p x event = let on = instance_within v.lines (place_of x) event in let limit : MAX_INSTANCES < 2 ^ 63 = omega arith in omega (arith, on.1, on.2, chart.limit, limit)

  small_i : (x : EventNo) → IsEvent c (place_of x) → x.index < 2 ^ 64
  small_i x event =
      let on = instance_within v.lines (place_of x) event in
      let bound = subst (λ p. x.index ≤ length (c p)) on.1 event.1 in
      let limit : MAX_EVENTS < 2 ^ 63 = omega arith in
      omega (arith, bound, line_short v.lines on.0 chart on.2, limit)

  -- The word that is looked for: the event's id, and what comes after it.
  abbrev after : List ℕ → List ℕ
  after u = decimal e.instance ++ (codes "-" ++ (decimal e.index ++ (codes "'>" ++ u)))

  module _ (u : List ℕ) (fits : (a : Spot) → spot_of v e ≡ Some a → (rest : List ℕ) → begins u (circle a ++ rest) ≡ true) where
    abbrev spelled : EventNo → Spot → List ℕ → List ℕ
    spelled x a rest = decimal x.instance ++ (codes "-" ++ (decimal x.index ++ (codes "'>" ++ (circle a ++ rest))))

    spelled_is : (x : EventNo) (a : Spot) (rest : List ℕ) → body x a ++ rest ≡ spelled x a rest
    spelled_is x a rest =
        append_assoc (decimal x.instance) (codes "-" ++ (decimal x.index ++ (codes "'>" ++ circle a))) rest
        ∙ ap (λ t. decimal x.instance ++ (codes "-" ++ t)) (append_assoc (decimal x.index) (codes "'>" ++ circle a) rest)

    same_begins : (a : Spot) → spot_of v e ≡ Some a → (rest : List ℕ) → begins (after u) (spelled e a rest) ≡ true
    same_begins a at_a rest =
        begins_same (decimal e.instance) (codes "-" ++ (decimal e.index ++ (codes "'>" ++ u))) (codes "-" ++ (decimal e.index ++ (codes "'>" ++ (circle a ++ rest))))
        ∙ begins_same (decimal e.index) (codes "'>" ++ u) (codes "'>" ++ (circle a ++ rest)) ∙ fits a at_a rest

    other_begins : (x : EventNo) (a : Spot) (rest : List ℕ) → IsEvent c (place_of x) → begins (after u) (spelled x a rest) ≡ true → is_at (place_of e) x ≡ true
    other_begins x a rest event all =
        let first = begins_number 45 (λ d small same. omega (arith, small, same)) e.instance x.instance (decimal e.index ++ (codes "'>" ++ u)) (decimal x.index ++ (codes "'>" ++ (circle a ++ rest))) low_p (small_p x event) all in
        let second = begins_number 39 (λ d small same. omega (arith, small, same)) e.index x.index (codes ">" ++ u) (codes ">" ++ (circle a ++ rest)) low_i (small_i x event) first.1 in
        is_at-same (place_of e) x (sym first.0) (sym second.0)

    ready : (x : EventNo) (a : Spot) → spot_of v x ≡ Some a → IsEvent c (place_of x) → (rest : List ℕ) → begins (after u) (body x a ++ rest) ≡ is_at (place_of e) x
    ready x a at_a event rest = ap (begins (after u)) (spelled_is x a rest) ∙ go (is_at (place_of e) x) refl
      where
        go : (b : Bool) → is_at (place_of e) x ≡ b → begins (after u) (spelled x a rest) ≡ b
        go true same =
            let one = one_event x e (is_at-true (place_of e) x same) in
            ap (λ y. begins (after u) (spelled y a rest)) one ∙ same_begins a (subst (λ y. spot_of v y ≡ Some a) one at_a) rest
        go false differs = false_from_ne_true (begins (after u) (spelled x a rest)) (λ all. both_ways (is_at (place_of e) x) differs (other_begins x a rest event all))

    abbrev own : EventNo → Bool
    own x = is_some (cell_of v x) && is_at (place_of e) x

    counted : times_in (word (after u)) (picture_text v) ≡ rows_marks own v.choice.rows 0
    counted = total (after u) (is_at (place_of e)) v is names messages ready

    -- once, if the event has a cell
    counted_once : (row : ℕ) → row_of v.choice.rows (place_of e) ≡ Some row → is_some (cell_of v e) ≡ true → times_in (word (after u)) (picture_text v) ≡ 1
    counted_once row of_event some =
        let all = counted ∙ rows_same own (is_at (place_of e)) each v.choice.rows 0 in
        let occur = laid_marked v.choice.rows e.instance e.index in
        let few = subst (λ xs. occurs e.index xs ≤ 1) (sym (is.drawing.order e.instance)) (occurs_range e.index 1 (length (c e.instance))) in
        omega (arith, all, occur, few, rows_have v.choice.rows (place_of e) row of_event)
      where
        each : (x : EventNo) → own x ≡ is_at (place_of e) x
        each x = go (is_at (place_of e) x) refl
          where
            go : (b : Bool) → is_at (place_of e) x ≡ b → (is_some (cell_of v x) && b) ≡ b
            go false differs = and_right (is_some (cell_of v x)) false refl
            go true same = and_from (is_some (cell_of v x)) true (ap (λ y. is_some (cell_of v y)) (one_event x e (is_at-true (place_of e) x same)) ∙ some) refl

    -- never, if it has none
    counted_never : cell_of v e ≡ None → times_in (word (after u)) (picture_text v) ≡ 0
    counted_never none = counted ∙ rows_same own (λ x. false) each v.choice.rows 0 ∙ rows_none v.choice.rows 0
      where
        each : (x : EventNo) → own x ≡ false
        each x = go (is_at (place_of e) x) refl
          where
            go : (b : Bool) → is_at (place_of e) x ≡ b → (is_some (cell_of v x) && b) ≡ false
            go false differs = and_right (is_some (cell_of v x)) false refl
            go true same = ap (λ b. b && true) (ap (λ y. is_some (cell_of v y)) (one_event x e (is_at-true (place_of e) x same)) ∙ ap is_some none)

  tag_is : tag e ≡ word (after [])
  unfolding tag
  tag_is = refl

  mark_is : (a : Spot) → point_start e.instance e.index a ≡ word (after (circle a))
  unfolding point_start
  mark_is a = refl

  pub has_mark : HasItsMark v e
  has_mark = record {
    drawn = λ drawn. let cell = cell_there v is e drawn in
        let a : Spot = record { x = cell.column.x; y = count_from v.choice 0 (take cell.row v.choice.rows) * 24 + 84 } in
        let spot : spot_of v e ≡ Some a = ap (option_map on_line) cell.cell in (
          a,
          record { column = cell.column; row = cell.row; of_instance = cell.of_instance; of_event = cell.of_event; x_is = refl; y_is = refl },
          ap (λ word. times_in word (picture_text v)) (mark_is a) ∙ counted_once (circle a) (λ b at_b rest. its_circle b a rest at_b spot) cell.row cell.of_event (ap is_some cell.cell),
          ap (λ word. times_in word (picture_text v)) tag_is ∙ counted_once [] (λ a at_a rest. refl) cell.row cell.of_event (ap is_some cell.cell),
        );
    hidden = λ hidden. ap (λ word. times_in word (picture_text v)) tag_is ∙ counted_never [] (λ a at_a rest. refl) (no_cell v e hidden);
  }
    where
      its_circle : (a b : Spot) (rest : List ℕ) → spot_of v e ≡ Some a → spot_of v e ≡ Some b → begins (circle b) (circle a ++ rest) ≡ true
      its_circle a b rest at_a at_b = subst (λ x. begins (circle x) (circle a ++ rest) ≡ true) (same_Some a b (sym at_a ∙ at_b)) (whole (circle a) rest)

-- the names in a picture of a chart with plain names
module _ (source : SourceView) (part : PartView) (v : PictureView) (of_chart : IsOfChart source part v) (plain_names : HasPlainNames source) where
  names_lack : (p : ℕ) → Lacks 60 (name_at v.names p)
  names_lack p = name_lacks (name_at v.names p) (subst (λ names. list_all is_name_byte (name_at names p) ≡ true) (sym of_chart.picture.names_are) (plain_names.instances p))

  messages_lack : (x : EventNo) → Lacks 60 (message_name v x)
  messages_lack x = go (event_of v x) refl
    where
      go : (m : Option Occurs) → event_of v x ≡ m → Lacks 60 (name_in m)
      go None at_x = refl
      go (Some m) at_x = name_lacks (name_of m) (plain_names.messages (place_of x) m (subst (λ lines. chart_event (chart_lines lines) (place_of x) ≡ Some m) of_chart.picture.lines_are at_x))

pub mark_law : MarkLaw
mark_law source part v of_chart chart plain_names e low_p low_i =
    has_mark v (stands source part v of_chart) (subst IsChart (sym of_chart.picture.lines_are) chart) (names_lack source part v of_chart plain_names) (messages_lack source part v of_chart plain_names) e
    (omega (arith, low_p)) (omega (arith, low_i))

-- an event has a cell if it is drawn
shown_is : (v : PictureView) → Stands v → (x : EventNo) → (is_some (cell_of v x) && true) ≡ is_in_picture v.choice x
shown_is v is x = go (is_in_picture v.choice x) refl
  where
    go : (b : Bool) → is_in_picture v.choice x ≡ b → (is_some (cell_of v x) && true) ≡ b
    go true drawn = ap (λ o. is_some o && true) (cell_there v is x drawn).cell
    go false hidden = ap (λ o. is_some o && true) (no_cell v x (λ drawn. both_ways (is_in_picture v.choice x) hidden drawn))

pub only_marks_law : OnlyMarksLaw
only_marks_law source part v of_chart plain_names =
    total [] (λ x. true) v is (names_lack source part v of_chart plain_names) (messages_lack source part v of_chart plain_names) (λ x a at_a event rest. refl)
    ∙ rows_same (λ x. is_some (cell_of v x) && true) (is_in_picture v.choice) (shown_is v is) v.choice.rows 0
    ∙ counted_rows (is_in_picture v.choice) v.choice.rows ∙ sym (count_is (is_in_picture v.choice) (flat_map events_in v.choice.rows))
    ∙ ap (λ rows. count_by (is_in_picture v.choice) (flat_map events_in rows)) (ap (λ (c : ChoiceView). c.rows) of_chart.picture.choice_is)
  where
    is : Stands v
    is = stands source part v of_chart
