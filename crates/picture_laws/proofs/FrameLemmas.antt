-- Texts in which no event's mark begins: a picture's frame, legend, columns, margin and races.
use Rattle.std.proofs.Common.{ℕ, ◌+◌, ◌-◌, ◌*◌, ◌/◌, ◌==◌, Bool, true, false, cond, List, [], ◌∷◌, ◌++◌, length, Option, None, Some, refl, decimal}
use Rattle.std.specs.Prelude.{codes, slice_get, nat_le, min, max}
use Rattle.std.specs.List.{list_any, flat_map}
use Rattle.chart.specs.declared.event.Event.{Event}
use Rattle.chart.specs.declared.instance.EventNo.{EventNo}
use Rattle.chart.specs.declared.ranges.EventRange.{EventRange}
use Rattle.chart.specs.Charts.{chart_lines}
use Rattle.chart.specs.Events.{region_of}
use Rattle.chart.specs.Ranges.{ranges_of}
use Rattle.chart.specs.Reports.{ReportView}
use Rattle.chart_layout.specs.declared.margin.MarginNote.{MarginNote}
use Rattle.texts.specs.Instances.{name_at}
use Rattle.texts.specs.Pieces.Pieces.{escaped}
use Rattle.texts.specs.Pieces.RaceWords.{kind, amount, up_to, range_text, comma, next_range, ranges_text}
use Rattle.picture_parts.specs.declared.columns.columns.Column.{Column}
use Rattle.picture_parts.specs.declared.elements.spot.Spot.{Spot}
use Rattle.picture_parts.specs.Columns.TextWidths.{line_break, name_width}
use Rattle.picture_parts.specs.Elements.Elements.{segment, head_box, dot_start, dot_end, bracket_name, bracket_outline, bracket_end, number_text, group_end}
use Rattle.picture_parts.specs.Elements.Frames as frames
use Rattle.picture_parts.specs.Elements.Frames.{styles, markers, svg_start, heading, svg_end}
use Rattle.picture_parts.specs.Elements.Legends.{entry_start, races_entry, waits_entry, regions_entry, races_at, waits_at, regions_at, races_part, waits_part, regions_part, races_tall, entry_tall, legend}
use Rattle.pictures.specs.ColumnText.{part, cut, next_life, life_end, rows_above, life_text, lifeline, head_of, head, name_height, column_text}
use Rattle.pictures.specs.Margins.{note_at, note_in_picture, note_text, note_place, line_at, line_in_picture, dividing_line, margin_x}
use Rattle.pictures.specs.MarkText.{dot, dot_spot, from_left, counted, race_class, race_number, bracket_x, upper_y, inner_x, bracket_between, bracket_places, bracket_from, bracket_text, first_in_picture, last_in_picture, marked, marked_at, marks}
use Rattle.pictures.specs.MarksThere.{has_marks, has_waiting, has_region}
use Rattle.pictures.specs.Pictures.{PictureView, column_of, row_at, cell_of}
use Rattle.pictures.specs.PictureText.{tall_of, top, bottom, ground, remarks}
use Rattle.pictures.specs.Spots.{height, number_spot}
use Rattle.picture_laws.proofs.TextLemmas.{Lacks, escaped_lacks}
use Rattle.picture_laws.proofs.QuietLemmas.{IsQuiet, quiet-append, quiet-none, quiet-cond, quiet-all, plain, number, number-quiet, lines-quiet, number_text-quiet, group_end-quiet, segment-quiet, dot_start-quiet, dot_end-quiet, bracket_name-quiet, bracket_outline-quiet, bracket_end-quiet, head_box-quiet, foot-quiet}

module _ (w : List ℕ) where
  -- The frame.

  svg_start-quiet : (wide high : ℕ) → IsQuiet w (svg_start wide high)
  unfolding svg_start
  svg_start-quiet wide high = number w wide _ (number w high _ (number w wide _ (number w high _ (λ rest. refl))))

  title-quiet : (words : List ℕ) → IsQuiet w (frames.title words)
  unfolding frames.title
  title-quiet words = plain w (escaped words) _ (escaped_lacks words) (λ rest. refl)

  heading-quiet : (words : List ℕ) → IsQuiet w (heading words)
  unfolding heading
  heading-quiet words = plain w (escaped words) _ (escaped_lacks words) (λ rest. refl)

  styles-quiet : IsQuiet w styles
  unfolding styles
  styles-quiet rest = refl

  markers-quiet : IsQuiet w markers
  unfolding markers
  markers-quiet rest = refl

  svg_end-quiet : IsQuiet w svg_end
  unfolding svg_end
  svg_end-quiet rest = refl

  pub top-quiet : (v : PictureView) → IsQuiet w (top v)
  unfolding top
  top-quiet v =
      quiet-append w (svg_start v.width (tall_of v)) _ (svg_start-quiet v.width (tall_of v)) (quiet-append w (frames.title v.title) _ (title-quiet v.title)
      (quiet-append w styles _ styles-quiet (quiet-append w markers _ markers-quiet (heading-quiet v.title))))

  -- The legend.

  entry-quiet : (y : ℕ) → IsQuiet w (entry_start y)
  unfolding entry_start
  entry-quiet y = number w y _ (λ rest. refl)

  races-quiet : (there : Bool) (y : ℕ) → IsQuiet w (races_part there y)
  unfolding races_at races_entry
  races-quiet there y = quiet-cond w there (races_at y) [] (quiet-append w (entry_start y) races_entry (entry-quiet y) (λ rest. refl)) (quiet-none w)

  waits-quiet : (there : Bool) (y : ℕ) → IsQuiet w (waits_part there y)
  unfolding waits_at waits_entry
  waits-quiet there y = quiet-cond w there (waits_at y) [] (quiet-append w (entry_start y) waits_entry (entry-quiet y) (λ rest. refl)) (quiet-none w)

  regions-quiet : (there : Bool) (y : ℕ) → IsQuiet w (regions_part there y)
  unfolding regions_at regions_entry
  regions-quiet there y = quiet-cond w there (regions_at y) [] (quiet-append w (entry_start y) regions_entry (entry-quiet y) (λ rest. refl)) (quiet-none w)

  legend-quiet : (races waits regions : Bool) (y : ℕ) → IsQuiet w (legend races waits regions y)
  unfolding legend
  legend-quiet races waits regions y =
      quiet-append w (races_part races y) _ (races-quiet races y)
      (quiet-append w (waits_part waits (y + races_tall races)) _ (waits-quiet waits (y + races_tall races)) (regions-quiet regions (y + races_tall races + entry_tall waits)))

  pub bottom-quiet : (v : PictureView) → IsQuiet w (bottom v)
  unfolding bottom
  bottom-quiet v =
      quiet-append w (legend (has_marks v) (list_any (has_waiting v) v.choice.rows) (list_any (has_region v) v.choice.rows) (height v.count + 28)) svg_end
      (legend-quiet (has_marks v) (list_any (has_waiting v) v.choice.rows) (list_any (has_region v) v.choice.rows) (height v.count + 28)) svg_end-quiet

  -- The margin.

  note_at-quiet : (a : Spot) (words : List ℕ) → IsQuiet w (note_at a words)
  unfolding note_at
  note_at-quiet a words = number w a.x _ (number w a.y _ (plain w (escaped words) _ (escaped_lacks words) (λ rest. refl)))

  note-quiet : (x : ℕ) (words : List ℕ) (place : Option ℕ) → IsQuiet w (note_in_picture x words place)
  note-quiet x words None = quiet-none w
  note-quiet x words (Some place) = note_at-quiet (record { x = x; y = place * 24 + 76 }) words

  line_at-quiet : (a : Spot) → IsQuiet w (line_at a)
  unfolding line_at
  line_at-quiet a = number w a.y _ (number w a.x _ (λ rest. refl))

  line-quiet : (x : ℕ) (place : Option ℕ) → IsQuiet w (line_in_picture x place)
  line-quiet x None = quiet-none w
  line-quiet x (Some place) = line_at-quiet (record { x = x - 16; y = place * 24 + 72 })

  dividing-quiet : (v : PictureView) (x : ℕ) (note : MarginNote) → IsQuiet w (dividing_line v x note)
  dividing-quiet v x note = quiet-cond w note.divides (line_in_picture x (note_place v note)) [] (line-quiet x (note_place v note)) (quiet-none w)

  -- The columns.

  part-quiet : (x : ℕ) (life : _) (place : Option ℕ) (c : ℕ) → IsQuiet w (part x life place c)
  part-quiet x life None c = quiet-none w
  part-quiet x life (Some place) c = quiet-cond w (c == life.region) [] (segment life.region x life.start (cut life place)) (quiet-none w) (segment-quiet w life.region x life.start (cut life place))

  end-quiet : (x : ℕ) (life : _) (low : ℕ) → IsQuiet w (life_end x life low)
  unfolding life_end
  end-quiet x life low =
      quiet-cond w (life.region == 0) (segment 0 x life.start low) (segment life.region x life.start (life.place * 24 + 96) ++ segment 0 x (life.place * 24 + 96) low) (segment-quiet w 0 x life.start low)
      (quiet-append w (segment life.region x life.start (life.place * 24 + 96)) (segment 0 x (life.place * 24 + 96) low) (segment-quiet w life.region x life.start (life.place * 24 + 96)) (segment-quiet w 0 x (life.place * 24 + 96) low))

  life-quiet : (v : PictureView) (p x i : ℕ) (life : _) (line : List Event) → IsQuiet w (life_text v p x i life line)
  life-quiet v p x i life [] = end-quiet x life (height v.count)
  life-quiet v p x i life (m ∷ line) =
      let above = rows_above v (record { instance = p; index = i }) in
      quiet-append w (part x life above (region_of m)) (life_text v p x (i + 1) (next_life life above (region_of m)) line) (part-quiet x life above (region_of m))
      (life-quiet v p x (i + 1) (next_life life above (region_of m)) line)

  head-quiet : (name : List ℕ) (x : ℕ) → Lacks 60 name → IsQuiet w (head_of name x)
  unfolding head_of
  head-quiet name x clean =
      quiet-append w (head_box (x - ((name_width true name / 2) + 6)) (2 * ((name_width true name / 2) + 6))) _ (head_box-quiet w (x - ((name_width true name / 2) + 6)) (2 * ((name_width true name / 2) + 6)))
      (lines-quiet w (line_break true name) name (record { x = x; y = name_height (line_break true name) }) clean)

  module _ (v : PictureView) (names : (p : ℕ) → Lacks 60 (name_at v.names p)) where
    column-quiet : (c : Column) → IsQuiet w (column_text v c)
    unfolding column_text
    column-quiet c =
        quiet-append w (head v c.instance c.x) _ (head-quiet (name_at v.names c.instance) c.x (names c.instance))
        (quiet-append w (lifeline v c.instance c.x (chart_lines v.lines c.instance)) _ (life-quiet v c.instance c.x 1 _ (chart_lines v.lines c.instance)) (foot-quiet w (record { x = c.x - 12; y = height v.count })))

    pub ground-quiet : IsQuiet w (ground v)
    unfolding ground
    ground-quiet =
        quiet-append w (flat_map (dividing_line v (margin_x v)) v.notes) (flat_map (column_text v) v.choice.columns) (quiet-all w (dividing_line v (margin_x v)) v.notes (dividing-quiet v (margin_x v)))
        (quiet-all w (column_text v) v.choice.columns column-quiet)

  -- The marks of races.

  amount-quiet : (n : ℕ) → IsQuiet w (amount n)
  unfolding amount kind
  amount-quiet n = number w n _ (quiet-cond w (n == 1) (codes " earlier event: ") (codes " earlier events: ") (λ rest. refl) (λ rest. refl))

  range-quiet : (r : EventRange) → IsQuiet w (range_text r)
  unfolding range_text up_to
  range-quiet r =
      quiet-cond w (r.count == 1) (decimal r.first.index) (up_to r.first.index (r.first.index + (r.count - 1))) (number-quiet w r.first.index)
      (number w r.first.index _ (number-quiet w (r.first.index + (r.count - 1))))

  next-quiet : (r : EventRange) → IsQuiet w (next_range r)
  unfolding next_range comma
  next-quiet r = range-quiet r

  ranges-quiet : (ranges : List EventRange) → IsQuiet w (ranges_text ranges)
  ranges-quiet [] = quiet-none w
  ranges-quiet (r ∷ ranges) = quiet-append w (range_text r) (flat_map next_range ranges) (range-quiet r) (quiet-all w next_range ranges next-quiet)

  dot-quiet : (e : EventNo) (a : Spot) (n : ℕ) (ranges : List EventRange) → IsQuiet w (dot e a n ranges)
  unfolding dot
  dot-quiet e a n ranges =
      quiet-append w (dot_start e.instance e.index a) _ (dot_start-quiet w e.instance e.index a) (quiet-append w (amount n) _ (amount-quiet n)
      (quiet-append w (ranges_text ranges) dot_end (ranges-quiet ranges) (dot_end-quiet w)))

  class-lacks : (b : Bool) → Lacks 60 (cond b (codes "e k") (codes "n k"))
  class-lacks true = refl
  class-lacks false = refl

  between-quiet : (e : EventNo) (r : EventRange) (c : Column) (upper lower : ℕ) → IsQuiet w (bracket_between e r c upper lower)
  unfolding bracket_between
  between-quiet e r c upper lower =
      quiet-append w (bracket_name e.instance e.index r.first.index) _ (bracket_name-quiet w e.instance e.index r.first.index)
      (quiet-append w (bracket_outline (record { x = bracket_x c e.index; y = upper_y e.index upper }) (height lower + 7) (inner_x c e.index) e.index) _
      (bracket_outline-quiet w (record { x = bracket_x c e.index; y = upper_y e.index upper }) (height lower + 7) (inner_x c e.index) e.index)
      (quiet-append w (amount r.count) _ (amount-quiet r.count) (quiet-append w (range_text r) _ (range-quiet r) (quiet-append w bracket_end _ (bracket_end-quiet w)
      (number_text-quiet w (codes "k") (record { x = bracket_x c e.index; y = upper_y e.index upper - 3 }) e.index refl)))))

  places-quiet : (e : EventNo) (r : EventRange) (c : Column) (upper lower : Option ℕ) → IsQuiet w (bracket_places e r c upper lower)
  places-quiet e r c None lower = quiet-none w
  places-quiet e r c (Some upper) None = quiet-none w
  places-quiet e r c (Some upper) (Some lower) = between-quiet e r c upper lower

  from-quiet : (v : PictureView) (e : EventNo) (r : EventRange) (c : Option Column) (upper lower : Option ℕ) → IsQuiet w (bracket_from v e r c upper lower)
  from-quiet v e r None upper lower = quiet-none w
  from-quiet v e r (Some c) None lower = quiet-none w
  from-quiet v e r (Some c) (Some upper) None = quiet-none w
  from-quiet v e r (Some c) (Some upper) (Some lower) =
      quiet-cond w (nat_le (max upper v.choice.top) (min lower v.choice.bottom)) (bracket_places e r c (slice_get v.places (max upper v.choice.top)) (slice_get v.places (min lower v.choice.bottom))) []
      (places-quiet e r c (slice_get v.places (max upper v.choice.top)) (slice_get v.places (min lower v.choice.bottom))) (quiet-none w)

  bracket-quiet : (v : PictureView) (e : EventNo) (r : EventRange) → IsQuiet w (bracket_text v e r)
  bracket-quiet v e r = from-quiet v e r (column_of v r.first.instance) (row_at v (first_in_picture v r)) (row_at v (last_in_picture v r))

  marked-quiet : (v : PictureView) (e : EventNo) (cell : _) (events : List EventNo) → IsQuiet w (marked v e cell events)
  unfolding marked
  marked-quiet v e cell events =
      quiet-append w (dot e (dot_spot (from_left v e cell.column) cell) (counted events) (ranges_of events)) _ (dot-quiet e (dot_spot (from_left v e cell.column) cell) (counted events) (ranges_of events))
      (quiet-append w (race_number v e cell) _
      (quiet-cond w v.numbers [] (number_text (race_class cell) (number_spot cell) e.index) (quiet-none w) (number_text-quiet w (race_class cell) (number_spot cell) e.index (class-lacks cell.column.room.mirrored)))
      (quiet-append w (flat_map (bracket_text v e) (ranges_of events)) group_end (quiet-all w (bracket_text v e) (ranges_of events) (bracket-quiet v e)) (group_end-quiet w)))

  marks-quiet : (v : PictureView) (report : ReportView) → IsQuiet w (marks v report)
  marks-quiet v report = quiet-cond w (length report.earlier == 0) [] (marked_at v report (cell_of v report.receive)) (quiet-none w) (go (cell_of v report.receive))
    where
      go : (cell : _) → IsQuiet w (marked_at v report cell)
      go None = quiet-none w
      go (Some cell) = marked-quiet v report.receive cell report.earlier

  pub remarks-quiet : (v : PictureView) → IsQuiet w (remarks v)
  unfolding remarks
  remarks-quiet v =
      quiet-append w (flat_map (marks v) v.reports) (flat_map (note_text v (margin_x v)) v.notes) (quiet-all w (marks v) v.reports (marks-quiet v))
      (quiet-all w (note_text v (margin_x v)) v.notes (λ note. note-quiet (margin_x v) note.text.items (note_place v note)))
