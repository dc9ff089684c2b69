-- The columns of a picture as text: heads and lifelines (this project's profile, after the graphical form of ITU-T
-- Z.120).
use Rattle.std.specs.Prelude.{ℕ, ◌+◌, ◌-◌, ◌*◌, ◌/◌, true, ◌==◌, List, [], ◌∷◌, ◌++◌, Option, None, Some, option_map, if◌then◌else◌}
use Rattle.chart.specs.declared.event.Event.{Event}
use Rattle.chart.specs.Events.{region_of}
use Rattle.chart.specs.Charts.{chart_lines}
use Rattle.texts.specs.Instances.{name_at}
use Rattle.pictures.specs.declared.columns.Life.{Life}
use Rattle.chart.specs.declared.instance.EventNo.{EventNo}
use Rattle.picture_parts.specs.declared.columns.columns.Column.{Column}
use Rattle.picture_parts.specs.Columns.TextWidths.{line_break, name_width}
use Rattle.picture_parts.specs.Elements.Elements.{segment, head_box, name_lines, foot}
use Rattle.pictures.specs.Pictures.{PictureView, cell_of}
use Rattle.pictures.specs.Spots.{height}

-- where a part of a lifeline ends, before an event of another coregion with `place` rows above it: above that event, or
-- below the last event of the lifeline's coregion
abbrev pub cut : Life → ℕ → ℕ
cut life place = if life.region == 0 then place * 24 + 72 else life.place * 24 + 96

-- the part of a lifeline that ends before an event of coregion c, if the event is drawn and a part ends there
abbrev pub part : ℕ → Life → Option ℕ → ℕ → List ℕ
part x life None c = []
part x life (Some place) c = if c == life.region then [] else segment life.region x life.start (cut life place)

-- the state of the lifeline below the event
abbrev pub next_life : Life → Option ℕ → ℕ → Life
next_life life None c = life
next_life life (Some place) c = record {
  region = c;
  start = if c == life.region then life.start else cut life place;
  place = place;
}

-- the last part of a lifeline, down to `bottom`
unfoldable pub life_end : ℕ → Life → ℕ → List ℕ
life_end x life bottom =
    if life.region == 0
    then segment 0 x life.start bottom
    else (segment life.region x life.start (life.place * 24 + 96) ++ segment 0 x (life.place * 24 + 96) bottom)

-- the number of rows that are drawn above an event, if the event is drawn
abbrev pub rows_above : PictureView → EventNo → Option ℕ
rows_above v e = option_map (λ cell. cell.place) (cell_of v e)

-- the rest of p's lifeline at x, with these events, the first of which is the i-th
abbrev pub life_text : PictureView → ℕ → ℕ → ℕ → Life → List Event → List ℕ
life_text v p x i life [] = life_end x life (height v.count)
life_text v p x i life (m ∷ line) =
    part x life (rows_above v (record { instance = p; index = i })) (region_of m)
    ++ life_text v p x (i + 1) (next_life life (rows_above v (record { instance = p; index = i })) (region_of m)) line

-- p's lifeline at x, with these events; it is dashed along a coregion
abbrev pub lifeline : PictureView → ℕ → ℕ → List Event → List ℕ
lifeline v p x line = life_text v p x 1 (record { region = 0; start = 52; place = 0 }) line

-- the y coordinate of the lower line of an instance's name, by the number of bytes on its upper line
abbrev pub name_height : ℕ → ℕ
name_height upper = if upper == 0 then 42 else 47

-- the head of a line at x, with this name
unfoldable pub head_of : List ℕ → ℕ → List ℕ
head_of name x =
    head_box (x - ((name_width true name / 2) + 6)) (2 * ((name_width true name / 2) + 6))
    ++ name_lines (line_break true name) name (record { x = x; y = name_height (line_break true name) })

abbrev pub head : PictureView → ℕ → ℕ → List ℕ
head v p x = head_of (name_at v.names p) x

-- a column: its head, its lifeline and its foot
unfoldable pub column_text : PictureView → Column → List ℕ
column_text v c =
    head v c.instance c.x ++ (lifeline v c.instance c.x (chart_lines v.lines c.instance)
    ++ foot (record { x = c.x - 12; y = height v.count }))
