-- The margin of a picture (this project's profile): texts on the right of its columns, and dashed lines that divide the
-- rows. Each text is at the row of the first message that is sent below it, or below the last row.
use Rattle.std.specs.Prelude.{ℕ, ◌+◌, ◌-◌, ◌*◌, ◌/◌, ◌^◌, min, max, Bool, true, false, ◌==◌, List, [], ◌++◌, length, fold, codes, decimal, Option, None, Some, slice_get, if◌then◌else◌}
use Rattle.chart.specs.declared.event.Event.{Event}
use Rattle.chart.specs.declared.event.Event.TheVariants.{Send, Receive}
use Rattle.chart.specs.Charts.{LineView, chart_event, chart_lines}
use Rattle.closure.specs.Faults.{place_of}
use Rattle.chart_layout.specs.declared.row.Row.{Row}
use Rattle.chart_layout.specs.declared.row.Row.TheVariants as variants
use Rattle.chart_layout.specs.declared.margin.MarginNote.{MarginNote}
use Rattle.picture_parts.specs.declared.elements.spot.Spot.{Spot}
use Rattle.texts.specs.Pieces.Pieces.{escaped}
use Rattle.pictures.specs.ColumnText.{rows_above}
use Rattle.pictures.specs.Pictures.{PictureView}

abbrev pub is_send : Option Event → Bool
is_send None = false
is_send (Some (Send to name)) = true
is_send (Some (Receive from name region)) = false

-- a message is sent in the row
abbrev pub has_send : List LineView → Row → Bool
has_send lines (variants.Message s r) = true
has_send lines (variants.Event e) = is_send (chart_event (chart_lines lines) (place_of e))

-- the width in pixels of n characters, as in labels; at most 4,096 are counted
abbrev pub text_width : ℕ → ℕ
text_width n = (20 * min n 4096 + 2) / 3

-- the width of the widest text
abbrev pub widest : List MarginNote → ℕ
widest notes = fold (λ n note. max n (text_width (length note.text.items))) 0 notes

-- the width of the margin: 0 if there is no text
abbrev pub margin_of : List MarginNote → ℕ
margin_of notes = if length notes == 0 then 0 else min (widest notes + 16) (2 ^ 32 - 1)

-- the width of a picture with its margin; widths of more than 32 bits are capped
abbrev pub with_margin : ℕ → List MarginNote → ℕ
with_margin width notes = min (width + margin_of notes) (2 ^ 32 - 1)

-- the x coordinate at which its texts begin
abbrev pub margin_x : PictureView → ℕ
margin_x v = v.width - margin_of v.notes

abbrev pub either : Option ℕ → Option ℕ → Option ℕ
either None place = place
either (Some place) other = Some place

-- the number of rows that are drawn above a row, if one of its events is drawn
abbrev pub row_place : PictureView → Row → Option ℕ
row_place v (variants.Message s r) = either (rows_above v s) (rows_above v r)
row_place v (variants.Event e) = rows_above v e

abbrev pub below_place : PictureView → Option ℕ → Option ℕ
below_place v None = None
below_place v (Some place) = Some v.count

-- below the last row, if that is drawn
abbrev pub end_place : PictureView → Option Row → Option ℕ
end_place v None = Some v.count
end_place v (Some row) = below_place v (row_place v row)

abbrev pub place_at : PictureView → Option Row → Option ℕ
place_at v None = end_place v (slice_get v.choice.rows (length v.choice.rows - 1))
place_at v (Some row) = row_place v row

-- the number of rows that are drawn above a text, if the text is drawn; it is at the row of the first message that is
-- sent below it, or below the last row
abbrev pub note_place : PictureView → MarginNote → Option ℕ
note_place v note = place_at v (slice_get v.sends note.above)

-- a text that begins at this spot, escaped like a title
unfoldable pub note_at : Spot → List ℕ → List ℕ
note_at a words =
    codes "<text class='s' x='" ++ (decimal a.x ++ (codes "' y='" ++ (decimal a.y ++ (codes "'>" ++ (escaped words
    ++ codes "</text>\n")))))

-- the same with `place` rows above it
abbrev pub note_in_picture : ℕ → List ℕ → Option ℕ → List ℕ
note_in_picture x words None = []
note_in_picture x words (Some place) = note_at (record { x = x; y = place * 24 + 76 }) words

-- a text that begins at x, if it is drawn
abbrev pub note_text : PictureView → ℕ → MarginNote → List ℕ
note_text v x note = note_in_picture x note.text.items (note_place v note)

-- a line that divides the rows, up to this spot
unfoldable pub line_at : Spot → List ℕ
line_at end = codes "<path stroke-dasharray='2 4' d='M16 " ++ (decimal end.y ++ (codes "H" ++ (decimal end.x ++ codes "'/>\n")))

-- the same with `place` rows above it, up to the margin
abbrev pub line_in_picture : ℕ → Option ℕ → List ℕ
line_in_picture x None = []
line_in_picture x (Some place) = line_at (record { x = x - 16; y = place * 24 + 72 })

-- the dividing line of a text, if it has one that is drawn
abbrev pub dividing_line : PictureView → ℕ → MarginNote → List ℕ
dividing_line v x note = if note.divides then line_in_picture x (note_place v note) else []
