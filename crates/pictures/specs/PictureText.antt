-- The text of a picture (SVG 1.1; its elements are this project's profile).
use Rattle.std.specs.Prelude.{ℕ, ◌+◌, List, ◌++◌}
use Rattle.std.specs.List.{flat_map, list_any}
use Rattle.pictures.specs.Spots.{height}
use Rattle.pictures.specs.Pictures.{PictureView}
use Rattle.pictures.specs.ColumnText.{column_text}
use Rattle.picture_parts.specs.Elements.Frames.{styles, markers, svg_start, title, heading, svg_end}
use Rattle.picture_parts.specs.Elements.Legends.{legend, legend_tall}
use Rattle.pictures.specs.MarksThere.{has_marks, has_waiting, has_region}
use Rattle.pictures.specs.RowText.{row_text}
use Rattle.pictures.specs.MarkText.{marks}
use Rattle.pictures.specs.Margins.{margin_x, note_text, dividing_line}

-- the height of the picture
abbrev pub tall_of : PictureView → ℕ
tall_of v =
    height v.count
    + legend_tall (has_marks v) (list_any (has_waiting v) v.choice.rows) (list_any (has_region v) v.choice.rows) + 20

-- the parts above the columns
unfoldable pub top : PictureView → List ℕ
top v =
    svg_start v.width (tall_of v)
    ++ (title v.title ++ (styles ++ (markers ++ heading v.title)))

-- the parts below the columns
unfoldable pub bottom : PictureView → List ℕ
bottom v =
    legend (has_marks v) (list_any (has_waiting v) v.choice.rows) (list_any (has_region v) v.choice.rows)
    (height v.count + 28) ++ svg_end

-- the dividing lines of the margin, and the columns from left to right
unfoldable pub ground : PictureView → List ℕ
ground v = flat_map (dividing_line v (margin_x v)) v.notes ++ flat_map (column_text v) v.choice.columns

-- the marks of each report, and the margin
unfoldable pub remarks : PictureView → List ℕ
remarks v = flat_map (marks v) v.reports ++ flat_map (note_text v (margin_x v)) v.notes

-- a picture: its columns, its rows from top to bottom, the marks of races, and the margin
unfoldable pub picture_text : PictureView → List ℕ
picture_text v =
    top v ++ (ground v ++ (flat_map (row_text v) v.choice.rows ++ (remarks v ++ bottom v)))
