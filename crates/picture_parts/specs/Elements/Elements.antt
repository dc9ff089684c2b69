-- The elements of a picture as text (SVG 1.1; the set of elements is this project's profile).
use Rattle.std.specs.Prelude.{ℕ, ◌+◌, ◌-◌, ◌/◌, ◌==◌, Bool, List, [], ◌∷◌, ◌++◌, length, take, drop, codes, decimal, if◌then◌else◌}
use Rattle.picture_parts.specs.Columns.TextWidths.{line_break, name_width}
use Rattle.picture_parts.specs.declared.elements.spot.Spot.{Spot}

-- an arrow between two spots
unfoldable pub arrow : Spot → Spot → List ℕ
arrow a b =
    codes "<path class='m' d='M" ++ (decimal a.x ++ (codes " " ++ (decimal a.y ++ (codes "L" ++ (decimal b.x
    ++ (codes " " ++ (decimal b.y ++ codes "'/>\n")))))))

-- a small open circle
unfoldable pub ring : Spot → List ℕ
ring a = codes "<circle class='w' cx='" ++ (decimal a.x ++ (codes "' cy='" ++ (decimal a.y ++ codes "' r='4'/>\n")))

-- a background in the picture's colour: its upper left corner, its width and its height
unfoldable pub ground : Spot → ℕ → ℕ → List ℕ
ground a width tall =
    codes "<rect class='g' x='" ++ (decimal a.x ++ (codes "' y='" ++ (decimal a.y ++ (codes "' width='" ++ (decimal width
    ++ (codes "' height='" ++ (decimal tall ++ codes "'/>\n")))))))

-- a line of a name, with its middle at the spot; nothing, if it is empty
unfoldable pub full_line : Spot → List ℕ → List ℕ
full_line a line =
    codes "<text x='" ++ (decimal a.x ++ (codes "' y='" ++ (decimal a.y ++ (codes "'>" ++ (line
    ++ codes "</text>\n")))))

abbrev pub name_line : Spot → List ℕ → List ℕ
name_line a line = if length line == 0 then [] else full_line a line

-- the place of a name's upper line, if the lower one is at the spot
abbrev pub above : Spot → Spot
above a = record { x = a.x; y = a.y - 10 }

-- both lines of a name, with the middle of the lower one at the spot
unfoldable pub name_lines : ℕ → List ℕ → Spot → List ℕ
name_lines upper name a = name_line (above a) (take upper name) ++ name_line a (drop upper name)

-- the height of a label's background
abbrev pub tall : ℕ → ℕ
tall upper = if upper == 0 then 10 else 20

-- the upper left corner of the background of a label above an arrow, and the place of its lower line
abbrev pub corner : ℕ → ℕ → ℕ → ℕ → Spot
corner x y upper width = record { x = x - (width / 2); y = y - (tall upper + 2) }

abbrev pub base : ℕ → ℕ → Spot
base x y = record { x = x; y = y - 4 }

-- a label above an arrow at this height, on its background
unfoldable pub label : Bool → List ℕ → ℕ → ℕ → List ℕ
label near name x y =
    ground (corner x y (line_break near name) (name_width near name)) (name_width near name)
    (tall (line_break near name)) ++ name_lines (line_break near name) name (base x y)

-- the beginning of a label that begins at the spot, and the end of any
unfoldable pub label_start : Spot → List ℕ
label_start a = codes "<text class='s' x='" ++ (decimal a.x ++ (codes "' y='" ++ (decimal a.y ++ codes "'>")))

unfoldable pub label_end : List ℕ
label_end = codes "</text>\n"

-- a number with these classes
unfoldable pub number_text : List ℕ → Spot → ℕ → List ℕ
number_text classes a n = codes "<text class='" ++ (classes ++ (codes "' x='" ++ (decimal a.x ++ (codes "' y='"
    ++ (decimal a.y ++ (codes "'>" ++ (decimal n ++ codes "</text>\n")))))))

-- the beginning of an event's group, with a point at its place
unfoldable pub point_start : ℕ → ℕ → Spot → List ℕ
point_start instance index a =
    codes "<g id='e" ++ (decimal instance ++ (codes "-" ++ (decimal index ++ (codes "'><circle class='p' cx='"
    ++ (decimal a.x ++ (codes "' cy='" ++ (decimal a.y ++ codes "' r='4'/>")))))))

unfoldable pub group_end : List ℕ
group_end = codes "</g>\n"

-- the solid part of a lifeline at x, between two heights
unfoldable pub solid : ℕ → ℕ → ℕ → List ℕ
solid x a b = codes "<path d='M" ++ (decimal x ++ (codes " " ++ (decimal a ++ (codes "V" ++ (decimal b ++
    codes "'/>\n")))))

-- the dashed part
unfoldable pub dashed : ℕ → ℕ → ℕ → List ℕ
dashed x a b = codes "<path class='c' d='M" ++ (decimal x ++ (codes " " ++ (decimal a ++ (codes "V" ++ (decimal b ++
    codes "'/>\n")))))

-- the part in the coregion r: dashed, or solid if r is 0 (ITU-T Z.120)
unfoldable pub segment : ℕ → ℕ → ℕ → ℕ → List ℕ
segment r x a b = if r == 0 then solid x a b else dashed x a b

-- the beginning of a racing receive's group, with its dot, up to the dot's title
unfoldable pub dot_start : ℕ → ℕ → Spot → List ℕ
dot_start instance index a = codes "<g id='r" ++ (decimal instance ++ (codes "-" ++ (decimal index
    ++ (codes "'><circle class='r' cx='" ++ (decimal a.x ++ (codes "' cy='" ++ (decimal a.y
    ++ codes "' r='4'><title>may come before ")))))))

unfoldable pub dot_end : List ℕ
dot_end = codes "</title></circle>\n"

-- the beginning of the bracket of a receive for a range that begins with the event `first`: up to its outline
unfoldable pub bracket_name : ℕ → ℕ → ℕ → List ℕ
bracket_name instance index first = codes "<path id='b" ++ (decimal instance ++ (codes "-" ++ (decimal index ++ (codes "-"
    ++ (decimal first ++ codes "' class='b' d='")))))

-- its outline: from an upper corner to the lower one at the same x, with ends as far as `inner`; then the number of its
-- receive and the beginning of the bracket's meaning
unfoldable pub bracket_outline : Spot → ℕ → ℕ → ℕ → List ℕ
bracket_outline a lower inner receive =
    codes "M" ++ (decimal inner ++ (codes " " ++ (decimal a.y ++ (codes "H" ++ (decimal a.x
    ++ (codes "V" ++ (decimal lower ++ (codes "H" ++ (decimal inner ++ (codes "'><title>" ++ (decimal receive ++
    codes " may come before ")))))))))))

unfoldable pub bracket_end : List ℕ
bracket_end = codes "</title></path>\n"

-- the box of an instance's name
unfoldable pub head_box : ℕ → ℕ → List ℕ
head_box left width =
    codes "<rect x='" ++ (decimal left ++ (codes "' y='24' width='" ++ (decimal width ++ codes "' height='28'/>\n")))

-- the end of a lifeline, which begins here
unfoldable pub foot : Spot → List ℕ
foot a = codes "<path class='f' d='M" ++ (decimal a.x ++ (codes " " ++ (decimal a.y ++ codes "h24'/>\n")))
