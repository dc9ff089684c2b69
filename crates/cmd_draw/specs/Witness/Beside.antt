-- Two pictures side by side as text, with two events marked in both (SVG 1.1; their contents are this project's
-- profile).
use Rattle.std.specs.Prelude.{ℕ, ◌+◌, ◌-◌, max, List, [], ◌++◌, Option, None, Some, codes, decimal}
use Rattle.chart.specs.declared.instance.EventNo.{EventNo}
use Rattle.picture_parts.specs.Elements.Elements.{group_end}
use Rattle.picture_parts.specs.Elements.Frames.{svg_start, title, svg_end}
use Rattle.picture_parts.specs.declared.elements.spot.Spot.{Spot}
use Rattle.pictures.specs.Pictures.{PictureView, spot_of}
use Rattle.pictures.specs.PictureText.{picture_text, tall_of}
use Rattle.texts.specs.Pieces.Pieces.{escaped}
use Rattle.cmd_base.specs.declared.pairs.pair.Pair.{Pair}
use Rattle.cmd_draw.specs.declared.witness.beside.Marked.{Marked}

-- the colour of the marks, and the background of both pictures
unfoldable pub ground : List ℕ
ground =
    codes "<style>.v{stroke:#0050a0;stroke-width:2}"
    ++ (codes "@media(prefers-color-scheme:dark){.v{stroke:#9cf}}</style>\n"
    ++ codes "<rect class='g' width='100%' height='100%'/>\n")

-- the upper left corner of the square around a spot
abbrev pub corner : Spot → Spot
corner a = record { x = a.x - 8; y = a.y - 8 }

-- the square with this corner
unfoldable pub square : Spot → List ℕ
square a =
    codes "<rect class='v' x='" ++ (decimal a.x ++ (codes "' y='" ++ (decimal a.y
    ++ codes "' width='16' height='16'/>\n")))

-- a ring around a spot
unfoldable pub ring : Spot → List ℕ
ring a = codes "<circle class='v' cx='" ++ (decimal a.x ++ (codes "' cy='" ++ (decimal a.y ++ codes "' r='9'/>\n")))

-- a group that is shifted x pixels to the right begins
unfoldable pub group_start : ℕ → List ℕ
group_start x = codes "<g transform='translate(" ++ (decimal x ++ codes ",0)'>\n")

abbrev pub square_at : Option Spot → List ℕ
square_at None = []
square_at (Some a) = square (corner a)

abbrev pub ring_at : Option Spot → List ℕ
ring_at None = []
ring_at (Some a) = ring a

-- the spot of an event in a picture, if there is one and it is drawn
abbrev pub spot_from : PictureView → Option EventNo → Option Spot
spot_from v None = None
spot_from v (Some e) = spot_of v e

-- a square around the earlier event, and a ring around the receive
unfoldable pub marks : Option Spot → Option Spot → List ℕ
marks earlier receive = square_at earlier ++ ring_at receive

-- a picture with its marks, shifted x pixels to the right
unfoldable pub side_text : ℕ → PictureView → Option EventNo → Option EventNo → List ℕ
side_text x v earlier receive =
    group_start x ++ (picture_text v ++ (marks (spot_from v earlier) (spot_from v receive) ++ group_end))

-- the legends of the square and of the ring, at a height
unfoldable pub square_entry : ℕ → List ℕ → ℕ → List ℕ
square_entry y name index =
    codes "<g transform='translate(16," ++ (decimal y
    ++ (codes ")'><rect class='v' x='1' y='-7' width='14' height='14'/>"
    ++ (codes "<text class='s' x='28' y='4'>event " ++ (decimal index ++ (codes " of " ++ (escaped name
    ++ codes "</text></g>\n"))))))

unfoldable pub ring_entry : ℕ → List ℕ → ℕ → List ℕ
ring_entry y name index =
    codes "<g transform='translate(16," ++ (decimal y
    ++ (codes ")'><circle class='v' cx='8' cy='0' r='7'/>"
    ++ (codes "<text class='s' x='28' y='4'>receive " ++ (decimal index ++ (codes " of " ++ (escaped name
    ++ codes ", which comes first on the right</text></g>\n"))))))

unfoldable pub key : ℕ → List ℕ → Pair → List ℕ
key y name pair = square_entry (y + 8) name pair.earlier.index ++ ring_entry (y + 28) name pair.receive.index

-- two pictures side by side with this title. On the left the pair of the instance with this name is marked, and on the
-- right the events of `there`. The legend of the marks is below them
unfoldable pub beside_text : List ℕ → List ℕ → Pair → PictureView → PictureView → Marked → List ℕ
beside_text words name pair left right there =
    svg_start (left.width + right.width) (max (tall_of left) (tall_of right) + 44)
    ++ (title words ++ (ground ++ (side_text 0 left (Some pair.earlier) (Some pair.receive)
    ++ (side_text left.width right there.earlier there.receive
    ++ (key (max (tall_of left) (tall_of right)) name pair ++ svg_end)))))
