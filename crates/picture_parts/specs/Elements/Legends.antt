-- The legend of a picture as text: the meanings of the marks that it has (this project's profile).
use Rattle.std.specs.Prelude.{ℕ, ◌+◌, Bool, List, [], ◌++◌, codes, decimal, if◌then◌else◌}

-- an entry of the legend begins at this height
unfoldable pub entry_start : ℕ → List ℕ
entry_start y = codes "<g transform='translate(16," ++ (decimal y ++ codes ")'>")

-- the meaning of a dot and of a bracket
unfoldable pub races_entry : List ℕ
races_entry =
    codes "<circle class='r' cx='8' cy='0' r='4'/><text class='n k' x='15' y='9'>N</text>"
    ++ (codes "<text class='s' x='28' y='4'>receive N may come before earlier events (a race)</text>\n"
    ++ (codes "<path class='b' d='M11 14H6V24H11'/><text class='n k' x='15' y='24'>N</text>"
    ++ codes "<text class='s' x='28' y='22'>the events that receive N may come before</text></g>\n"))

-- the meaning of an open circle
unfoldable pub waits_entry : List ℕ
waits_entry =
    codes "<circle class='w' cx='8' cy='0' r='4'/>"
    ++ codes "<text class='s' x='28' y='4'>a message that waits: sent, and not received</text></g>\n"

-- the meaning of a dashed lifeline
unfoldable pub regions_entry : List ℕ
regions_entry =
    codes "<path class='c' d='M8 -7V7'/>"
    ++ codes "<text class='s' x='28' y='4'>a coregion: its receives may come in any order</text></g>\n"

unfoldable pub races_at : ℕ → List ℕ
races_at y = entry_start y ++ races_entry

unfoldable pub waits_at : ℕ → List ℕ
waits_at y = entry_start y ++ waits_entry

unfoldable pub regions_at : ℕ → List ℕ
regions_at y = entry_start y ++ regions_entry

-- the heights of the entries: for races, and for the others
abbrev pub races_tall : Bool → ℕ
races_tall there = if there then 36 else 0

abbrev pub entry_tall : Bool → ℕ
entry_tall there = if there then 18 else 0

abbrev pub races_part : Bool → ℕ → List ℕ
races_part there y = if there then races_at y else []

abbrev pub waits_part : Bool → ℕ → List ℕ
waits_part there y = if there then waits_at y else []

abbrev pub regions_part : Bool → ℕ → List ℕ
regions_part there y = if there then regions_at y else []

-- the legend, from this height on
unfoldable pub legend : Bool → Bool → Bool → ℕ → List ℕ
legend races waits regions y =
    races_part races y ++ (waits_part waits (y + races_tall races)
    ++ regions_part regions (y + races_tall races + entry_tall waits))

-- the height of the legend
abbrev pub legend_tall : Bool → Bool → Bool → ℕ
legend_tall races waits regions = races_tall races + entry_tall waits + entry_tall regions
