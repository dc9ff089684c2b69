-- Vector time (Mattern 1989), as a log for ShiViz writes it: `{"HOST":COUNT, ..}`.
use Rattle.std.specs.Prelude.{ℕ, ◌+◌, ◌==◌, ◌&&◌, Bool, List, [], ◌∷◌, ◌++◌, take, drop, Option, None, Some, bytes_eq, if◌then◌else◌}
use Rattle.std.specs.List.{slice_split}
use Rattle.texts.specs.Words.{behind_blanks, first_place, stripped, is_comma}
use Rattle.diagram_statements.specs.Options.{◌>>=◌}
use Rattle.texts.specs.Digits.Numbers.{number_in}
use Rattle.log_formats.specs.declared.clocks.stamp.Stamp.{Stamp}

-- an entry of a clock: a host, and the number of its events that are known
pub record StampView : Type 0 where
  pub host : List ℕ
  pub count : ℕ

abbrev pub stamp_view : Stamp → StampView
stamp_view s = record { host = s.host.now; count = s.count }

-- the two entries are the same
abbrev pub same_stamp : StampView → StampView → Bool
same_stamp s t = bytes_eq s.host t.host && s.count == t.count

-- the bytes after this byte, if the bytes begin with it
abbrev pub behind_mark : ℕ → List ℕ → Option (List ℕ)
behind_mark mark [] = None
behind_mark mark (b ∷ bytes) = if b == mark then Some bytes else None

-- the entry that `"HOST":COUNT` gives
unfoldable pub stamp_in : List ℕ → Option StampView
stamp_in part = do
  quoted ← behind_mark 34 (stripped part)
  end ← first_place 34 quoted
  digits ← behind_mark 58 (behind_blanks (drop (end + 1) quoted))
  count ← number_in (behind_blanks digits)
  Some (record { host = take end quoted; count = count })

-- the part between the braces of a clock
unfoldable pub inside : List ℕ → Option (List ℕ)
inside clock = do
  behind ← behind_mark 123 clock
  end ← first_place 125 behind
  Some (take end behind)

abbrev pub with_stamp : List StampView → Option StampView → List StampView
with_stamp stamps None = stamps
with_stamp stamps (Some s) = stamps ++ s ∷ []

-- the entries, with those of these parts that are entries
abbrev pub with_parts : List StampView → List (List ℕ) → List StampView
with_parts stamps [] = stamps
with_parts stamps (part ∷ parts) = with_parts (with_stamp stamps (stamp_in part)) parts

unfoldable pub listed : List ℕ → List StampView
listed list = with_parts [] (slice_split is_comma list)

abbrev pub listed_if : Option (List ℕ) → List StampView
listed_if None = []
listed_if (Some list) = listed list

-- the entries of a clock
abbrev pub stamps_in : List ℕ → List StampView
stamps_in clock = listed_if (inside clock)

-- the count of the first entry of this host, or 0 if there is none
abbrev pub count_of : List StampView → List ℕ → ℕ
count_of [] host = 0
count_of (s ∷ stamps) host = if bytes_eq s.host host then s.count else count_of stamps host
