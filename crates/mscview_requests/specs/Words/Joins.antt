-- The value of `--join`: a name, `=`, and names joined by commas (this project's profile).
use Rattle.std.specs.Prelude.{◌≡◌, ℕ, List, Option, None, Some, Ok}
use Rattle.chart.specs.Names.{name_of}
use Rattle.diagram_join.specs.Joins.{JoinView}
use Rattle.texts.specs.Lines.{parts}
use Rattle.mscview_requests.specs.Words.Words.{is_equals, round, AreRead}
use Rattle.mscview_requests.specs.declared.words.joins.JoinWord.{JoinWord}

-- the word is the name
abbrev pub IsName : List ℕ → List ℕ → Type 0
IsName word name = name_of word ≡ Ok name

-- the names that commas (byte 44) join
abbrev pub AreNames : List ℕ → List (List ℕ) → Type 0
AreNames word names = AreRead IsName (parts 44 word) names

-- the part before `=` is the instance's name, and the part after it has the names of its lines
abbrev pub IsJoinAt : Option (List ℕ × List ℕ) → JoinView → Type 0
IsJoinAt None join = ⊥
IsJoinAt (Some (name, names)) join = IsName name join.name × AreNames names join.parts

abbrev pub IsJoin : List ℕ → JoinView → Type 0
IsJoin word join = IsJoinAt (round is_equals word) join

abbrev pub join_word_view : JoinWord → JoinView
join_word_view word = record { name = word.name; parts = word.parts.items }
