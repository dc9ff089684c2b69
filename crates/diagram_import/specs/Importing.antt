-- A whole text, and its chart.
use Rattle.std.specs.Prelude.{ℕ, Bool, true, false, List, [], ◌∷◌, Option, None, Some, Result, Ok, Err, map, drop, if◌then◌else◌, nat_eq}
use Rattle.std.specs.List.{starts_with}
use Rattle.diagrams.specs.Diagrams.{DiagramView}
use Rattle.diagrams.specs.Places.{earlier}
use Rattle.diagrams.specs.declared.left_out.LeftOut.{LeftOut}
use Rattle.diagrams.specs.declared.place.Place.{Place}
use Rattle.diagrams.specs.Building.{◌>>=◌}
use Rattle.diagram_join.specs.Building.{JoinedChartView, built_joined}
use Rattle.diagram_join.specs.Joins.{JoinView, join_view}
use Rattle.diagram_join.specs.declared.moves.Overtaking.{Overtaking}
use Rattle.diagram_tool.specs.declared.Tool.{Tool}
use Rattle.diagram_import.specs.Readers.{tool_in, diagram_in, refused_as}
use Rattle.diagram_import.specs.Refusals.{Refusal, Usage, NotRead, NoChart}
use Rattle.diagram_import.specs.Shown.{words_at}
use Rattle.diagram_import.specs.Skipping.{blanked_from, lines_from, is_beyond}
use Rattle.diagram_import.specs.declared.importing.Options.{Options}
use Rattle.diagram_import.specs.declared.skipping.Skip.{Skip}

-- the lines to skip, the lines of the diagram to join, and whether a skipped construct is refused
pub record OptionsView : Type 0 where
  pub skipped : List Skip
  pub joins : List JoinView
  pub is_strict : Bool

abbrev pub options_view : Options → OptionsView
options_view o = record { skipped = o.skipped.now; joins = map join_view o.joins.now; is_strict = o.is_strict }

-- the text after its byte order mark, if it begins with one
unfoldable pub behind_mark : List ℕ → List ℕ
behind_mark text = if starts_with nat_eq text (239 ∷ 187 ∷ 191 ∷ []) then drop 3 text else text

-- the earlier of two places: the one so far, if there is one, and this one
abbrev pub with_place : Option Place → Place → Option Place
with_place None place = Some place
with_place (Some first) place = Some (earlier first place)

unfoldable pub first_place : Option Place → List LeftOut → Option Place
first_place so_far [] = so_far
first_place so_far (l ∷ left_out) = first_place (with_place so_far l.first) left_out

-- the same, with messages that are skipped because they overtake another one
unfoldable pub first_overtaking : Option Place → List Overtaking → Option Place
first_overtaking so_far [] = so_far
first_overtaking so_far (o ∷ overtaking) = first_overtaking (with_place so_far o.place) overtaking

-- the chart, or the refusal of the first skipped construct
abbrev pub strictly_at : List ℕ → JoinedChartView → Option Place → Result JoinedChartView Refusal
strictly_at text d None = Ok d
strictly_at text d (Some place) = Err (NotRead place (words_at text place))

unfoldable pub strictly : Bool → List ℕ → JoinedChartView → Result JoinedChartView Refusal
strictly true text d = strictly_at text d (first_overtaking (first_place None d.built.left_out) d.overtaking)
strictly false text d = Ok d

-- the chart of a text without skipped lines and without a byte order mark
unfoldable pub imported_from : Option Tool → List JoinView → Bool → List ℕ → Result JoinedChartView Refusal
imported_from tool joins is_strict text = do
  own ← tool_in tool text
  diagram ← diagram_in own text
  chart ← refused_as NoChart (built_joined diagram joins)
  strictly is_strict text chart

-- the chart of a text
unfoldable pub imported : Option Tool → List ℕ → OptionsView → Result JoinedChartView Refusal
imported tool text options =
    if is_beyond options.skipped (lines_from 0 false text) then Err Usage
    else imported_from tool options.joins options.is_strict (behind_mark (blanked_from options.skipped 1 text))
