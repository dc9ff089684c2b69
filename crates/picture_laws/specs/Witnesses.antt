-- The pictures of a chart and of its witness, side by side: both have the two events that are marked (this project's
-- profile).
use Rattle.std.specs.Prelude.{◌≡◌, ℕ, ◌==◌, Bool, true, false, List, ◌++◌, length, map, Option, None, Some}
use Rattle.std.specs.List.{list_any}
use Rattle.chart.specs.declared.instance.EventNo.{EventNo}
use Rattle.chart.specs.Charts.{IsChart, chart_lines}
use Rattle.cmd_base.specs.Columns.Columns.{only_of}
use Rattle.cmd_base.specs.Named.Asked.{instance_named}
use Rattle.cmd_base.specs.Pairs.Pairs.{IsPair}
use Rattle.cmd_base.specs.Texts.{named_of, IsSourceOf}
use Rattle.cmd_base.specs.declared.pairs.pair.Asked.{Asked}
use Rattle.cmd_base.specs.declared.pairs.pair.Pair.{Pair}
use Rattle.cmd_base.specs.declared.source.Source.{Source}
use Rattle.cmd_base.specs.declared.text.Text.TheVariants.{Schedule}
use Rattle.cmd_draw.specs.Witness.Beside.{corner, square, ring, group_start}
use Rattle.cmd_draw.specs.Witness.Counterparts.{counterpart}
use Rattle.cmd_draw.specs.Witness.Drawing.{ArePictured}
use Rattle.cmd_draw.specs.declared.witness.drawing.Wanted.{Wanted}
use Rattle.cmd_explain_race.specs.Finding.{origin_of}
use Rattle.cmd_explain_race.specs.Reordering.{IsWitness}
use Rattle.picture_parts.specs.declared.elements.spot.Spot.{Spot}
use Rattle.picture_parts.specs.Elements.Elements.{group_end}
use Rattle.pictures.specs.Pictures.{PictureView}
use Rattle.pictures.specs.PictureText.{picture_text}
use Rattle.schedule.specs.Plans.{Plan}
use Rattle.texts.specs.Lines.{parts}
use Rattle.picture_laws.specs.Places.{IsDrawn, IsPlaceOf, Has}

abbrev pub is_instance : ℕ → Option ℕ → Bool
is_instance p None = false
is_instance p (Some q) = q == p

-- the instance has a column: the bytes, names joined by commas (byte 44), name it; without bytes each instance has one
abbrev pub HasColumn : List (List ℕ) → Option (List ℕ) → ℕ → Type 0
HasColumn names None p = Unit {0}
HasColumn names (Some bytes) p = list_any (is_instance p) (map (instance_named names) (parts 44 bytes)) ≡ true

-- both events are drawn in the picture, which is x pixels further right. Around the place of the earlier one is a square,
-- and around that of the receive a ring
pub record IsMarked (x : ℕ) (v : PictureView) (earlier receive : EventNo) (text : List ℕ) : Type 0 where
  pub drawn_earlier : IsDrawn v earlier
  pub drawn_receive : IsDrawn v receive
  pub first : Spot
  pub second : Spot
  pub first_is : IsPlaceOf v earlier first
  pub second_is : IsPlaceOf v receive second
  pub has : Has text (group_start x ++ (picture_text v ++ (square (corner first) ++ (ring second ++ group_end))))

-- beside its witness, a chart's picture has the two events marked. The witness's picture has the events of the same
-- lanes and turns marked
pub record AreMarked (source other : Source) (pair : Pair) (left right : PictureView) (text : List ℕ) : Type 0 where
  pub here : IsMarked 0 left pair.earlier pair.receive text
  pub earlier : EventNo
  pub receive : EventNo
  pub earlier_is : counterpart (named_of source).1 (named_of other).1 pair.earlier ≡ Some earlier
  pub receive_is : counterpart (named_of source).1 (named_of other).1 pair.receive ≡ Some receive
  pub there : IsMarked left.width right earlier receive text

-- whatever witness is drawn beside the chart, if the instance of the two events has a column
abbrev pub WitnessLaw : Type 0
WitnessLaw = (asked : Asked) (wanted : Wanted) (source other : Source) (pair : Pair) (plan : Plan) (text : List ℕ)
    → IsChart (named_of source).1 → IsChart (named_of other).1 → length (named_of source).0 ≡ length (named_of source).1
    → IsPair (chart_lines (named_of source).1) pair → IsWitness (named_of source) (origin_of source) pair plan
    → IsSourceOf (Schedule plan) other → (are : ArePictured asked wanted source pair other text)
    → HasColumn (named_of source).0 (only_of wanted.only) pair.receive.instance
    → AreMarked source other pair are.here are.there text
