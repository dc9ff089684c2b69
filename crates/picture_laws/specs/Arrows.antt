-- The arrows of messages in a picture (ITU-T Z.120: a message is an arrow from its output to its input event).
use Rattle.std.specs.Prelude.{ℕ, Bool, ◌++◌}
use Rattle.chart.specs.declared.instance.EventNo.{EventNo}
use Rattle.chart.specs.Charts.{BelongsTo, chart_lines}
use Rattle.closure.specs.Faults.{place_of}
use Rattle.picture_parts.specs.declared.elements.spot.Spot.{Spot}
use Rattle.picture_parts.specs.Elements.Elements.{arrow, label, point_start}
use Rattle.pictures.specs.Pictures.{PictureView}
use Rattle.pictures.specs.PictureText.{picture_text}
use Rattle.pictures.specs.Preparing.{SourceView, PartView}
use Rattle.pictures.specs.RowText.{message_name}
use Rattle.picture_laws.specs.Places.{IsOfChart, IsDrawn, IsPlaceOf, Has}

-- an arrow leads from the place of s to the place of r. After it come the name of the message, at the height of s, and
-- the mark of s
pub record HasArrow (v : PictureView) (s r : EventNo) : Type 0 where
  pub start : Spot
  pub tip : Spot
  pub start_is : IsPlaceOf v s start
  pub tip_is : IsPlaceOf v r tip
  pub near : Bool
  pub middle : ℕ
  pub has : Has (picture_text v)
      (arrow start tip ++ (label near (message_name v s) middle start.y ++ point_start s.instance s.index start))

-- each message of which both ends are drawn has its arrow
abbrev pub ArrowLaw : Type 0
ArrowLaw = (source : SourceView) (part : PartView) (v : PictureView) → IsOfChart source part v → (s r : EventNo)
    → BelongsTo (chart_lines source.lines) (place_of s) (place_of r) → IsDrawn v s → IsDrawn v r → HasArrow v s r
