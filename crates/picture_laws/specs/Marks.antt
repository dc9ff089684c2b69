-- The marks of events in the text of a picture (SVG 1.1). The mark of an event is a group with its id, e, the number of
-- its instance, - and its own number. The group begins with a circle (this project's profile).
use Rattle.std.specs.Prelude.{◌≡◌, ℕ, suc, ◌^◌, ◌<◌, ◌==◌, ◌&&◌, Bool, true, false, List, [], ◌∷◌, ◌++◌, Some, codes, decimal, count_by}
use Rattle.std.specs.List.{list_all, flat_map}
use Rattle.chart.specs.declared.event.Event.{Event}
use Rattle.chart.specs.declared.instance.EventNo.{EventNo}
use Rattle.chart.specs.Charts.{Place, IsChart, chart_event, chart_lines}
use Rattle.chart.specs.Events.{name_of}
use Rattle.chart.specs.Names.{is_name_byte}
use Rattle.chart_layout.specs.declared.row.Row.{Row}
use Rattle.chart_layout.specs.declared.row.Row.TheVariants as variants
use Rattle.picture_parts.specs.Columns.Choices.{is_in_picture}
use Rattle.picture_parts.specs.declared.elements.spot.Spot.{Spot}
use Rattle.picture_parts.specs.Elements.Elements.{point_start}
use Rattle.pictures.specs.Pictures.{PictureView}
use Rattle.pictures.specs.PictureText.{picture_text}
use Rattle.pictures.specs.Preparing.{SourceView, PartView}
use Rattle.texts.specs.Instances.{name_at}
use Rattle.picture_laws.specs.Places.{IsOfChart, IsDrawn, IsPlaceOf}

-- the text begins with the word
abbrev pub begins : List ℕ → List ℕ → Bool
begins [] text = true
begins (b ∷ word) [] = false
begins (b ∷ word) (x ∷ text) = (x == b) && begins word text

abbrev pub and_one : Bool → ℕ → ℕ
and_one true n = suc n
and_one false n = n

-- how often the word stands in the text
abbrev pub times_in : List ℕ → List ℕ → ℕ
times_in word [] = 0
times_in word (x ∷ text) = and_one (begins word (x ∷ text)) (times_in word text)

-- the beginning of an event's mark: a group with its id
unfoldable pub tag : EventNo → List ℕ
tag e = codes "<g id='e" ++ (decimal e.instance ++ (codes "-" ++ (decimal e.index ++ codes "'>")))

-- the names of instances and messages have only letters, digits and _
pub record HasPlainNames (source : SourceView) : Type 0 where
  pub instances : (p : ℕ) → list_all is_name_byte (name_at source.names p) ≡ true
  pub messages : (e : Place) (m : Event) → chart_event (chart_lines source.lines) e ≡ Some m
      → list_all is_name_byte (name_of m) ≡ true

-- an event that is drawn has one mark, whose circle is at the event's place. Any other event has none
pub record HasItsMark (v : PictureView) (e : EventNo) : Type 0 where
  pub drawn : IsDrawn v e → (a : Spot) × IsPlaceOf v e a
      × (times_in (point_start e.instance e.index a) (picture_text v) ≡ 1) × (times_in (tag e) (picture_text v) ≡ 1)
  pub hidden : (IsDrawn v e → ⊥) → times_in (tag e) (picture_text v) ≡ 0

-- each event has its mark, once. Numbers of instances and events have 32 bits
abbrev pub MarkLaw : Type 0
MarkLaw = (source : SourceView) (part : PartView) (v : PictureView) → IsOfChart source part v → IsChart source.lines
    → HasPlainNames source → (e : EventNo) → e.instance < 2 ^ 32 → e.index < 2 ^ 32 → HasItsMark v e

abbrev pub events_in : Row → List EventNo
events_in (variants.Message send receive) = send ∷ receive ∷ []
events_in (variants.Event event) = event ∷ []

-- no other mark is there: as many marks as events of the chart's rows that are drawn
abbrev pub OnlyMarksLaw : Type 0
OnlyMarksLaw = (source : SourceView) (part : PartView) (v : PictureView) → IsOfChart source part v → HasPlainNames source
    → times_in (codes "<g id='e") (picture_text v) ≡ count_by (is_in_picture v.choice) (flat_map events_in source.rows)
