-- Remarks and messages in the order of their lines.
use Rattle.std.specs.Prelude.{ℕ, Bool, false, List, ◌++◌, map, Option, None, Some, option_map}
use Rattle.diagrams.specs.declared.message.Message.{Message}
use Rattle.chart.specs.StableOrder.Order.{in_order_by}
use Rattle.diagram_import.specs.Margin.Remarks.{RemarkView}
use Rattle.diagram_import.specs.declared.margin.order.Thing.{Thing}

-- a remark with its line and words, or a message with its line and no words
pub record ThingView : Type 0 where
  pub line : ℕ
  pub words : Option (List ℕ)
  pub divides : Bool

abbrev pub thing_view : Thing → ThingView
thing_view t = record { line = t.line; words = option_map (λ words. words.now) t.words; divides = t.divides }

abbrev pub remark_thing : RemarkView → ThingView
remark_thing r = record { line = r.line; words = Some r.text; divides = r.divides }

abbrev pub message_thing : Message → ThingView
message_thing m = record { line = m.place.line; words = None; divides = false }

-- remarks and messages by their lines, those of one line in the given order
abbrev pub in_order : List ThingView → List ThingView
in_order things = in_order_by (λ (t : ThingView). t.line) things

-- remarks and messages by their lines, in one line remarks first
unfoldable pub things_of : List RemarkView → List Message → List ThingView
things_of remarks messages = in_order (map remark_thing remarks ++ map message_thing messages)
