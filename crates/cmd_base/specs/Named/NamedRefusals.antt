-- The line of a refusal that names an instance (this project's own).
use Rattle.std.specs.Prelude.{ℕ, List, length, ◌++◌, Option, None, Some, codes}
use Rattle.chart.specs.declared.event.Event.{Event as ChartEvent}
use Rattle.cmd_base.specs.Refusals.{start_text, number_detail, end_text, labelled_text}
use Rattle.texts.specs.Instances.{name_at}
use Rattle.cmd_base.specs.declared.named.missing.Missing.{Missing}
use Rattle.cmd_base.specs.declared.named.missing.Missing.TheVariants.{Instance, Event}

-- a name after a space
unfoldable pub name_detail : List ℕ → List ℕ
name_detail name = codes " " ++ name

-- a refusal's number and name, then an instance's name, then a number, if there is one
unfoldable pub named_text : List ℕ → List ℕ → Option ℕ → List ℕ
named_text label name number = start_text ++ (label ++ (name_detail name ++ (number_detail number ++ end_text)))

-- the missing event of p's line: p's name, and how many events the line has
abbrev pub missing_on : List (List ℕ) → ℕ → List ChartEvent → Missing
missing_on names p events = Event (name_at names p) (length events)

unfoldable pub missing_label : List ℕ
missing_label = codes "F31 NoSuchEvent"

-- the line that refuses an event that doesn't exist
abbrev pub missing_text : Missing → List ℕ
missing_text Instance = labelled_text missing_label None
missing_text (Event instance events) = named_text missing_label instance (Some events)
