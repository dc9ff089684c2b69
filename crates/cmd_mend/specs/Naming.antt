-- What the new message is called (this project's profile).
use Rattle.std.specs.Prelude.{◌≡◌, ℕ, false, List, Option, None, Some, Ok}
use Rattle.chart.specs.Charts.{LineView}
use Rattle.diagram_labels.specs.Giving.{is_given}
use Rattle.repair.specs.Naming.{message_names, IsNewName}
use Rattle.texts.specs.Lines.{name_or_cause}

-- the name that is asked for, which no message has; or the first of ack, ack_2, .. that none has
abbrev pub IsMessageName : List LineView → Option (List ℕ) → List ℕ → Type 0
IsMessageName lines None name = IsNewName lines name
IsMessageName lines (Some bytes) name =
    (name_or_cause bytes ≡ Ok name) × (is_given (message_names lines) name ≡ false)
