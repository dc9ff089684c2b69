-- A race line that is kept for all events whose numbers differ from its event's only in the last digit.
use Rattle.std.specs.Prelude.{◌≡◌, ◌+◌, ◌/◌, ◌^◌, ◌<◌, ◌≤◌, ◌⊎◌, length, decimal}
use Rattle.chart.specs.Words.{Text}
use Rattle.chart.specs.declared.instance.EventNo.{EventNo}
use Rattle.msc_text.specs.RaceText.{race_line}
use Rattle.texts.specs.declared.held.TheConstants.{BUFFERED}
use Rattle.msc_text.specs.declared.race_text.TheConstants.{NO_TENS}
use Rattle.msc_text.specs.declared.race_text.MadeLine.{MadeLine}

-- it is the line of an event, and the last digit of the event's number is at its place
pub record IsLineOf (front end : Text) (made : MadeLine) : Type 0 where
  pub event : EventNo
  pub small : event.index < 2 ^ 32
  pub begins : made.tens ≡ event.index / 10
  pub spelled : made.line ≡ race_line front end event
  pub place : made.place + 1 ≡ length front + length (decimal event.index)
  pub within : made.place < length made.line
  pub short : length made.line ≤ BUFFERED

-- no line is made, or it is the line of an event
abbrev pub IsMade : Text → Text → MadeLine → Type 0
IsMade front end made = (made.tens ≡ NO_TENS) ⊎ IsLineOf front end made
