-- The line of an event whose partner is a known instance.
use Rattle.std.specs.Prelude.{◌≡◌, ℕ, List, [], ◌∷◌, Ok}
use Rattle.std.specs.List.{join_with_byte}
use Rattle.chart.specs.Events.{partner_of}
use Rattle.chart.specs.Keywords.{spelled}
use Rattle.chart.specs.declared.event.Event.{Event}
use Rattle.chart.specs.declared.event.Event.TheVariants as line_events
use Rattle.chart.specs.declared.keyword.Keyword.{Keyword}
use Rattle.texts.specs.Instances.{name_at, known_of}
use Rattle.texts.specs.Lines.{name_or_cause}
use Rattle.msc_text.specs.Reader.LastWords.{semi}
use Rattle.msc_text.specs.Reader.Steps.{step_of}
use Rattle.msc_text.specs.declared.reader.state.State.{State}
use Rattle.msc_text.specs.declared.reader.state.Saying.{Saying}
use Rattle.msc_text.specs.declared.reader.state.Saying.TheVariants.{Send, Receive}

-- the four words of an event's line, with a space between them
abbrev pub event_words : Keyword → List ℕ → Keyword → List ℕ → List ℕ
event_words way message side partner =
    join_with_byte 32 (spelled way ∷ message ∷ spelled side ∷ semi partner ∷ [])

-- two words are the names of an event of the instance own: of a message, and of another instance, which has this number
pub record AreFound (names : List (List ℕ)) (own message partner : List ℕ) (number : ℕ) (name : List ℕ) : Type 0 where
  pub message_named : name_or_cause message ≡ Ok name
  pub partner_named : name_or_cause partner ≡ Ok partner
  pub partner_known : known_of names partner ≡ Ok number
  pub other : (own ≡ partner) → ⊥

-- what the line of an event means
abbrev pub saying_of : List (List ℕ) → Event → Saying
saying_of names (line_events.Send to name) = Send (name_at names to) name
saying_of names (line_events.Receive from name region) = Receive (name_at names from) name

-- a receive is in the open coregion
abbrev pub IsInOpen : ℕ → Event → Type 0
IsInOpen open_region (line_events.Send to name) = Unit {0}
IsInOpen open_region (line_events.Receive from name region) = region ≡ open_region

-- the line describes the event, whose partner is one of these instances
pub record IsEventLine (names : List (List ℕ)) (open_region : ℕ) (state : State) (line : List ℕ) (m : Event) (next : State) : Type 0 where
  pub step : step_of state line ≡ Ok (saying_of names m, next)
  pub known : known_of names (name_at names (partner_of m)) ≡ Ok (partner_of m)
  pub within : IsInOpen open_region m
