-- The lookup of an instance by its name and of an event by its number.
use Rattle.std.specs.Prelude.{ℕ, Bool, ◌&&◌, nat_le, List, length, Option, None, Result, Ok, Err}
use Rattle.chart.specs.declared.event.Event.{Event}
use Rattle.chart.specs.Names.{instance_of}
use Rattle.texts.specs.Lines.{name_or_cause}
use Rattle.texts.specs.declared.fault.Cause.{Cause}

-- the instance with the name, if the word was read as one
abbrev pub named_so : List (List ℕ) → Result (List ℕ) Cause → Option ℕ
named_so names (Ok name) = instance_of names name
named_so names (Err cause) = None

-- the instance that has these bytes as its name
abbrev pub instance_named : List (List ℕ) → List ℕ → Option ℕ
instance_named names word = named_so names (name_or_cause word)

-- the line has an event of this number
abbrev pub has_event : List Event → ℕ → Bool
has_event events n = nat_le 1 n && nat_le n (length events)
