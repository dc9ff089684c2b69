-- What a new message is called (this project's profile).
use Rattle.std.specs.Prelude.{◌≡◌, ℕ, List, ◌++◌, map, codes}
use Rattle.std.specs.List.{flat_map}
use Rattle.chart.specs.declared.event.Event.{Event}
use Rattle.chart.specs.Events.{name_of}
use Rattle.chart.specs.Charts.{LineView}
use Rattle.diagram_labels.specs.Giving.{IsCalled, is_given}

-- the names of the messages of some lines
abbrev pub message_names : List LineView → List (List ℕ)
message_names lines = flat_map (λ l. map name_of l.events) lines

-- and those of more events
abbrev pub have_more : List (List ℕ) → List Event → List (List ℕ)
have_more all events = all ++ map name_of events

-- these are the names that those are, whatever their order, and each once or more often
abbrev pub HaveNames : List (List ℕ) → List (List ℕ) → Type 0
HaveNames names all = (x : List ℕ) → is_given names x ≡ is_given all x

-- the first of ack, ack_2, .. that no message of the lines has
abbrev pub IsNewName : List LineView → List ℕ → Type 0
IsNewName lines name = IsCalled (message_names lines) (codes "ack") name
