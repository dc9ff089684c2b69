-- Notes in the words of our own exports (this project's profile): `out MESSAGE to NAME` is a send of the note's
-- participant, and `in MESSAGE from NAME` a receive.
use Rattle.std.specs.Prelude.{◌≡◌, ℕ, ◌+◌, Bool, true, false, ◌==◌, ◌&&◌, List, Option, None, Some, Result, Ok, Err, take, drop, codes, position, bytes_eq, option_and_then, if◌then◌else◌}
use Rattle.chart.specs.Names.{name_of, instance_of}
use Rattle.chart.specs.declared.name.NameError.{NameError}
use Rattle.diagrams.specs.declared.note_event.NoteEvent.{NoteEvent}

-- the bytes before the first blank, and those after it
abbrev pub cut_at : List ℕ → Option ℕ → Option (List ℕ × List ℕ)
cut_at text None = None
cut_at text (Some place) = Some (take place text, drop (place + 1) text)

unfoldable pub cut : List ℕ → Option (List ℕ × List ℕ)
cut text = cut_at text (position (λ b. b == 32) text)

-- a send or a receive, with the words for its message and for its partner
pub record EventWordsView : Type 0 where
  pub sends : Bool
  pub message : List ℕ
  pub partner : List ℕ

-- whether the words mean a send, if they mean an event
unfoldable pub direction : List ℕ → List ℕ → Option Bool
direction word preposition =
    if bytes_eq word (codes "out") && bytes_eq preposition (codes "to") then Some true
    else (if bytes_eq word (codes "in") && bytes_eq preposition (codes "from") then Some false else None)

-- the words of an event
abbrev pub words_with : List ℕ → List ℕ → List ℕ × List ℕ → Option EventWordsView
words_with word message rest =
    option_and_then (λ sends. Some (record { sends = sends; message = message; partner = rest.1 })) (direction word rest.0)

unfoldable pub words_in : List ℕ → Option EventWordsView
words_in text =
    option_and_then (λ first. option_and_then (λ second. option_and_then (λ third. words_with first.0 second.0 third) (cut second.1)) (cut first.1)) (cut text)

-- the instance with this name, if the bytes are a name
abbrev pub known : List (List ℕ) → Result (List ℕ) NameError → Option ℕ
known names (Ok name) = instance_of names name
known names (Err e) = None

unfoldable pub partner_in : List (List ℕ) → List ℕ → Option ℕ
partner_in names word = known names (name_of word)

-- the event with this message and this partner, unless the partner is the participant itself
abbrev pub event_with : Bool → ℕ → Result (List ℕ) NameError → Option ℕ → Option NoteEvent
event_with sends own (Err e) partner = None
event_with sends own (Ok name) None = None
event_with sends own (Ok name) (Some partner) = if partner == own then None else Some (record { sends = sends; partner = partner; name = name })

-- the event that a note at an instance states, if it states one
unfoldable pub note_event : List (List ℕ) → ℕ → List ℕ → Option NoteEvent
note_event names own text =
    option_and_then (λ words. event_with words.sends own (name_of words.message) (partner_in names words.partner)) (words_in text)

-- the found value, seen through view
abbrev pub Finds : {X Y : Type 0} → (X → Y) → Option X → Option Y → Type 0
Finds view None found = found ≡ None
Finds view (Some x) found = found ≡ Some (view x)
