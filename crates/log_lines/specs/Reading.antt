-- The result of reading a log: its events, in the order of the lines, and how many lines aren't read.
use Rattle.std.specs.Prelude.{ℕ, ◌+◌, ◌-◌, ◌^◌, min, ◌&&◌, Bool, nat_le, List, [], ◌∷◌, ◌++◌, Option, None, Some, map, if◌then◌else◌}
use Rattle.texts.specs.Lines.{lines_of, end_of}
use Rattle.log_lines.specs.Events.{LoggedEventView, logged_event_view, ClockedAtView, clocked_at_view, LineView, AnEvent, AClocked, AMessage, Nothing, Other, received}
use Rattle.log_lines.specs.Places.{earlier}
use Rattle.log_lines.specs.declared.event.Place.{Place}
use Rattle.log_lines.specs.declared.range.LineRange.{LineRange}
use Rattle.log_lines.specs.declared.read.Others.{Others}
use Rattle.log_lines.specs.declared.read.Read.{Read}

pub record ReadView : Type 0 where
  pub logged : List LoggedEventView
  pub clocked : List ClockedAtView
  pub others : Option Others

abbrev pub read_view : Read → ReadView
read_view r = record { logged = map logged_event_view r.logged.items; clocked = map clocked_at_view r.clocked.items; others = r.others }

abbrev pub nothing_read : ReadView
nothing_read = record { logged = []; clocked = []; others = None }

-- with one more line that isn't read: the earlier place is kept, and the count stops at u64::MAX
abbrev pub with_other : Place → Option Others → Others
with_other place None = record { count = 1; first = place }
with_other place (Some o) = record { count = min (o.count + 1) (2 ^ 64 - 1); first = earlier o.first place }

-- the result, with the meaning of the line at this place added
abbrev pub with_line : Place → LineView → ReadView → ReadView
with_line place (AnEvent e) r = record r { logged = r.logged ++ record { event = e; place = place } ∷ [] }
with_line place (AClocked c) r = record r { clocked = r.clocked ++ record { clocked = c; place = place } ∷ [] }
with_line place (AMessage e) r =
    record r { logged = r.logged ++ record { event = e; place = place } ∷ [] ++ record { event = received e; place = place } ∷ [] }
with_line place Nothing r = r
with_line place Other r = record r { others = Some (with_other place r.others) }

-- the lines of a text, including the one after the last line feed
abbrev pub all_lines : List ℕ → List (List ℕ)
all_lines text = lines_of text ++ end_of text ∷ []

-- the line with this number is in the range
abbrev pub is_within : LineRange → ℕ → Bool
is_within range n = nat_le range.first n && nat_le n range.last

-- the result, with the meanings of these lines of a text added; the first line has number n
abbrev pub with_lines : (List ℕ → LineView) → LineRange → ℕ → ℕ → List (List ℕ) → ReadView → ReadView
with_lines says range text n [] r = r
with_lines says range text n (line ∷ lines) r =
    with_lines says range text (n + 1) lines
    (if is_within range n then with_line (record { text = text; line = n }) (says line) r else r)

-- the same for these texts, the first of which has number n
abbrev pub with_texts : (List ℕ → LineView) → LineRange → ℕ → List (List ℕ) → ReadView → ReadView
with_texts says range n [] r = r
with_texts says range n (text ∷ texts) r = with_texts says range (n + 1) texts (with_lines says range n 1 (all_lines text) r)
