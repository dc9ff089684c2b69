-- What was changed for the chart of a log: which messages are lost or overtake, which sends are invented, and which
-- receives are freed.
use Rattle.std.specs.Prelude.{ℕ, zero, suc, ◌+◌, ◌==◌, Bool, true, false, List, [], ◌∷◌, ◌++◌, Option, None, Some, ◌&&◌, not, is_some, is_none, length, map, filter, if◌then◌else◌}
use Rattle.std.specs.List.{list_any}
use Rattle.chart.specs.declared.instance.EventNo.{EventNo}
use Rattle.log_chart.specs.declared.entry.Entry.{Entry}
use Rattle.log_chart.specs.declared.entry.Kind.{Kind}
use Rattle.log_chart.specs.declared.entry.Kind.TheVariants.{Send, Receive, Freed}
use Rattle.log_chart.specs.declared.entry.Place.{Place}
use Rattle.log_chart.specs.declared.fate.Fate.{Fate}
use Rattle.log_chart.specs.declared.fate.Fate.TheVariants.{Stays, Lost, Overtakes}
use Rattle.log_chart.specs.declared.item.Item.{Item}
use Rattle.log_chart.specs.declared.matching.LogLine.{LogLine}
use Rattle.log_chart.specs.Entries.{is_send}
use Rattle.log_chart.specs.declared.charts.listing.Overtaking.{Overtaking}

abbrev pub is_freed : Kind → Bool
is_freed Send = false
is_freed Receive = false
is_freed Freed = true

-- the places of freed receives
abbrev pub freed_places : List Entry → List Place
freed_places log = map (λ e. e.place) (filter (λ e. is_freed e.kind) log)

abbrev pub is_lost : Fate → Bool
is_lost Stays = false
is_lost Lost = true
is_lost (Overtakes s) = false

-- one of these lines takes a send
abbrev pub has_taken : List LogLine → Bool
has_taken lines = list_any (λ x. is_some x.send) lines

-- some receive is freed
abbrev pub has_freed : List Entry → Bool
has_freed log = list_any (λ e. is_freed e.kind) log

-- the log has events, none of its lines takes a send, and no receive is freed: it has one end of each message
abbrev pub is_one_ended : List LogLine → List Entry → Bool
is_one_ended lines log = if length log == 0 then false else not (has_taken lines) && not (has_freed log)

-- the places of those of these lines that are lost
unfoldable pub lost_of : List LogLine → List Fate → List Place
lost_of [] fates = []
lost_of (x ∷ lines) [] = []
lost_of (x ∷ lines) (f ∷ fates) = if is_lost f then x.entry.place ∷ lost_of lines fates else lost_of lines fates

-- the place of the line with this number
abbrev pub place_at : List Entry → ℕ → Option Place
place_at [] n = None
place_at (e ∷ log) zero = Some e.place
place_at (e ∷ log) (suc n) = place_at log n

-- a send whose message overtakes, and the send that it overtakes
abbrev pub overtaking_of : List Entry → LogLine → Fate → List Overtaking
overtaking_of log x Stays = []
overtaking_of log x Lost = []
overtaking_of log x (Overtakes s) = listed (is_send x.entry.kind) (place_at log s)
  where
    listed : Bool → Option Place → List Overtaking
    listed true (Some place) = record { line = x.entry.place; overtaken = place } ∷ []
    listed true None = []
    listed false place = []

unfoldable pub overtakings_of : List Entry → List LogLine → List Fate → List Overtaking
overtakings_of log [] fates = []
overtakings_of log (x ∷ lines) [] = []
overtakings_of log (x ∷ lines) (f ∷ fates) = overtaking_of log x f ++ overtakings_of log lines fates

-- the invented sends of p's line, whose first event here has this number
unfoldable pub invented_from : ℕ → ℕ → List Item → List EventNo
invented_from p n [] = []
invented_from p n (i ∷ items) =
    (if is_none i.line then record { instance = p; index = n } ∷ [] else []) ++ invented_from p (n + 1) items

-- those of all lines, the first of which is p's
unfoldable pub all_invented : ℕ → List (List Item) → List EventNo
all_invented p [] = []
all_invented p (items ∷ lines) = invented_from p 1 items ++ all_invented (suc p) lines
