-- Events with their vector time.
use Rattle.std.specs.Prelude.{ℕ, ◌+◌, ◌&&◌, Bool, true, false, nat_lt, List, [], ◌∷◌, ◌++◌, map, Option, None, Some, is_some, bytes_eq, if◌then◌else◌}
use Rattle.log_lines.specs.ByWords.{by_words}
use Rattle.log_lines.specs.Events.{ClockedView, clocked_view, ClockedAtView}
use Rattle.log_lines.specs.Reading.{ReadView, read_view}
use Rattle.log_lines.specs.declared.event.Place.{Place}
use Rattle.log_formats.specs.Clocks.Stamps.{StampView, stamp_view, same_stamp, stamps_in, count_of}
use Rattle.log_formats.specs.declared.clocks.moment.Moment.{Moment}

-- an event, what its words alone give, the entries of its clock, and its number among the events of its host; its clock
-- gives this number, from 1, or it is 0
pub record MomentView : Type 0 where
  pub clocked : ClockedView
  pub place : Place
  pub worded : ReadView
  pub stamps : List StampView
  pub own : ℕ

abbrev pub moment_view : Moment → MomentView
moment_view m = record {
  clocked = clocked_view m.clocked;
  place = m.place;
  worded = read_view m.worded;
  stamps = map stamp_view m.stamps.items;
  own = m.own;
}

-- what an event's words give
abbrev pub worded : ClockedAtView → ReadView
worded c = by_words (record { logged = []; clocked = c ∷ []; others = None })

abbrev pub moment_of : ClockedAtView → MomentView
moment_of c = record {
  clocked = c.clocked;
  place = c.place;
  worded = worded c;
  stamps = stamps_in c.clocked.clock;
  own = count_of (stamps_in c.clocked.clock) c.clocked.host;
}

-- the moments, with those of these events
abbrev pub with_moments : List MomentView → List ClockedAtView → List MomentView
with_moments moments [] = moments
with_moments moments (c ∷ events) = with_moments (moments ++ moment_of c ∷ []) events

-- it isn't read by its words, and its clock gives its number
abbrev pub is_by_clock : MomentView → Bool
is_by_clock m = is_some m.worded.others && nat_lt 0 m.own

-- it is this host's, and its clock gives its number
abbrev pub is_of : List ℕ → MomentView → Bool
is_of host m = nat_lt 0 m.own && bytes_eq m.clocked.host host

-- the clock of the last of these events that is this host's
abbrev pub last_stamps : List StampView → List ℕ → List MomentView → List StampView
last_stamps so_far host [] = so_far
last_stamps so_far host (m ∷ moments) = last_stamps (if is_of host m then m.stamps else so_far) host moments

-- an event's own entry: its host, and its number among the events of this host
abbrev pub own_stamp : MomentView → StampView
own_stamp m = record { host = m.clocked.host; count = m.own }

-- the event has this entry as its own
abbrev pub is_at : StampView → MomentView → Bool
is_at s m = same_stamp (own_stamp m) s

-- the place of the first event that has it, if the first of these has the place n
abbrev pub place_from : ℕ → StampView → List MomentView → Option ℕ
place_from n s [] = None
place_from n s (m ∷ moments) = if is_at s m then Some n else place_from (n + 1) s moments

-- clocks decide about one of them
abbrev pub any_by_clock : List MomentView → Bool
any_by_clock [] = false
any_by_clock (m ∷ moments) = if is_by_clock m then true else any_by_clock moments
