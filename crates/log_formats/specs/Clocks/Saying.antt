-- What events with vector time give, by their words or by their clocks.
use Rattle.std.specs.Prelude.{ℕ, ◌+◌, Bool, List, [], ◌∷◌, ◌++◌, Option, None, Some, is_some, slice_get, if◌then◌else◌}
use Rattle.log_lines.specs.Events.{ClockedView, EventView, AnEvent, Other}
use Rattle.log_lines.specs.Reading.{ReadView, with_line}
use Rattle.log_lines.specs.declared.event.Act.TheVariants.{Send, Receive}
use Rattle.log_formats.specs.Clocks.Ends.{ends_at}
use Rattle.log_formats.specs.Clocks.Hearing.{HeardView, all_heard}
use Rattle.log_formats.specs.Clocks.Moments.{MomentView, is_by_clock, any_by_clock, with_moments}
use Rattle.log_formats.specs.declared.clocks.ends.End.TheVariants as ends

abbrev pub clocked_at : ClockedView → Option MomentView → ClockedView
clocked_at own None = own
clocked_at own (Some m) = m.clocked

abbrev pub sent_at : List MomentView → ClockedView → Option ℕ → ClockedView
sent_at moments own None = own
sent_at moments own (Some place) = clocked_at own (slice_get moments place)

-- the receive for a heard entry: its name is the text of the send, and its id the clock of the send; if the log lacks
-- the send, they are its own
abbrev pub receive_of : List MomentView → MomentView → HeardView → EventView
receive_of moments m h = record {
  host = m.clocked.host;
  act = Receive;
  peer = h.stamp.host;
  name = (sent_at moments m.clocked h.source).event;
  id = Some (sent_at moments m.clocked h.source).clock;
}

-- the send for an entry that another host has heard
abbrev pub send_of : MomentView → HeardView → EventView
send_of m h = record { host = m.clocked.host; act = Send; peer = h.host; name = m.clocked.event; id = Some m.clocked.clock }

-- what was read so far, with the receives for the entries that an event has heard
abbrev pub with_receives : List MomentView → MomentView → List HeardView → ReadView → ReadView
with_receives moments m [] r = r
with_receives moments m (h ∷ heard) r = with_receives moments m heard (with_line m.place (AnEvent (receive_of moments m h)) r)

-- what was read so far, with the sends for the entries by which hosts have heard of an event
abbrev pub with_sends : MomentView → List HeardView → ReadView → ReadView
with_sends m [] r = r
with_sends m (h ∷ heard) r = with_sends m heard (with_line m.place (AnEvent (send_of m h)) r)

-- with what an event's words give, or with a line that isn't read
abbrev pub with_worded : MomentView → ReadView → ReadView
with_worded m r = if is_some m.worded.others then with_line m.place Other r else record r { logged = r.logged ++ m.worded.logged }

-- with what an event gives: its receives, for what it has heard, and then its sends, for what others have heard
abbrev pub with_ends : List MomentView → MomentView → List HeardView → List HeardView → ReadView → ReadView
with_ends moments m received sent r = if is_by_clock m then with_sends m sent (with_receives moments m received r) else with_worded m r

-- with what the event at this place gives, in the order in which hosts have heard
abbrev pub with_moment : List MomentView → List HeardView → ℕ → MomentView → ReadView → ReadView
with_moment moments all at m r = with_ends moments m (ends_at ends.Receive at all) (ends_at ends.Send at all) r

-- with what these events give, the first of which has this place
abbrev pub with_all_moments : List MomentView → List HeardView → ℕ → List MomentView → ReadView → ReadView
with_all_moments moments all at [] r = r
with_all_moments moments all at (m ∷ rest) r = with_all_moments moments all (at + 1) rest (with_moment moments all at m r)

-- the events of a log with vector time
abbrev pub moments_in : ReadView → List MomentView
moments_in r = with_moments [] r.clocked

-- what is read of a log with vector time
unfoldable pub by_clocks : ReadView → ReadView
by_clocks r =
    with_all_moments (moments_in r) (all_heard (moments_in r)) 0 (moments_in r) (record { logged = r.logged; clocked = []; others = r.others })

-- clocks decide about some event
unfoldable pub is_timed : ReadView → Bool
is_timed r = any_by_clock (moments_in r)
