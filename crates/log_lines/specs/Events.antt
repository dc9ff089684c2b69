-- Messages in a log (after the convention of ShiViz: each event of a host is a line, in their order).
use Rattle.std.specs.Prelude.{ℕ, List, Option, option_map}
use Rattle.log_lines.specs.declared.event.Act.{Act}
use Rattle.log_lines.specs.declared.event.Act.TheVariants.{Receive}
use Rattle.log_lines.specs.declared.event.Clocked.{Clocked}
use Rattle.log_lines.specs.declared.event.ClockedAt.{ClockedAt}
use Rattle.log_lines.specs.declared.event.Event.{Event}
use Rattle.log_lines.specs.declared.event.LineSays.{LineSays}
use Rattle.log_lines.specs.declared.event.LineSays.TheVariants as says
use Rattle.log_lines.specs.declared.event.Place.{Place}
use Rattle.log_lines.specs.declared.event.LoggedEvent.{LoggedEvent}

-- the action of a host on a message, in words of the log
pub record EventView : Type 0 where
  pub host : List ℕ
  pub act : Act
  pub peer : List ℕ
  pub name : List ℕ
  pub id : Option (List ℕ)

abbrev pub event_view : Event → EventView
event_view e = record { host = e.host.now; act = e.act; peer = e.peer.now; name = e.name.now; id = option_map (λ w. w.now) e.id }

-- an event, and its place in the log
pub record LoggedEventView : Type 0 where
  pub event : EventView
  pub place : Place

abbrev pub logged_event_view : LoggedEvent → LoggedEventView
logged_event_view s = record { event = event_view s.event; place = s.place }

-- an event of a host with its vector time, in words of the log
pub record ClockedView : Type 0 where
  pub host : List ℕ
  pub clock : List ℕ
  pub event : List ℕ

abbrev pub clocked_view : Clocked → ClockedView
clocked_view c = record { host = c.host.now; clock = c.clock.now; event = c.event.now }

-- the same, with its place in the log
pub record ClockedAtView : Type 0 where
  pub clocked : ClockedView
  pub place : Place

abbrev pub clocked_at_view : ClockedAt → ClockedAtView
clocked_at_view c = record { clocked = clocked_view c.clocked; place = c.place }

-- the meaning of a line: an event; an event with its vector time; a message's send, together with its receive; nothing,
-- if the line is ignored; or a line that isn't read
pub data LineView : Type 0 where
  AnEvent : EventView → LineView
  AClocked : ClockedView → LineView
  AMessage : EventView → LineView
  Nothing : LineView
  Other : LineView

abbrev pub line_view : LineSays → LineView
line_view (says.Event e) = AnEvent (event_view e)
line_view (says.Clocked c) = AClocked (clocked_view c)
line_view (says.Message e) = AMessage (event_view e)
line_view says.Nothing = Nothing
line_view says.Other = Other

-- the receive of a message, by its send
abbrev pub received : EventView → EventView
received e = record { host = e.peer; act = Receive; peer = e.host; name = e.name; id = e.id }
