-- The messages that follow from clocks (Fidge 1988, Mattern 1989): from an event to one whose clock has it.
use Rattle.std.specs.Prelude.{◌≡◌, ◌≢◌, ◌<◌, ◌≤◌, List, Some, All, Contains}
use Rattle.log_lines.specs.Events.{EventView, LoggedEventView, received}
use Rattle.log_lines.specs.Reading.{ReadView}
use Rattle.log_lines.specs.declared.event.Act.TheVariants.{Send, Receive}
use Rattle.log_lines.specs.declared.event.Place.{Place}
use Rattle.log_formats.specs.Clocks.Moments.{MomentView}
use Rattle.log_formats.specs.Clocks.Saying.{moments_in}
use Rattle.log_formats.specs.Clocks.Stamps.{StampView}

-- a clock has an event: its entry of the event's host counts this event, or a later one
pub record HasEvent (clock : List StampView) (e : MomentView) : Type 0 where
  pub entry : StampView
  pub among : Contains clock entry
  pub host : entry.host ≡ e.clocked.host
  pub count : e.own ≤ entry.count

-- a message goes from an event to one of another host, whose clock has it
pub record IsMessage (events : List MomentView) (from to : MomentView) : Type 0 where
  pub sends : Contains events from
  pub receives : Contains events to
  pub counted : 0 < from.own
  pub apart : from.clocked.host ≢ to.clocked.host
  pub known : HasEvent to.stamps from

-- the send of the message has the text and the clock of the event that sends it, and so has its receive
abbrev pub message_send : MomentView → MomentView → EventView
message_send from to = record { host = from.clocked.host; act = Send; peer = to.clocked.host; name = from.clocked.event; id = Some from.clocked.clock }

-- an entry of an event's clock counts an event of another host that the log lacks
pub record IsBegun (events : List MomentView) (s : StampView) (to : MomentView) : Type 0 where
  pub receives : Contains events to
  pub among : Contains to.stamps s
  pub counted : 0 < s.count
  pub apart : s.host ≢ to.clocked.host
  pub lacking : (e : MomentView) → Contains events e → e.clocked.host ≡ s.host → e.own ≢ s.count

-- the receive of a message whose send the log lacks has the text and the clock of its own event
abbrev pub begun_receive : StampView → MomentView → EventView
begun_receive s to = record { host = to.clocked.host; act = Receive; peer = s.host; name = to.clocked.event; id = Some to.clocked.clock }

abbrev pub logged_at : Place → EventView → LoggedEventView
logged_at place e = record { event = e; place = place }

-- why an event is read: a line without vector time gives it, or the words of an event do, or clocks do
pub data HasReason : List LoggedEventView → List MomentView → LoggedEventView → Type 0 where
  of_line : {logged : List LoggedEventView} {events : List MomentView} {x : LoggedEventView} → Contains logged x → HasReason logged events x
  of_words : {logged : List LoggedEventView} {events : List MomentView} {x : LoggedEventView} (e : MomentView) → Contains events e → Contains e.worded.logged x → HasReason logged events x
  of_send : {logged : List LoggedEventView} {events : List MomentView} {x : LoggedEventView} (from to : MomentView) → IsMessage events from to
      → x ≡ logged_at from.place (message_send from to) → HasReason logged events x
  of_receive : {logged : List LoggedEventView} {events : List MomentView} {x : LoggedEventView} (from to : MomentView) → IsMessage events from to
      → x ≡ logged_at to.place (received (message_send from to)) → HasReason logged events x
  of_begun : {logged : List LoggedEventView} {events : List MomentView} {x : LoggedEventView} (s : StampView) (to : MomentView) → IsBegun events s to
      → x ≡ logged_at to.place (begun_receive s to) → HasReason logged events x

-- all that is read has a reason
pub record HaveReasons (log read : ReadView) : Type 0 where
  pub each : All (HasReason log.logged (moments_in log)) read.logged
