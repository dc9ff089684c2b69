-- Lines and charts with an event or a message more, as the code holds them (this project's profile).
use Rattle.std.specs.Prelude.{◌≡◌, ◌≢◌, ℕ, ◌+◌, ◌<◌, ◌≤◌, ◌==◌, false, List, length, Some, slice_get, if◌then◌else◌}
use Rattle.std.specs.List.{insert}
use Rattle.chart.specs.declared.event.Event.{Event}
use Rattle.chart.specs.declared.line.TheConstants.{MAX_EVENTS}
use Rattle.chart.specs.Events.{ith, is_in, partner_of, region_of, send_event, receive_event}
use Rattle.chart.specs.Charts.{LineView}
use Rattle.repair.specs.Messages.{NewMessage}
use Rattle.repair.specs.declared.message.Message.{Message}

-- the message, received outside of all coregions
abbrev pub message_of : Message → NewMessage
message_of m = record {
  sender = m.sender;
  sent = m.sent;
  receiver = m.receiver;
  received = m.received;
  name = m.name;
  region = 0;
}

-- the line with the message's send, or with its receive
abbrev pub line_with : NewMessage → LineView → LineView
line_with m l = record l {
  events = if l.instance == m.sender then insert l.events m.sent (send_event m.receiver m.name)
      else (if l.instance == m.receiver then insert l.events m.received (receive_event m.sender m.name m.region)
      else l.events);
}

-- the line has room for the event, which is of another instance and in no coregion, and it may stand behind the first k
-- ones: they don't end within a coregion
pub record CanInsert (l : LineView) (k : ℕ) (m : Event) : Type 0 where
  pub within : k ≤ length l.events
  pub room : length l.events < MAX_EVENTS
  pub partner : partner_of m ≢ l.instance
  pub outside : region_of m ≡ 0
  pub uncut : (x y : Event) → ith l.events k ≡ Some x → ith l.events (k + 1) ≡ Some y → is_in (region_of x) y ≡ false

-- the line may have the message's send, where it is the sender's, and its receive, where it is the receiver's
pub record CanHave (m : NewMessage) (l : LineView) : Type 0 where
  pub send : l.instance ≡ m.sender → CanInsert l m.sent (send_event m.receiver m.name)
  pub receive : l.instance ≡ m.receiver → CanInsert l m.received (receive_event m.sender m.name m.region)

-- each of these lines may have it
abbrev pub AllCanHave : NewMessage → List LineView → Type 0
AllCanHave m lines = (i : ℕ) (l : LineView) → slice_get lines i ≡ Some l → CanHave m l
