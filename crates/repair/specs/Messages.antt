-- Charts with one message more (a message is its output and its input event, ITU-T Z.120; that one is added to a chart
-- is this project's profile).
use Rattle.std.specs.Prelude.{◌≡◌, ◌≢◌, ℕ, ◌+◌, ◌-◌, ◌<◌, ◌≤◌, ◌==◌, true, false, List, length, Some, nat_le, if◌then◌else◌}
use Rattle.std.specs.List.{insert}
use Rattle.chart.specs.declared.event.Event.{Event}
use Rattle.chart.specs.Events.{ith, tally, is_send_to, is_receive_from, is_in, send_event, receive_event}
use Rattle.chart.specs.Charts.{Chart, Place, at, chart_event, BelongsTo, IsPossible}
use Rattle.chart.specs.Order.{IsEarlier, Before, region_of_event}

-- a message more: who sends it and behind how many events of its line, and who receives it and behind how many
pub record NewMessage : Type 0 where
  pub sender : ℕ
  pub sent : ℕ
  pub receiver : ℕ
  pub received : ℕ
  pub name : List ℕ
  pub region : ℕ

-- d is the chart c with the message more
pub record IsWith (m : NewMessage) (c d : Chart) : Type 0 where
  pub two : m.sender ≢ m.receiver
  pub sent_within : m.sent ≤ length (c m.sender)
  pub received_within : m.received ≤ length (c m.receiver)
  pub send : d m.sender ≡ insert (c m.sender) m.sent (send_event m.receiver m.name)
  pub receive : d m.receiver ≡ insert (c m.receiver) m.received (receive_event m.sender m.name m.region)
  pub others : (p : ℕ) → p ≢ m.sender → p ≢ m.receiver → d p ≡ c p

-- where its send and its receive are
abbrev pub new_send : NewMessage → Place
new_send m = at m.sender (m.sent + 1)

abbrev pub new_receive : NewMessage → Place
new_receive m = at m.receiver (m.received + 1)

-- how many first events of a line keep their numbers
abbrev pub keeping : NewMessage → Chart → ℕ → ℕ
keeping m c p = if p == m.sender then m.sent else (if p == m.receiver then m.received else length (c p))

-- the number of an event of a line whose first k events keep theirs, where one more stands behind these
abbrev pub moved_index : ℕ → ℕ → ℕ
moved_index k i = if nat_le i k then i else i + 1

-- where an event of the old chart is in the new one
abbrev pub moved : NewMessage → Chart → Place → Place
moved m c e = at e.instance (moved_index (keeping m c e.instance) e.index)

-- the receive r and the earlier event e of its line, which may come in either order: e is in no coregion with r, and not
-- before it
pub record IsRace (c : Chart) (e r : Place) : Type 0 where
  pub earlier : IsEarlier e r
  pub apart : (m : Event) → chart_event c e ≡ Some m → is_in (region_of_event (chart_event c r)) m ≡ false
  pub free : Before c e r → ⊥

-- the first k events of the line have the event of this number, and behind it just those that are in its coregion
pub record EndsBehind (line : List Event) (index k : ℕ) : Type 0 where
  pub has : index ≤ k
  pub within : k ≤ length line
  pub inside : (i : ℕ) (m : Event) → index < i → i ≤ k → ith line i ≡ Some m
      → is_in (region_of_event (ith line index)) m ≡ true
  pub ends : (m : Event) → ith line (k + 1) ≡ Some m → is_in (region_of_event (ith line index)) m ≡ false

-- p can inform of its first k events before the send s: s is before none of them, and as many messages were sent to s's
-- line among them as were received there before s
pub record CanInform (c : Chart) (p k : ℕ) (s : Place) : Type 0 where
  pub uncrossed : (i : ℕ) → i ≤ k → Before c s (at p i) → ⊥
  pub in_turn : tally (is_send_to s.instance) (c p) k ≡ tally (is_receive_from p) (c s.instance) s.index

-- the message that informs of them: sent behind them, and received directly before s
abbrev pub informing : ℕ → ℕ → Place → List ℕ → NewMessage
informing p k s name = record {
  sender = p;
  sent = k;
  receiver = s.instance;
  received = s.index - 1;
  name = name;
  region = 0;
}

-- wherever it is sent and received, no message more from p to q makes e come before r: the chart isn't possible then,
-- with the coregions of the old one, or a receive has another send than its own, or the pair isn't enforced
abbrev pub NoMessage : ℕ → Chart → ℕ → ℕ → Place → Place → Type 0
NoMessage n c p q e r = (m : NewMessage) (d : Chart) → m.sender ≡ p → m.receiver ≡ q → IsWith m c d → IsPossible n d
    → BelongsTo d (new_send m) (new_receive m) → Before d (moved m c e) (moved m c r) → ⊥
