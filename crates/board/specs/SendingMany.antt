-- What the parts of a send of several messages state to each other (differences between clocks: after Singhal and
-- Kshemkalyani 1992; several sends at once: this project's profile).
use Rattle.std.specs.Prelude.{◌≡◌, ℕ, ◌+◌, ◌≤◌, List, length, map, drop, All}
use Rattle.chart.specs.Words.{Clock}
use Rattle.chart.specs.Messages.{Content}
use Rattle.chart.specs.Histories.{chart_of}
use Rattle.clock.specs.declared.diff.Change.{Change}
use Rattle.clock.specs.Diffs.{IsDiff, apply_diff}
use Rattle.line_recorder.specs.Recorders.{RecorderView, send_clock, after_sends, with_room}
use Rattle.board_core.specs.Parcels.{Parcel, names}
use Rattle.board_core.specs.Instances.{HaveClocks}
use Rattle.board_table.specs.declared.packet.Packet.{Packet}
use Rattle.board_table.specs.Layout.{LaneView}
use Rattle.board_table.specs.Carrying.{AreCarried}
use Rattle.board_table.specs.Knowing.{Mine, held}
use Rattle.board.specs.declared.answer.Sent.{Sent}
use Rattle.board.specs.declared.sending_several.Prepared.{Prepared}
use Rattle.board.specs.Known.{Did}
use Rattle.board.specs.Sending.{sends_of, numbered}

-- the difference has exactly the entries that changed from the base to the clock, and turns the base into the clock
pub record IsDiffTo (base : Clock) (diff : List Change) (clock : Clock) : Type 0 where
  pub within : All (λ (change : Change). change.instance ≤ length base) diff
  pub exact : IsDiff base clock diff
  pub applied : apply_diff base diff ≡ clock

-- what the sends of these messages need is there: the first one's difference, the event of each, and room for all on
-- the line
pub record IsPrepared (base : Clock) (old : RecorderView) (messages : List Content) (it : Prepared)
    (new : RecorderView) : Type 0 where
  pub first : IsDiffTo base it.first (send_clock old)
  pub sents : map (λ (sent : Sent). sent.event) it.sents.items
      ≡ numbered old.line.instance (length old.line.events + 1) messages
  pub room : new ≡ with_room old (length messages)

-- these packets carry the messages, each with its difference from the clock of the one before it, the first from the
-- base; and the recorder has recorded these sends
pub record AreFilled (base : Clock) (old : RecorderView) (to : ℕ) (messages : List Content) (packets : List Packet)
    (new : RecorderView) : Type 0 where
  pub parcels : List Parcel
  pub messages_are : map (λ (x : Parcel). x.message) parcels ≡ messages
  pub clocks : HaveClocks old to parcels
  pub carried : AreCarried base packets parcels
  pub recorded : new ≡ after_sends old to (names parcels)

-- the messages were sent, one directly after another, each with its event
pub record AreMade (l : LaneView) (messages : List Content) (sents : List Sent) (old new : Mine) : Type 0 where
  pub did : Did l.instances l.capacity l.sender (held old) (held new) (drop (length messages) (held new).seen)
      (sends_of l.sender l.receiver messages)
  pub events : map (λ (sent : Sent). sent.event) sents ≡ numbered l.sender
      (length (chart_of (held old).seen l.sender) + 1) messages
