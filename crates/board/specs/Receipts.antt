-- What the parts of a receive state to each other (this project's profile).
use Rattle.std.specs.Prelude.{◌≡◌, ℕ, ◌+◌, ◌<◌, ◌≤◌, List, [], ◌∷◌, ◌++◌, length, map, drop, replicate, All}
use Rattle.chart.specs.declared.history.Occurrence.TheVariants.{Receive}
use Rattle.chart.specs.declared.line.TheConstants.{MAX_EVENTS}
use Rattle.chart.specs.Events.{MayHaveRegion}
use Rattle.chart.specs.Messages.{Content}
use Rattle.chart.specs.Histories.{own, received, waiting, chart_of, AreTwo, IsLegal}
use Rattle.chart.specs.Reports.{ReportView, IsReportIn}
use Rattle.line_recorder.specs.Recorders.{RecorderView, after_receive, IsReportOf}
use Rattle.line_recorder.specs.Recording.{IsRecorder}
use Rattle.board_core.specs.Parcels.{Parcel, goods}
use Rattle.board_core.specs.World.{after_receives}
use Rattle.board_core.specs.Runs.{AreAnswers}
use Rattle.board_table.specs.Layout.{LaneView}
use Rattle.board_table.specs.Knowing.{Mine, held, packets_out, vacant_out, IsEmptying, waiting_goods, emptied_base}
use Rattle.board_table.specs.Recording.{IsReady}
use Rattle.board.specs.declared.answer.Arrival.{Arrival}
use Rattle.board.specs.declared.answer.Stop.{Stop}
use Rattle.board.specs.declared.answer.Stop.TheVariants.{Asked, NoMore, Refused}
use Rattle.board.specs.declared.ends.Incoming.{Incoming}
use Rattle.board.specs.declared.error.TakeError.{TakeError}
use Rattle.board.specs.declared.error.TakeError.TheVariants.{NoSuchInstance, ToItself, LineFull, Memory}
use Rattle.board.specs.Sending.{numbered}
use Rattle.board.specs.TakingMany.{messages_of}
use Rattle.board.specs.Found.{HasMessages}
use Rattle.board.specs.Known.{IsIncoming, Did}

-- all messages that waited on the lane are out with its receiver, which may receive them in this coregion
pub record MayReceive (l : LaneView) (region : ℕ) (me : Mine) (end : Incoming) (recorder : RecorderView) : Type 0 where
  pub found : HasMessages l me
  pub legal : IsLegal l.instances l.capacity (held me).seen
  pub own : own (held me).seen l.receiver ≡ (held me).made
  pub incoming : IsIncoming l.instances (held me).seen l.receiver l.sender end
  pub recorded : IsRecorder l.instances (held me).seen l.receiver recorder
  pub coregion : MayHaveRegion (chart_of (held me).seen l.receiver) region
  pub two : AreTwo l.instances l.receiver l.sender

-- messages of the lane are out with its receiver, whose end counts those that it has taken out as received
pub record IsTaking (l : LaneView) (me : Mine) (end : Incoming) : Type 0 where
  pub emptying : IsEmptying l me
  pub taken : end.taken ≡ received (held me).seen l.sender l.receiver + vacant_out me
  pub base : end.base ≡ emptied_base l me
  pub long : length end.base ≡ l.instances

-- the receiver may take the next message out in this coregion: one is out with it, and its line has room
pub record MayTake (l : LaneView) (region : ℕ) (me : Mine) (end : Incoming) (recorder : RecorderView) : Type 0 where
  pub taking : IsTaking l me end
  pub some : 0 < length (packets_out me)
  pub legal : IsLegal l.instances l.capacity (held me).seen
  pub ready : IsReady l region recorder
  pub short : length recorder.line.events < MAX_EVENTS
  pub two : AreTwo l.instances l.receiver l.sender

-- a receiver at its work: its seat, its end of the lane, and its recorder
pub record ReceiverView : Type 0 where
  pub me : Mine
  pub end : Incoming
  pub recorder : RecorderView

-- the first message that was out was taken out of its slot, and its receive was recorded: this parcel became this
-- arrival
pub record IsTaken (l : LaneView) (region : ℕ) (old : ReceiverView) (arrival : Arrival) (new : ReceiverView)
    : Type 0 where
  pub taking : IsTaking l new.me new.end
  pub kept : held new.me ≡ held old.me
  pub parcel : Parcel
  pub took : waiting_goods l old.me ≡ parcel ∷ waiting_goods l new.me
  pub out : vacant_out new.me ≡ vacant_out old.me + 1
  pub sender : arrival.from ≡ l.sender
  pub message : arrival.message ≡ parcel.message
  pub report : IsReportOf old.recorder l.sender region parcel.clock arrival.report
  pub recorder_is : new.recorder
      ≡ after_receive old.recorder l.sender parcel.message.name region parcel.clock arrival.report
  pub known : new.end.known_put ≡ old.end.known_put

abbrev pub reports_of : List Arrival → List ReportView
reports_of arrivals = map (λ (arrival : Arrival). arrival.report) arrivals

-- the first messages that waited were taken out and recorded, one after another: these parcels became these arrivals
pub record AreTaken (l : LaneView) (region : ℕ) (old : ReceiverView) (arrivals : List Arrival) (new : ReceiverView)
    : Type 0 where
  pub taking : IsTaking l new.me new.end
  pub kept : held new.me ≡ held old.me
  pub parcels : List Parcel
  pub took : drop (received (held old.me).seen l.sender l.receiver)
      (goods l.instances (held old.me).seen l.sender l.receiver) ≡ parcels ++ waiting_goods l new.me
  pub out : vacant_out new.me ≡ length arrivals
  pub senders : All (λ (arrival : Arrival). arrival.from ≡ l.sender) arrivals
  pub messages : messages_of arrivals ≡ map (λ (x : Parcel). x.message) parcels
  pub answers : AreAnswers old.recorder l.sender region parcels (reports_of arrivals)
  pub recorder_is : new.recorder ≡ after_receives old.recorder l.sender region parcels (reports_of arrivals)
  pub short : length new.recorder.line.events ≤ MAX_EVENTS
  pub known : new.end.known_put ≡ old.end.known_put

-- why the recorder, whose line has this many events, has recorded nothing
abbrev pub IsUnrecorded : ℕ → TakeError → Type 0
IsUnrecorded events NoSuchInstance = ⊥
IsUnrecorded events ToItself = ⊥
IsUnrecorded events LineFull = events ≡ MAX_EVENTS
IsUnrecorded events Memory = events < MAX_EVENTS

-- the first message that waited was received, in this coregion and with its report
pub record IsReceived (l : LaneView) (region : ℕ) (old : Mine) (arrival : Arrival) (new : Mine) : Type 0 where
  pub did : Did l.instances l.capacity l.receiver (held old) (held new) (drop 1 (held new).seen)
      (Receive l.receiver l.sender region ∷ [])
  pub first : (rest : List Content) × (waiting (drop 1 (held new).seen) l.sender l.receiver ≡ arrival.message ∷ rest)
  pub sender : arrival.from ≡ l.sender
  pub receive : arrival.report.receive ≡ record {
    instance = l.receiver;
    index = length (chart_of (held new).seen l.receiver);
  }
  pub report : IsReportIn (chart_of (held new).seen) arrival.report

-- the first messages that waited were received, one directly after another, in this coregion and each with its report
pub record AreReceived (l : LaneView) (region : ℕ) (old : Mine) (arrivals : List Arrival) (new : Mine) : Type 0 where
  pub did : Did l.instances l.capacity l.receiver (held old) (held new) (drop (length arrivals) (held new).seen)
      (replicate (length arrivals) (Receive l.receiver l.sender region))
  pub first : (rest : List Content) × (waiting (drop (length arrivals) (held new).seen) l.sender l.receiver
      ≡ messages_of arrivals ++ rest)
  pub senders : All (λ (arrival : Arrival). arrival.from ≡ l.sender) arrivals
  pub receives : map (λ (arrival : Arrival). arrival.report.receive) arrivals
      ≡ numbered l.receiver (length (chart_of (held old).seen l.receiver) + 1) (messages_of arrivals)
  pub reports : All (λ (arrival : Arrival). IsReportIn (chart_of (held new).seen) arrival.report) arrivals

-- no message was received, for this cause, and one waits
pub record IsUnreceived (l : LaneView) (old new : Mine) (error : TakeError) : Type 0 where
  pub did : Did l.instances l.capacity l.receiver (held old) (held new) (held new).seen []
  pub waits : 0 < length (waiting (held new).seen l.sender l.receiver)
  pub cause : IsUnrecorded (length (chart_of (held new).seen l.receiver)) error

-- why no more than these messages were received, of at most `most`
abbrev pub IsStopped : LaneView → ℕ → Mine → List Arrival → Mine → Stop → Type 0
IsStopped l most old arrivals new Asked = length arrivals ≡ most
IsStopped l most old arrivals new NoMore = (length arrivals < most)
    × (waiting (held old).seen l.sender l.receiver ≡ messages_of arrivals)
IsStopped l most old arrivals new (Refused error) = (length arrivals < most)
    × (0 < length (waiting (held new).seen l.sender l.receiver))
    × IsUnrecorded (length (chart_of (held new).seen l.receiver)) error

-- why no more than `many` messages were taken out, of at most `most` and of the `known` ones, when the line has this
-- many events
abbrev pub IsHalted : ℕ → ℕ → ℕ → ℕ → Stop → Type 0
IsHalted most known many events Asked = many ≡ most
IsHalted most known many events NoMore = (many < most) × (many ≡ known)
IsHalted most known many events (Refused error) = (many < most) × (many < known) × IsUnrecorded events error
