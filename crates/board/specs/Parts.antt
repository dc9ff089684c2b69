-- What the parts of a call state to each other (this project's profile).
use Rattle.std.specs.Prelude.{◌≡◌, ℕ, ◌+◌, ◌<◌, ◌≤◌, false, [], length}
use Rattle.chart.specs.declared.line.TheConstants.{MAX_EVENTS}
use Rattle.chart.specs.Histories.{own, waiting, is_closed, chart_of, AreTwo, IsLegal}
use Rattle.line_recorder.specs.Recorders.{RecorderView}
use Rattle.line_recorder.specs.Recording.{IsRecorder}
use Rattle.board_table.specs.Layout.{LaneView}
use Rattle.board.specs.declared.error.SendError.{SendError}
use Rattle.board.specs.declared.error.SendError.TheVariants.{NoSuchInstance, ToItself, InCoregion, Closed, TooMany, LineFull, Full, Memory}
use Rattle.board.specs.declared.ends.Outgoing.{Outgoing}
use Rattle.board.specs.Known.{IsOutgoing, Did}
use Rattle.board_table.specs.Knowing.{Mine, held, packets_out, vacant_out, Rests, IsFilling}

-- the sender, with nothing out, may put `many` messages on its lane if they find slots there
pub record MayPut (l : LaneView) (many : ℕ) (me : Mine) (end : Outgoing) (recorder : RecorderView) : Type 0 where
  pub rests : Rests l.instances l.capacity l.sender me
  pub legal : IsLegal l.instances l.capacity (held me).seen
  pub own : own (held me).seen l.sender ≡ (held me).made
  pub outgoing : IsOutgoing l.instances (held me).seen l.sender l.receiver end
  pub recorded : IsRecorder l.instances (held me).seen l.sender recorder
  pub unclosed : is_closed (held me).seen l.sender l.receiver ≡ false
  pub short : length (chart_of (held me).seen l.sender) + many ≤ MAX_EVENTS
  pub two : AreTwo l.instances l.sender l.receiver

-- `many` more messages find slots on the lane
abbrev pub Fit : LaneView → ℕ → Mine → Type 0
Fit l many me = length (waiting (held me).seen l.sender l.receiver) + many ≤ l.capacity

-- at least `many` empty slots of the lane are out with its sender, and no filled slot is
pub record HasSlots (l : LaneView) (many : ℕ) (me : Mine) : Type 0 where
  pub filling : IsFilling l me
  pub unfilled : packets_out me ≡ []
  pub enough : many ≤ vacant_out me
  pub fit : Fit l many me

-- `many` messages find no slots on the lane, also by what was seen before, and a look showed this
pub record HasNoSlots (l : LaneView) (many : ℕ) (old new : Mine) : Type 0 where
  pub rests : Rests l.instances l.capacity l.sender new
  pub waits : l.capacity < length (waiting (held new).seen l.sender l.receiver) + many
  pub before : l.capacity < length (waiting (held old).seen l.sender l.receiver) + many
  pub looked : (held old).looks < (held new).looks

-- why `many` sends weren't made
abbrev pub IsCause : LaneView → ℕ → Mine → Mine → SendError → Type 0
IsCause l many old new NoSuchInstance = ⊥
IsCause l many old new ToItself = ⊥
IsCause l many old new InCoregion = ⊥
IsCause l many old new Closed = ⊥
IsCause l many old new TooMany = ⊥
IsCause l many old new LineFull = ⊥
IsCause l many old new Full = HasNoSlots l many old new
IsCause l many old new Memory = Fit l many new

-- `many` sends weren't made, for this cause, and the call made no event
pub record IsUnmade (l : LaneView) (many : ℕ) (old new : Mine) (error : SendError) : Type 0 where
  pub did : Did l.instances l.capacity l.sender (held old) (held new) (held new).seen []
  pub cause : IsCause l many old new error
