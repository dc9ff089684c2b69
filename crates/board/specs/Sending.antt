-- What a send answers (this project's profile, after ITU-T Z.120).
use Rattle.std.specs.Prelude.{◌≡◌, ℕ, ◌+◌, ◌-◌, ◌<◌, ◌≤◌, true, false, List, [], ◌∷◌, length, map, reverse, Result, Ok, Err}
use Rattle.std.specs.Global.{Vec}
use Rattle.chart.specs.declared.history.Occurrence.{Occurrence}
use Rattle.chart.specs.declared.history.Occurrence.TheVariants.{Send}
use Rattle.chart.specs.declared.instance.EventNo.{EventNo}
use Rattle.chart.specs.declared.line.TheConstants.{MAX_EVENTS}
use Rattle.chart.specs.Messages.{Content}
use Rattle.chart.specs.Histories.{waiting, is_closed}
use Rattle.board.specs.declared.answer.Sent.{Sent}
use Rattle.board.specs.declared.error.SendError.{SendError}
use Rattle.board.specs.declared.error.SendError.TheVariants.{NoSuchInstance, ToItself, InCoregion, Closed, TooMany, LineFull, Full, Memory}
use Rattle.board.specs.Views.{PostView, line_of, last_event, Makes, Stays, IsPartner}

-- nothing prevents the send except the line, the lane's slots and memory
pub record MaySend (old : PostView) (to : ℕ) : Type 0 where
  pub two : IsPartner old to
  pub outside : old.region ≡ 0
  pub opened : is_closed old.made old.number to ≡ false

-- `many` messages find no slots on the lane, also by what was seen before, and a look showed this
pub record IsFull (old : PostView) (to many : ℕ) (new : PostView) : Type 0 where
  pub waits : new.board.capacity < length (waiting new.seen new.number to) + many
  pub opened : is_closed new.seen new.number to ≡ false
  pub before : old.board.capacity < length (waiting old.seen old.number to) + many
  pub looked : old.looks < new.looks

-- `many` messages find slots
abbrev pub HasRoom : PostView → ℕ → ℕ → Type 0
HasRoom post to many = length (waiting post.seen post.number to) + many ≤ post.board.capacity

-- why `many` messages aren't sent, by a call that takes a list of them or by one that takes a single message
abbrev pub IsUnsent : PostView → ℕ → ℕ → SendError → PostView → Type 0
IsUnsent old to many NoSuchInstance new = old.board.size < to
IsUnsent old to many ToItself new = to ≡ old.number
IsUnsent old to many InCoregion new = IsPartner old to × (0 < old.region)
IsUnsent old to many Closed new = IsPartner old to × (old.region ≡ 0) × (is_closed old.made old.number to ≡ true)
IsUnsent old to many TooMany new = MaySend old to × (old.board.capacity < many)
IsUnsent old to many LineFull new = MaySend old to × (many ≤ old.board.capacity)
    × (MAX_EVENTS < length (line_of new) + many)
IsUnsent old to many Full new = MaySend old to × (many ≤ old.board.capacity)
    × (length (line_of new) + many ≤ MAX_EVENTS) × IsFull old to many new
IsUnsent old to many Memory new = MaySend old to × (0 < many) × (length (line_of new) + many ≤ MAX_EVENTS)
    × HasRoom new to many

-- the message was sent, and its send is the last of all seen events. It took a place of the room, if there was one
pub record IsSent (old : PostView) (to : ℕ) (message : Content) (sent : Sent) (new : PostView) : Type 0 where
  pub allowed : MaySend old to
  pub makes : (before : List Occurrence) × Makes old before (Send new.number to message ∷ []) new
  pub event : sent.event ≡ last_event new
  pub room : new.room ≡ old.room - 1

-- what a send of the message to an instance answers
abbrev pub Sends : PostView → ℕ → Content → Result Sent (Content × SendError) → PostView → Type 0
Sends old to message (Ok sent) new = IsSent old to message sent new
Sends old to message (Err (back, error)) new = (back ≡ message) × Stays old new × IsUnsent old to 1 error new

-- p's sends of these messages, the newest first
abbrev pub sends_of : ℕ → ℕ → List Content → List Occurrence
sends_of p to messages = reverse (map (Send p to) messages)

-- the events of p's line from an index on, one for each message
abbrev pub numbered : ℕ → ℕ → List Content → List EventNo
numbered p index [] = []
numbered p index (m ∷ ms) = record { instance = p; index = index } ∷ numbered p (index + 1) ms

-- the messages were sent, one directly after another, and their sends are the last of all seen events. Each took a
-- place of the room, while there was one
pub record AreSent (old : PostView) (to : ℕ) (messages : List Content) (sents : List Sent)
    (new : PostView) : Type 0 where
  pub allowed : MaySend old to
  pub makes : (before : List Occurrence) × Makes old before (sends_of new.number to messages) new
  pub events : map (λ (sent : Sent). sent.event) sents ≡ numbered new.number (length (line_of old) + 1) messages
  pub room : new.room ≡ old.room - length messages

-- what a send of several messages at once answers
abbrev pub SendsAll : PostView → ℕ → List Content → Result (Vec Sent) (Vec Content × SendError) → PostView → Type 0
SendsAll old to messages (Ok sents) new = AreSent old to messages sents.items new
SendsAll old to messages (Err (back, error)) new = (back.items ≡ messages) × Stays old new
    × IsUnsent old to (length messages) error new

-- nothing but the lane's slots and memory can prevent the send of `many` messages
pub record MayPass (old : PostView) (to many : ℕ) : Type 0 where
  pub allowed : MaySend old to
  pub within_capacity : many ≤ old.board.capacity
  pub short : length (line_of old) + many ≤ MAX_EVENTS
