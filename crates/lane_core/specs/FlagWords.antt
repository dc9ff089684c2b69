-- A lane over slot words: its two ends, and the effect of each step on it (this project's profile).
use Rattle.std.specs.Prelude.{◌≡◌, ℕ, ◌+◌, ◌%◌, ◌<◌, ◌^◌, true, false, not, ◌&&◌, if◌then◌else◌}
use Rattle.lane_core.specs.declared.flag_words.Word.{Word}
use Rattle.lane_core.specs.declared.flag_words.SenderEnd.{SenderEnd}
use Rattle.lane_core.specs.declared.flag_words.ReceiverEnd.{ReceiverEnd}
use Rattle.lane_core.specs.declared.answers.Room.{Room}
use Rattle.lane_core.specs.declared.answers.Room.TheVariants.{Vacant, Full}
use Rattle.lane_core.specs.declared.answers.Found.{Found}
use Rattle.lane_core.specs.declared.answers.Found.TheVariants.{Message, Nothing, Ended}
use Rattle.lane_core.specs.declared.answers.SenderStep.{SenderStep}
use Rattle.lane_core.specs.declared.answers.SenderStep.TheVariants.{Load, Fill, Publish}
use Rattle.lane_core.specs.declared.answers.ReceiverStep.{ReceiverStep}
use Rattle.lane_core.specs.declared.answers.ReceiverStep.TheVariants.{Look, Take, Free}
use Rattle.lane_core.specs.Steps.{Step, Sender_loads, Fills, Publishes, Closes, Receiver_loads, Takes, Puts_back, Frees}
use Rattle.lane_core.specs.Forms.{Form}
use Rattle.lane_core.specs.Traffic.{Traffic, no_traffic, with_at, put_in, published_all, closed_off, taken_out, back_in, freed_all}

-- the word of a slot of a new lane
abbrev pub new_word : Word
new_word = record { full = false; end = false }

-- The sender.

-- the sender of a new lane
abbrev pub new_sender : ℕ → SenderEnd
new_sender k = record { capacity = k; put = 0; claims = false; filled = false; closed = false }

-- its count is small enough for 64 bits
abbrev pub SenderFits : SenderEnd → Type 0
SenderFits s = (0 < s.capacity) × (s.put < 2 ^ 62)

-- its next slot
abbrev pub sender_slot : SenderEnd → ℕ
sender_slot s = s.put % s.capacity

-- after it loaded this word: it claims its next slot unless that is full
abbrev pub sender_loaded : SenderEnd → Word → SenderEnd
sender_loaded s word = record s { claims = not word.full }

-- it claims the slot of this count
abbrev pub SenderClaims : SenderEnd → ℕ → Type 0
SenderClaims s count = (s.claims ≡ true) × (count ≡ s.put)

-- what it finds in this word of its next slot
abbrev pub room_in : Word → Room
room_in word = if word.full then Full else Vacant

-- it may fill: it claims its next slot, and has not filled it
abbrev pub MayFill : SenderEnd → Type 0
MayFill s = (s.claims ≡ true) × (s.filled ≡ false)

-- after it filled this slot
abbrev pub sender_filled : SenderEnd → SenderEnd
sender_filled s = record s { filled = true }

-- it may publish: its next slot is filled, and the lane is open
abbrev pub MayPublish : SenderEnd → Type 0
MayPublish s = (s.closed ≡ false) × (s.filled ≡ true)

-- the word with the full bit set
abbrev pub full_word : Word → Word
full_word word = record { full = true; end = word.end }

-- after it published
abbrev pub sender_published : SenderEnd → SenderEnd
sender_published s = record s { put = s.put + 1; claims = false; filled = false }

-- it may close: the lane is open
abbrev pub MayClose : SenderEnd → Type 0
MayClose s = s.closed ≡ false

-- the word with the end bit set
abbrev pub end_word : Word → Word
end_word word = record { full = word.full; end = true }

-- after it closed
abbrev pub sender_closed : SenderEnd → SenderEnd
sender_closed s = record s { claims = false; filled = false; closed = true }

-- the next step of a send
abbrev pub next_sender_step : SenderEnd → SenderStep
next_sender_step s = if s.filled then Publish else (if s.claims then Fill else Load)

-- the sender may make this step
abbrev pub MaySend : SenderEnd → SenderStep → Type 0
MaySend s Load = Unit {0}
MaySend s Fill = MayFill s
MaySend s Publish = MayPublish s

-- The receiver.

-- the receiver of a new lane
abbrev pub new_receiver : ℕ → ReceiverEnd
new_receiver k = record { capacity = k; taken = 0; claims = false; emptied = false }

-- its count is small enough for 64 bits
abbrev pub ReceiverFits : ReceiverEnd → Type 0
ReceiverFits r = (0 < r.capacity) × (r.taken < 2 ^ 62)

-- its next slot
abbrev pub receiver_slot : ReceiverEnd → ℕ
receiver_slot r = r.taken % r.capacity

-- after it loaded this word: it claims its next slot if that is full
abbrev pub receiver_loaded : ReceiverEnd → Word → ReceiverEnd
receiver_loaded r word = record r { claims = word.full }

-- it claims the slot of this count
abbrev pub ReceiverClaims : ReceiverEnd → ℕ → Type 0
ReceiverClaims r count = (r.claims ≡ true) × (count ≡ r.taken)

-- what it finds in this word of its next slot: a message if the slot is full, and otherwise whether the lane has ended
abbrev pub found_in : Word → Found
found_in word = if word.full then Message else (if word.end then Ended else Nothing)

-- it may take: it claims its next slot, and has not taken from it
abbrev pub MayTake : ReceiverEnd → Type 0
MayTake r = (r.claims ≡ true) × (r.emptied ≡ false)

-- after it took
abbrev pub receiver_took : ReceiverEnd → ReceiverEnd
receiver_took r = record r { emptied = true }

-- it may put back: it has taken, and not put back
abbrev pub MayPutBack : ReceiverEnd → Type 0
MayPutBack r = r.emptied ≡ true

-- after it put back: it keeps its claim
abbrev pub receiver_put_back : ReceiverEnd → ReceiverEnd
receiver_put_back r = record r { emptied = false }

-- it may free: it has taken, and not put back
abbrev pub MayFree : ReceiverEnd → Type 0
MayFree r = r.emptied ≡ true

-- the word with the full bit cleared
abbrev pub free_word : Word → Word
free_word word = record { full = false; end = word.end }

-- after it freed
abbrev pub receiver_freed : ReceiverEnd → ReceiverEnd
receiver_freed r = record r { taken = r.taken + 1; claims = false; emptied = false }

-- the next step of a receive
abbrev pub next_receiver_step : ReceiverEnd → ReceiverStep
next_receiver_step r = if r.emptied then Free else (if r.claims then Take else Look)

-- the receiver may make this step
abbrev pub MayReceive : ReceiverEnd → ReceiverStep → Type 0
MayReceive r Look = Unit {0}
MayReceive r Take = MayTake r
MayReceive r Free = MayFree r

-- The lane.

pub record FlagLane (M : Type 0) : Type 0 where
  -- the word of each slot
  pub words : ℕ → Word
  pub sender : SenderEnd
  pub receiver : ReceiverEnd
  -- slots, hands and content
  pub traffic : Traffic M

-- a new lane
abbrev pub new_lane : {M : Type 0} → ℕ → FlagLane M
new_lane k = record { words = λ i. new_word; sender = new_sender k; receiver = new_receiver k; traffic = no_traffic }

-- the word of the sender's next slot
abbrev pub sender_word : {M : Type 0} → FlagLane M → Word
sender_word l = l.words (sender_slot l.sender)

-- the word of the receiver's next slot
abbrev pub receiver_word : {M : Type 0} → FlagLane M → Word
receiver_word l = l.words (receiver_slot l.receiver)

-- after one step: an end reads its own numbers and the word of its next slot
abbrev pub after : {M : Type 0} → FlagLane M → Step M → FlagLane M
after l Sender_loads = record l { sender = sender_loaded l.sender (sender_word l) }
after l (Fills m) = record l { sender = sender_filled l.sender; traffic = put_in l.traffic (sender_slot l.sender) m }
after l Publishes = record l {
  words = with_at l.words (sender_slot l.sender) (full_word (sender_word l));
  sender = sender_published l.sender;
  traffic = published_all l.traffic;
}
after l Closes = record l {
  words = with_at l.words (sender_slot l.sender) (end_word (sender_word l));
  sender = sender_closed l.sender;
  traffic = closed_off l.traffic;
}
after l Receiver_loads = record l { receiver = receiver_loaded l.receiver (receiver_word l) }
after l Takes =
    record l { receiver = receiver_took l.receiver; traffic = taken_out l.traffic (receiver_slot l.receiver) }
after l Puts_back = record l {
  receiver = receiver_put_back l.receiver;
  traffic = back_in l.traffic l.traffic.emptying (receiver_slot l.receiver);
}
after l Frees = record l {
  words = with_at l.words (receiver_slot l.receiver) (free_word (receiver_word l));
  receiver = receiver_freed l.receiver;
  traffic = freed_all l.traffic;
}

-- the step is allowed, by its end's own numbers and claim
abbrev pub MayFollow : {M : Type 0} → FlagLane M → Step M → Type 0
MayFollow l Sender_loads = Unit {0}
MayFollow l (Fills m) = MayFill l.sender
MayFollow l Publishes = MayPublish l.sender
MayFollow l Closes = MayClose l.sender
MayFollow l Receiver_loads = Unit {0}
MayFollow l Takes = MayTake l.receiver
MayFollow l Puts_back = MayPutBack l.receiver
MayFollow l Frees = MayFree l.receiver

-- this form of a lane
abbrev pub flag_words : (M : Type 0) → Form M
flag_words M = record {
  Lane = FlagLane M;
  new_lane = λ k. new_lane k;
  after = λ l e. after l e;
  MayFollow = λ l e. MayFollow l e;
  traffic = λ l. l.traffic;
  sender_finds = λ l. room_in (sender_word l);
  receiver_finds = λ l. found_in (receiver_word l);
  SenderClaims = λ l count. SenderClaims l.sender count;
  ReceiverClaims = λ l count. ReceiverClaims l.receiver count;
  fills_next = λ l. l.sender.put;
  takes_next = λ l. l.receiver.taken;
  puts_back_next = λ l. l.receiver.taken;
  sender_keeps = λ l. l.sender.claims && not l.sender.filled;
  receiver_keeps = λ l. l.receiver.claims && not l.receiver.emptied;
}
