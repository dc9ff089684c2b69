-- A lane over index words: its two ends, and the effect of each step on it (this project's profile).
use Rattle.std.specs.Prelude.{◌≡◌, ℕ, ◌+◌, ◌-◌, ◌*◌, ◌/◌, ◌%◌, ◌<◌, ◌≤◌, ◌^◌, ◌==◌, nat_lt, true, false, if◌then◌else◌}
use Rattle.lane_core.specs.declared.index_words.SenderEnd.{SenderEnd}
use Rattle.lane_core.specs.declared.index_words.ReceiverEnd.{ReceiverEnd}
use Rattle.lane_core.specs.declared.answers.Room.{Room}
use Rattle.lane_core.specs.declared.answers.Room.TheVariants.{Vacant, Full}
use Rattle.lane_core.specs.declared.answers.Found.{Found}
use Rattle.lane_core.specs.declared.answers.Found.TheVariants.{Message, Nothing, Ended}
use Rattle.lane_core.specs.declared.answers.SenderStep.{SenderStep}
use Rattle.lane_core.specs.declared.answers.SenderStep.TheVariants.{Load, Fill, Publish}
use Rattle.lane_core.specs.declared.answers.ReceiverStep.{ReceiverStep}
use Rattle.lane_core.specs.declared.answers.ReceiverStep.TheVariants.{Look, Take, Free}
use Rattle.lane_core.specs.Steps.{Step, Sender_loads, Fills, Publishes, Closes, Receiver_loads, Takes, Puts_back, Frees}
use Rattle.lane_core.specs.Forms.{Form}
use Rattle.lane_core.specs.Traffic.{Traffic, no_traffic, put_in, published_all, closed_off, taken_out, back_in, freed_all}

-- The sender.

-- the sender of a new lane
abbrev pub new_sender : ℕ → SenderEnd
new_sender k = record { capacity = k; published = 0; filled = 0; freed = 0; closed = false }

-- its numbers are small enough for words of 64 bits
abbrev pub SenderFits : SenderEnd → Type 0
SenderFits s = (0 < s.capacity) × (s.published + s.filled < 2 ^ 62) × (s.freed + s.capacity < 2 ^ 62)

-- after it loaded this word
abbrev pub sender_loaded : SenderEnd → ℕ → SenderEnd
sender_loaded s word = record s { freed = word }

-- it claims the slot of this count: one from its count of published messages up to the last loaded count plus the
-- capacity
abbrev pub SenderClaims : SenderEnd → ℕ → Type 0
SenderClaims s count = (s.published ≤ count) × (count < s.freed + s.capacity)

-- what it found by its last load: room if it claims a slot
abbrev pub room_of : SenderEnd → Room
room_of s = if nat_lt s.published (s.freed + s.capacity) then Vacant else Full

-- the count of the next message
abbrev pub fill_count : SenderEnd → ℕ
fill_count s = s.published + s.filled

-- the slot of that count
abbrev pub fill_slot : SenderEnd → ℕ
fill_slot s = fill_count s % s.capacity

-- it may fill: the slot of the next message is one that it claims
abbrev pub MayFill : SenderEnd → Type 0
MayFill s = fill_count s < s.freed + s.capacity

-- after it filled one more
abbrev pub sender_filled : SenderEnd → SenderEnd
sender_filled s = record s { filled = s.filled + 1 }

-- it may publish: something is filled, and the lane is open
abbrev pub MayPublish : SenderEnd → Type 0
MayPublish s = (s.closed ≡ false) × (0 < s.filled)

-- the word that publishes the filled slots
abbrev pub publish_word : SenderEnd → ℕ
publish_word s = 2 * (s.published + s.filled)

-- after it published them
abbrev pub sender_published : SenderEnd → SenderEnd
sender_published s = record s { published = s.published + s.filled; filled = 0 }

-- it may close: the lane is open
abbrev pub MayClose : SenderEnd → Type 0
MayClose s = s.closed ≡ false

-- the word that closes the lane
abbrev pub close_word : SenderEnd → ℕ
close_word s = 2 * s.published + 1

-- after it closed
abbrev pub sender_closed : SenderEnd → SenderEnd
sender_closed s = record s { filled = 0; closed = true }

-- the next step of a send
abbrev pub next_sender_step : SenderEnd → SenderStep
next_sender_step s =
    if nat_lt 0 s.filled then Publish else (if nat_lt (fill_count s) (s.freed + s.capacity) then Fill else Load)

-- the sender may make this step
abbrev pub MaySend : SenderEnd → SenderStep → Type 0
MaySend s Load = Unit {0}
MaySend s Fill = MayFill s
MaySend s Publish = MayPublish s

-- The receiver.

-- the receiver of a new lane
abbrev pub new_receiver : ℕ → ReceiverEnd
new_receiver k = record { capacity = k; freed = 0; emptied = 0; published = 0; closed = false }

-- its numbers are small enough for words of 64 bits
abbrev pub ReceiverFits : ReceiverEnd → Type 0
ReceiverFits r = (0 < r.capacity) × (r.freed + r.emptied < 2 ^ 62)

-- after it loaded this word: the count in it, and whether its low bit means closed
abbrev pub receiver_loaded : ReceiverEnd → ℕ → ReceiverEnd
receiver_loaded r word = record r { published = word / 2; closed = word % 2 == 1 }

-- it claims the slot of this count: one from its count of freed messages up to the last loaded count
abbrev pub ReceiverClaims : ReceiverEnd → ℕ → Type 0
ReceiverClaims r count = (r.freed ≤ count) × (count < r.published)

-- what it found by its last load: a message if it claims a slot, and otherwise whether the lane is closed
abbrev pub found_by : ReceiverEnd → Found
found_by r = if nat_lt r.freed r.published then Message else (if r.closed then Ended else Nothing)

-- the count of the next message that it takes
abbrev pub take_count : ReceiverEnd → ℕ
take_count r = r.freed + r.emptied

-- the slot of that count
abbrev pub take_slot : ReceiverEnd → ℕ
take_slot r = take_count r % r.capacity

-- it may take: the slot of the next message is one that it claims
abbrev pub MayTake : ReceiverEnd → Type 0
MayTake r = take_count r < r.published

-- after it took one more
abbrev pub receiver_took : ReceiverEnd → ReceiverEnd
receiver_took r = record r { emptied = r.emptied + 1 }

-- it may put back: it has taken something that it has neither freed nor put back
abbrev pub MayPutBack : ReceiverEnd → Type 0
MayPutBack r = 0 < r.emptied

-- the count of the message that it took last
abbrev pub back_count : ReceiverEnd → ℕ
back_count r = r.freed + (r.emptied - 1)

-- the slot of that count
abbrev pub back_slot : ReceiverEnd → ℕ
back_slot r = back_count r % r.capacity

-- after it put this message back
abbrev pub receiver_put_back : ReceiverEnd → ReceiverEnd
receiver_put_back r = record r { emptied = r.emptied - 1 }

-- it may free: it has taken something that it has neither freed nor put back
abbrev pub MayFree : ReceiverEnd → Type 0
MayFree r = 0 < r.emptied

-- the word that frees what it took
abbrev pub free_word : ReceiverEnd → ℕ
free_word r = r.freed + r.emptied

-- after it freed it
abbrev pub receiver_freed : ReceiverEnd → ReceiverEnd
receiver_freed r = record r { freed = r.freed + r.emptied; emptied = 0 }

-- the next step of a receive
abbrev pub next_receiver_step : ReceiverEnd → ReceiverStep
next_receiver_step r = if nat_lt 0 r.emptied then Free else (if nat_lt (take_count r) r.published then Take else Look)

-- the receiver may make this step
abbrev pub MayReceive : ReceiverEnd → ReceiverStep → Type 0
MayReceive r Look = Unit {0}
MayReceive r Take = MayTake r
MayReceive r Free = MayFree r

-- The lane.

pub record IndexLane (M : Type 0) : Type 0 where
  -- the two words
  pub put : ℕ
  pub taken : ℕ
  pub sender : SenderEnd
  pub receiver : ReceiverEnd
  -- slots, hands and content
  pub traffic : Traffic M

-- a new lane
abbrev pub new_lane : {M : Type 0} → ℕ → IndexLane M
new_lane k = record { put = 0; taken = 0; sender = new_sender k; receiver = new_receiver k; traffic = no_traffic }

-- after one step: it reads its end's own numbers, and a load also the other end's word; each end stores only its own
-- word
abbrev pub after : {M : Type 0} → IndexLane M → Step M → IndexLane M
after l Sender_loads = record l { sender = sender_loaded l.sender l.taken }
after l (Fills m) = record l { sender = sender_filled l.sender; traffic = put_in l.traffic (fill_slot l.sender) m }
after l Publishes = record l {
  put = publish_word l.sender;
  sender = sender_published l.sender;
  traffic = published_all l.traffic;
}
after l Closes = record l { put = close_word l.sender; sender = sender_closed l.sender; traffic = closed_off l.traffic }
after l Receiver_loads = record l { receiver = receiver_loaded l.receiver l.put }
after l Takes = record l { receiver = receiver_took l.receiver; traffic = taken_out l.traffic (take_slot l.receiver) }
after l Puts_back = record l {
  receiver = receiver_put_back l.receiver;
  traffic = back_in l.traffic l.traffic.emptying (back_slot l.receiver);
}
after l Frees = record l {
  taken = free_word l.receiver;
  receiver = receiver_freed l.receiver;
  traffic = freed_all l.traffic;
}

-- the step is allowed, by its end's own numbers
abbrev pub MayFollow : {M : Type 0} → IndexLane M → Step M → Type 0
MayFollow l Sender_loads = Unit {0}
MayFollow l (Fills m) = MayFill l.sender
MayFollow l Publishes = MayPublish l.sender
MayFollow l Closes = MayClose l.sender
MayFollow l Receiver_loads = Unit {0}
MayFollow l Takes = MayTake l.receiver
MayFollow l Puts_back = MayPutBack l.receiver
MayFollow l Frees = MayFree l.receiver

-- this form of a lane
abbrev pub index_words : (M : Type 0) → Form M
index_words M = record {
  Lane = IndexLane M;
  new_lane = λ k. new_lane k;
  after = λ l e. after l e;
  MayFollow = λ l e. MayFollow l e;
  traffic = λ l. l.traffic;
  sender_finds = λ l. room_of (sender_loaded l.sender l.taken);
  receiver_finds = λ l. found_by (receiver_loaded l.receiver l.put);
  SenderClaims = λ l count. SenderClaims l.sender count;
  ReceiverClaims = λ l count. ReceiverClaims l.receiver count;
  fills_next = λ l. fill_count l.sender;
  takes_next = λ l. take_count l.receiver;
  puts_back_next = λ l. back_count l.receiver;
  sender_keeps = λ l. nat_lt (fill_count l.sender) (l.sender.freed + l.sender.capacity);
  receiver_keeps = λ l. nat_lt (take_count l.receiver) l.receiver.published;
}
