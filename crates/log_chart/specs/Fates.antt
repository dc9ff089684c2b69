-- Which lines of a log stay, since lanes are first in, first out (Alur, Holzmann and Peled 1996). A send without a
-- receive is lost if a later send of its lane was received. A received message overtakes if one that was sent earlier
-- on its lane is received later.
use Rattle.std.specs.Prelude.{ℕ, ◌==◌, ◌&&◌, max, min, Bool, true, false, nat_lt, List, [], ◌∷◌, filter, map, Option, None, Some, unwrap_or, if◌then◌else◌}
use Rattle.log_chart.specs.Entries.{is_send}
use Rattle.log_chart.specs.declared.entry.Entry.{Entry}
use Rattle.log_chart.specs.declared.matching.LogLine.{LogLine}
use Rattle.log_chart.specs.declared.fate.Fate.{Fate}
use Rattle.log_chart.specs.declared.fate.Fate.TheVariants.{Stays, Lost, Overtakes}

-- the lane of a line's message
abbrev pub sender_of : Entry → ℕ
sender_of e = if is_send e.kind then e.host else e.peer

abbrev pub receiver_of : Entry → ℕ
receiver_of e = if is_send e.kind then e.peer else e.host

abbrev pub is_on : ℕ → ℕ → LogLine → Bool
is_on q p x = sender_of x.entry == q && receiver_of x.entry == p

-- the earlier of two sends
abbrev pub earlier : Option ℕ → Option ℕ → Option ℕ
earlier None t = t
earlier (Some s) None = Some s
earlier (Some s) (Some t) = Some (min s t)

-- of the messages of a lane that these lines receive, the send that is first
unfoldable pub first_sent : List LogLine → ℕ → ℕ → Option ℕ
first_sent [] q p = None
first_sent (x ∷ later) q p = if is_on q p x then earlier x.send (first_sent later q p) else first_sent later q p

-- the later of two sends
abbrev pub later_one : Option ℕ → Option ℕ → Option ℕ
later_one None t = t
later_one (Some s) None = Some s
later_one (Some s) (Some t) = Some (max s t)

-- the send that is last
unfoldable pub last_sent : List LogLine → ℕ → ℕ → Option ℕ
last_sent [] q p = None
last_sent (x ∷ later) q p = if is_on q p x then later_one x.send (last_sent later q p) else last_sent later q p

-- the fate of a message with this send: it overtakes the first message that is received later, if that was sent earlier
abbrev pub overtaking : Option ℕ → ℕ → Fate
overtaking None s = Stays
overtaking (Some t) s = if nat_lt t s then Overtakes t else Stays

-- the send of the line's message is this one
abbrev pub is_sent_at : ℕ → Option ℕ → Bool
is_sent_at s None = false
is_sent_at s (Some t) = t == s

-- the fate of the message of this send, if one of these lines receives it
unfoldable pub message_fate : ℕ → List LogLine → Option Fate
message_fate s [] = None
message_fate s (x ∷ later) =
    if is_sent_at s x.send then Some (overtaking (first_sent later (sender_of x.entry) (receiver_of x.entry)) s) else message_fate s later

-- the fate of a send without a receive, by the last send of its lane whose message was received
abbrev pub unreceived : ℕ → Option ℕ → Fate
unreceived n None = Stays
unreceived n (Some s) = if nat_lt n s then Lost else Stays

-- the fate of a receive
abbrev pub receive_fate : List LogLine → Option ℕ → Fate
receive_fate lines None = Stays
receive_fate lines (Some s) = unwrap_or (message_fate s lines) Stays

-- the fate of one of these lines
abbrev pub fate_of : List LogLine → LogLine → Fate
fate_of lines x =
    if is_send x.entry.kind
    then unwrap_or (message_fate x.number lines) (unreceived x.number (last_sent lines (sender_of x.entry) (receiver_of x.entry)))
    else receive_fate lines x.send

-- the fate of each of them
abbrev pub fates : List LogLine → List Fate
fates lines = map (fate_of lines) lines

abbrev pub stays : Fate → Bool
stays Stays = true
stays Lost = false
stays (Overtakes t) = false

-- the lines that stay
abbrev pub staying : List LogLine → List LogLine
staying lines = filter (λ x. stays (fate_of lines x)) lines
