-- Histories of the occurrences of all instances (ITU-T Z.120: a chart's events in some order that it allows, over lanes
-- that are queues, as Alur, Holzmann and Peled 1996 have them; a close is this project's profile).
--
-- A history is the list of its occurrences, the newest first. The messages of a lane and the events of a line are lists
-- with the oldest first.
use Rattle.std.specs.Prelude.{◌≡◌, ◌≢◌, ℕ, ◌+◌, ◌<◌, ◌≤◌, Bool, false, ◌&&◌, ◌||◌, ◌==◌, List, [], ◌∷◌, ◌++◌, length, drop, if◌then◌else◌}
use Rattle.chart.specs.Words.{Instance}
use Rattle.chart.specs.declared.history.Occurrence.{Occurrence}
use Rattle.chart.specs.declared.history.Occurrence.TheVariants.{Send, Receive, Close}
use Rattle.chart.specs.declared.event.Event.{Event}
use Rattle.chart.specs.declared.line.TheConstants.{MAX_EVENTS}
use Rattle.chart.specs.Messages.{Content}
use Rattle.chart.specs.Events.{send_event, receive_event, MayHaveRegion}

-- the instance that did it
abbrev pub by : Occurrence → Instance
by (Send p q m) = p
by (Receive p q c) = p
by (Close p q) = p

-- what p did, the newest first
abbrev pub own : List Occurrence → Instance → List Occurrence
own [] p = []
own (e ∷ h) p = if by e == p then e ∷ own h p else own h p

-- the lane from a to b is that from q to p
abbrev pub is_lane : Instance → Instance → Instance → Instance → Bool
is_lane a b q p = a == q && b == p

-- the messages that q sent to p
abbrev pub sent : List Occurrence → Instance → Instance → List Content
sent [] q p = []
sent (Send a b m ∷ h) q p = if is_lane a b q p then sent h q p ++ m ∷ [] else sent h q p
sent (Receive a b c ∷ h) q p = sent h q p
sent (Close a b ∷ h) q p = sent h q p

-- how many messages p received from q
abbrev pub received : List Occurrence → Instance → Instance → ℕ
received [] q p = 0
received (Send a b m ∷ h) q p = received h q p
received (Receive a b c ∷ h) q p = if is_lane b a q p then received h q p + 1 else received h q p
received (Close a b ∷ h) q p = received h q p

-- the messages from q to p that wait: the sent ones without the first ones, as many as were received
abbrev pub waiting : List Occurrence → Instance → Instance → List Content
waiting h q p = drop (received h q p) (sent h q p)

-- q closed the lane to p
abbrev pub is_closed : List Occurrence → Instance → Instance → Bool
is_closed [] q p = false
is_closed (Send a b m ∷ h) q p = is_closed h q p
is_closed (Receive a b c ∷ h) q p = is_closed h q p
is_closed (Close a b ∷ h) q p = is_lane a b q p || is_closed h q p

-- the event that a receive of the first of these messages adds to a line: it has this message's name
abbrev pub receive_of : List Content → Instance → ℕ → List Event
receive_of [] q c = []
receive_of (m ∷ ms) q c = receive_event q m.name c ∷ []

-- what the occurrence adds to p's line: a close is on no line
abbrev pub line_gets : List Occurrence → Instance → Occurrence → List Event
line_gets h p (Send a b m) = if a == p then send_event b m.name ∷ [] else []
line_gets h p (Receive a b c) = if a == p then receive_of (waiting h b a) b c else []
line_gets h p (Close a b) = []

-- p's line in the chart of the history
abbrev pub chart_of : List Occurrence → Instance → List Event
chart_of [] p = []
chart_of (e ∷ h) p = chart_of h p ++ line_gets h p e

-- p and q are two of n instances
abbrev pub AreTwo : ℕ → Instance → Instance → Type 0
AreTwo n p q = (1 ≤ p) × (p ≤ n) × (1 ≤ q) × (q ≤ n) × (p ≢ q)

-- the occurrence is allowed after the history, among n instances whose lanes have k slots each
abbrev pub MayFollow : ℕ → ℕ → List Occurrence → Occurrence → Type 0
MayFollow n k h (Send p q m) = AreTwo n p q × (is_closed h p q ≡ false) × (length (waiting h p q) < k)
    × (length (chart_of h p) < MAX_EVENTS)
MayFollow n k h (Receive p q c) = AreTwo n p q × (0 < length (waiting h q p)) × (length (chart_of h p) < MAX_EVENTS)
    × MayHaveRegion (chart_of h p) c
MayFollow n k h (Close p q) = AreTwo n p q × (is_closed h p q ≡ false)

-- each occurrence was allowed when it came
abbrev pub IsLegal : ℕ → ℕ → List Occurrence → Type 0
IsLegal n k [] = Unit {0}
IsLegal n k (e ∷ h) = MayFollow n k h e × IsLegal n k h

-- the second history begins with the first
abbrev pub Begins : List Occurrence → List Occurrence → Type 0
Begins h g = (more : List Occurrence) × (g ≡ more ++ h)
