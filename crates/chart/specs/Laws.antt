-- The laws of charts: statements that the functions of `laws` prove. The laws of knowledge and of hearing are those of
-- vector time (Fidge 1988, Mattern 1989). The others are this project's profile, over the definitions that they cite.
use Rattle.std.specs.Prelude.{◌≡◌, ℕ, ◌+◌, ◌<◌, ◌≤◌, ◌↔◌, ◌⊎◌, max, List, [], ◌∷◌, ◌++◌, take, length, slice_get, Some, Err}
use Rattle.chart.specs.Words.{Indices}
use Rattle.chart.specs.declared.history.Occurrence.{Occurrence}
use Rattle.chart.specs.declared.history.Occurrence.TheVariants.{Send, Receive, Close}
use Rattle.chart.specs.declared.event.Event.{Event}
use Rattle.chart.specs.Messages.{Content}
use Rattle.chart.specs.Events.{send_event, receive_event}
use Rattle.chart.specs.Histories.{by, sent, received, waiting, chart_of, IsLegal, Begins}
use Rattle.chart.specs.Charts.{Chart, Place, at, chart_event, IsSendTo, IsReceiveFrom, BelongsTo, HasNoSend, HasOtherName}
use Rattle.chart.specs.Places.{IsEvent, IsSendAfter}
use Rattle.chart.specs.Order.{Before, IsCyclic, IsReport, AreLineRaces, region_of_event}
use Rattle.chart.specs.Knowing.{IsKnown, IsGreatestHeard}
use Rattle.chart.specs.Keywords.{spelled}
use Rattle.chart.specs.Names.{name_of}
use Rattle.chart.specs.declared.keyword.Keyword.{Keyword}
use Rattle.chart.specs.declared.name.NameError.TheVariants.{Reserved}

-- Names.

-- each reserved word of the chart text is refused as a name, since it is reserved
abbrev pub KeywordLaw : Type 0
KeywordLaw = (keyword : Keyword) → name_of (spelled keyword) ≡ Err Reserved

-- Any chart.

-- suppose that the receive at i of p's line belongs to s, and s knows k of this line: an earlier event at j is before
-- the receive exactly if it is a receive from the same sender, or j is at most k
abbrev pub ReportLaw : Type 0
ReportLaw = (c : Chart) (s : Place) (p i j k : ℕ) → BelongsTo c s (at p i) → IsKnown c s p k → 1 ≤ j → j < i
    → Before c (at p j) (at p i) ↔ (IsReceiveFrom c s.instance (at p j) ⊎ (j ≤ k))

-- take the line as it was before the receive: its races later than what the send knows are the receive's report
abbrev pub RacesLaw : Type 0
RacesLaw = (c : Chart) (s : Place) (p i k region : ℕ) (races : Indices) → BelongsTo c s (at p (i + 1))
    → region_of_event (chart_event c (at p (i + 1))) ≡ region → IsKnown c s p k
    → AreLineRaces (take i (c p)) k s.instance region races → IsReport c (at p (i + 1)) races

-- a send at i of p's line knows i of this line, if it is the last or the chart has no cycle
abbrev pub OwnKnowledgeLaw : Type 0
OwnKnowledgeLaw = (c : Chart) (to p i : ℕ) → IsSendTo c to (at p i) → (length (c p) ≡ i) ⊎ (IsCyclic c → ⊥)
    → IsKnown c (at p i) p i

-- a send knows of another line the greatest heard by the earlier events of its own line
abbrev pub KnowledgeLaw : Type 0
KnowledgeLaw = (c : Chart) (to p i q k : ℕ) → IsSendTo c to (at p (i + 1)) → (q ≡ p → ⊥) → IsGreatestHeard c p i q k
    → IsKnown c (at p (i + 1)) q k

-- the greatest heard is 0 at first
abbrev pub FirstHearingLaw : Type 0
FirstHearingLaw = (c : Chart) (p q : ℕ) → IsGreatestHeard c p 0 q 0

-- after a receive it is the larger of what it was and what the send knows
abbrev pub ReceiveHearingLaw : Type 0
ReceiveHearingLaw = (c : Chart) (s : Place) (p n q k m : ℕ) → IsGreatestHeard c p n q k → BelongsTo c s (at p (n + 1))
    → IsKnown c s q m → IsGreatestHeard c p (n + 1) q (max k m)

-- after a send it is what it was
abbrev pub SendHearingLaw : Type 0
SendHearingLaw = (c : Chart) (to p n q k : ℕ) → IsGreatestHeard c p n q k → IsSendTo c to (at p (n + 1))
    → IsGreatestHeard c p (n + 1) q k

-- Legal histories.

-- no receive lacks a send
abbrev pub NoSendLaw : Type 0
NoSendLaw = (n k : ℕ) (h : List Occurrence) → IsLegal n k h → (r : Place) → HasNoSend (chart_of h) r → ⊥

-- no receive has another name than its send
abbrev pub OtherNameLaw : Type 0
OtherNameLaw = (n k : ℕ) (h : List Occurrence) → IsLegal n k h → (r : Place) → HasOtherName (chart_of h) r → ⊥

-- each receive belongs to a send
abbrev pub SendLaw : Type 0
SendLaw = (n k : ℕ) (h : List Occurrence) → IsLegal n k h → (from : ℕ) (r : Place) → IsReceiveFrom (chart_of h) from r
    → (s : Place) × BelongsTo (chart_of h) s r

-- no event is before itself
abbrev pub NoCycleLaw : Type 0
NoCycleLaw = (n k : ℕ) (h : List Occurrence) → IsLegal n k h → IsCyclic (chart_of h) → ⊥

-- What one more occurrence adds.

-- an occurrence of another instance leaves a line as it is
abbrev pub OtherLineLaw : Type 0
OtherLineLaw = (h : List Occurrence) (e : Occurrence) (p : ℕ) → (by e ≡ p → ⊥) → chart_of (e ∷ h) p ≡ chart_of h p

-- a close leaves each line as it is
abbrev pub CloseLineLaw : Type 0
CloseLineLaw = (h : List Occurrence) (p q r : ℕ) → chart_of (Close p q ∷ h) r ≡ chart_of h r

-- a send is the last of its line
abbrev pub SendLineLaw : Type 0
SendLineLaw = (h : List Occurrence) (p q : ℕ) (m : Content)
    → chart_of (Send p q m ∷ h) p ≡ chart_of h p ++ send_event q m.name ∷ []

-- a receive is the last of its line, and has the name of the first message that waited
abbrev pub ReceiveLineLaw : Type 0
ReceiveLineLaw = (h : List Occurrence) (p q c : ℕ) (m : Content) (rest : List Content) → waiting h q p ≡ m ∷ rest
    → chart_of (Receive p q c ∷ h) p ≡ chart_of h p ++ receive_event q m.name c ∷ []

-- the number of earlier sends of a new send's lane is that of the messages that were sent
abbrev pub NewSendLaw : Type 0
NewSendLaw = (h : List Occurrence) (p q : ℕ) (m : Content)
    → IsSendAfter (chart_of (Send p q m ∷ h) p) q (length (sent h p q)) (length (chart_of h p) + 1)

-- it knows all events of its own line, including itself
abbrev pub NewSendOwnLaw : Type 0
NewSendOwnLaw = (h : List Occurrence) (p q : ℕ) (m : Content)
    → IsKnown (chart_of (Send p q m ∷ h)) (at p (length (chart_of h p) + 1)) p (length (chart_of h p) + 1)

-- it knows of another line the greatest heard of it
abbrev pub NewSendKnowledgeLaw : Type 0
NewSendKnowledgeLaw = (n k : ℕ) (h : List Occurrence) → IsLegal n k h → (p q : ℕ) (m : Content) (r l : ℕ) → (r ≡ p → ⊥)
    → IsGreatestHeard (chart_of h) p (length (chart_of h p)) r l
    → IsKnown (chart_of (Send p q m ∷ h)) (at p (length (chart_of h p) + 1)) r l

-- it hears nothing
abbrev pub NewSendHearingLaw : Type 0
NewSendHearingLaw = (n k : ℕ) (h : List Occurrence) → IsLegal n k h → (p q : ℕ) (m : Content) (r l : ℕ)
    → IsGreatestHeard (chart_of h) p (length (chart_of h p)) r l
    → IsGreatestHeard (chart_of (Send p q m ∷ h)) p (length (chart_of h p) + 1) r l

-- each message of a lane has its send on its sender's line, with its name
abbrev pub MessageSendLaw : Type 0
MessageSendLaw = (h : List Occurrence) (q p i : ℕ) (m : Content) → slice_get (sent h q p) i ≡ Some m
    → (j : ℕ) × IsSendAfter (chart_of h q) p i j × (chart_event (chart_of h) (at q j) ≡ Some (send_event p m.name))

-- and only one send
abbrev pub OneSendLaw : Type 0
OneSendLaw = (line : List Event) (p i j l : ℕ) → IsSendAfter line p i j → IsSendAfter line p i l → j ≡ l

-- a new receive belongs to the send of the first message that waited
abbrev pub NewReceiveLaw : Type 0
NewReceiveLaw = (n k : ℕ) (h : List Occurrence) → IsLegal n k h → (p q c : ℕ) (m : Content) (rest : List Content)
    → waiting h q p ≡ m ∷ rest → (j : ℕ) → IsSendAfter (chart_of h q) p (received h q p) j
    → BelongsTo (chart_of (Receive p q c ∷ h)) (at q j) (at p (length (chart_of h p) + 1))

-- it hears what that send knows
abbrev pub NewReceiveHearingLaw : Type 0
NewReceiveHearingLaw = (n k : ℕ) (h : List Occurrence) → IsLegal n k h → (p q c : ℕ) (m : Content) (rest : List Content)
    → waiting h q p ≡ m ∷ rest → (j : ℕ) → IsSendAfter (chart_of h q) p (received h q p) j → (r heard known : ℕ)
    → IsGreatestHeard (chart_of h) p (length (chart_of h p)) r heard → IsKnown (chart_of h) (at q j) r known
    → IsGreatestHeard (chart_of (Receive p q c ∷ h)) p (length (chart_of h p) + 1) r (max heard known)

-- its report is the races of the line later than what that send knows of it
abbrev pub NewReportLaw : Type 0
NewReportLaw = (n k : ℕ) (h : List Occurrence) → IsLegal n k h → (p q c : ℕ) (m : Content) (rest : List Content)
    → waiting h q p ≡ m ∷ rest → (j : ℕ) → IsSendAfter (chart_of h q) p (received h q p) j
    → (known : ℕ) (races : Indices) → IsKnown (chart_of h) (at q j) p known → AreLineRaces (chart_of h p) known q c races
    → IsReport (chart_of (Receive p q c ∷ h)) (at p (length (chart_of h p) + 1)) races

-- What stays the same in each history that begins with another one, which is legal in most of these laws.

-- a beginning of a legal history is legal
abbrev pub LegalGrowthLaw : Type 0
LegalGrowthLaw = (n k : ℕ) (h g : List Occurrence) → Begins h g → IsLegal n k g → IsLegal n k h

-- the event at a place
abbrev pub PlaceGrowthLaw : Type 0
PlaceGrowthLaw = (h g : List Occurrence) → Begins h g → (e : Place) → IsEvent (chart_of h) e
    → chart_event (chart_of g) e ≡ chart_event (chart_of h) e

-- where a send of a lane is
abbrev pub SendGrowthLaw : Type 0
SendGrowthLaw = (h g : List Occurrence) → Begins h g → (q p i j : ℕ) → IsSendAfter (chart_of h q) p i j
    → IsSendAfter (chart_of g q) p i j

-- which send a receive belongs to
abbrev pub BelongingGrowthLaw : Type 0
BelongingGrowthLaw = (n k : ℕ) (h g : List Occurrence) → IsLegal n k h → Begins h g → (s r : Place)
    → IsEvent (chart_of h) r → BelongsTo (chart_of h) s r ↔ BelongsTo (chart_of g) s r

-- what is before an event
abbrev pub OrderGrowthLaw : Type 0
OrderGrowthLaw = (n k : ℕ) (h g : List Occurrence) → IsLegal n k h → Begins h g → (e f : Place) → IsEvent (chart_of h) f
    → Before (chart_of h) e f ↔ Before (chart_of g) e f

-- what an event knows of each line
abbrev pub KnowledgeGrowthLaw : Type 0
KnowledgeGrowthLaw = (n k : ℕ) (h g : List Occurrence) → IsLegal n k h → Begins h g → (s : Place) (p m : ℕ)
    → IsEvent (chart_of h) s → IsKnown (chart_of h) s p m → IsKnown (chart_of g) s p m

-- a report
abbrev pub ReportGrowthLaw : Type 0
ReportGrowthLaw = (n k : ℕ) (h g : List Occurrence) → IsLegal n k h → Begins h g → (r : Place) (report : Indices)
    → IsEvent (chart_of h) r → IsReport (chart_of h) r report → IsReport (chart_of g) r report

-- the greatest heard of the first events of a line
abbrev pub HearingGrowthLaw : Type 0
HearingGrowthLaw = (n k : ℕ) (h g : List Occurrence) → IsLegal n k h → Begins h g → (p i q m : ℕ)
    → i ≤ length (chart_of h p) → IsGreatestHeard (chart_of h) p i q m → IsGreatestHeard (chart_of g) p i q m

-- What exists exactly once in a legal history's chart.

-- what a send knows of a line
abbrev pub OneKnowledgeLaw : Type 0
OneKnowledgeLaw = (n k : ℕ) (h : List Occurrence) → IsLegal n k h → (to : ℕ) (s : Place) (p : ℕ)
    → IsSendTo (chart_of h) to s → (m : ℕ) × IsKnown (chart_of h) s p m × ((l : ℕ) → IsKnown (chart_of h) s p l → l ≡ m)

-- the greatest heard of the first events of a line
abbrev pub OneHearingLaw : Type 0
OneHearingLaw = (n k : ℕ) (h : List Occurrence) → IsLegal n k h → (p i q : ℕ) → i ≤ length (chart_of h p)
    → (m : ℕ) × IsGreatestHeard (chart_of h) p i q m × ((l : ℕ) → IsGreatestHeard (chart_of h) p i q l → l ≡ m)

-- the report of a receive
abbrev pub OneReportLaw : Type 0
OneReportLaw = (n k : ℕ) (h : List Occurrence) → IsLegal n k h → (from : ℕ) (r : Place)
    → IsReceiveFrom (chart_of h) from r
    → (report : Indices) × IsReport (chart_of h) r report
    × ((other : Indices) → IsReport (chart_of h) r other → other ≡ report)
