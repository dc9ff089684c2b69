-- What is answered of a pair of events: how it is enforced, what hides it, the chart in which it is enforced, or why no
-- message between the two instances makes it so (this project's profile).
use Rattle.std.specs.Prelude.{◌≡◌, ◌≢◌, ℕ, ◌≤◌, ◌⊎◌, ◌↔◌, true, List, length, map, Some}
use Rattle.chart.specs.declared.event.Event.{Event}
use Rattle.chart.specs.declared.line.TheConstants.{MAX_EVENTS}
use Rattle.chart.specs.Events.{is_receive_from, is_in, tally}
use Rattle.chart.specs.Charts.{Chart, Place, chart_event, BelongsTo, IsPossible, LineView, chart_lines}
use Rattle.chart.specs.Order.{Before, region_of_event}
use Rattle.chart.specs.Places.{IsSendAfter}
use Rattle.chart.specs.Reports.{AreReports}
use Rattle.closure.specs.Faults.{place_of}
use Rattle.closure.specs.Chain.Chains.{IsShortestChain}
use Rattle.repair.specs.Messages.{NewMessage, IsWith, new_send, new_receive, moved, IsRace, EndsBehind, CanInform, informing, NoMessage}
use Rattle.repair.specs.Crossings.{IsFirstAfter, IsBeforeNone}
use Rattle.repair.specs.Growing.{message_of, line_with}
use Rattle.repair.specs.declared.error.MendError.{MendError}
use Rattle.repair.specs.declared.error.MendError.TheVariants.{LineFull, Memory}
use Rattle.repair.specs.declared.mending.Mending.{Mending}
use Rattle.repair.specs.declared.mending.Mending.TheVariants.{Enforced, Hidden, Crossed, OnItsWay, Mended}
use Rattle.repair.specs.declared.message.Message.{Message}

-- d is the chart with the message more: it is possible, each old receive keeps its send and the new one has the new one's,
-- what was enforced still is, so that no two old events become a race, and the pair is
pub record IsMended (n : ℕ) (c : Chart) (e r : Place) (m : NewMessage) (d : Chart) : Type 0 where
  pub added : IsWith m c d
  pub possible : IsPossible n d
  pub belongs : BelongsTo d (new_send m) (new_receive m)
  pub kept : (s t : Place) → BelongsTo c s t ↔ BelongsTo d (moved m c s) (moved m c t)
  pub order : (x y : Place) → Before c x y → Before d (moved m c x) (moved m c y)
  pub races : (x y : Place) → IsRace d (moved m c x) (moved m c y) → IsRace c x y
  pub enforced : Before d (moved m c e) (moved m c r)

-- r's send is s, and e with its coregion is among the first k events of their line
pub record IsAsked (c : Chart) (e r s : Place) (k : ℕ) : Type 0 where
  pub race : IsRace c e r
  pub belongs : BelongsTo c s r
  pub ends : EndsBehind (c e.instance) e.index k

-- the send s is before this event first of their line, so that no message can inform of them
pub record Crosses (n : ℕ) (c : Chart) (e r x : Place) : Type 0 where
  pub send : Place
  pub many : ℕ
  pub asked : IsAsked c e r send many
  pub line : x.instance ≡ e.instance
  pub first : IsFirstAfter c send e.instance x.index
  pub among : x.index ≤ many
  pub none : NoMessage n c e.instance send.instance e r

-- it is before none of them, and this one of their sends to s's line is the first that isn't received there before s
pub record Waits (n : ℕ) (c : Chart) (e r x : Place) : Type 0 where
  pub send : Place
  pub many : ℕ
  pub asked : IsAsked c e r send many
  pub uncrossed : IsBeforeNone c send e.instance many
  pub line : x.instance ≡ e.instance
  pub first : IsSendAfter (c e.instance) send.instance (tally (is_receive_from e.instance) (c send.instance) send.index)
      x.index
  pub among : x.index ≤ many
  pub none : NoMessage n c e.instance send.instance e r

-- the chart with the message of this name that informs of them
pub record Informs (n : ℕ) (c : Chart) (e r : Place) (name : List ℕ) (m : Message) (lines : List LineView) : Type 0 where
  pub send : Place
  pub many : ℕ
  pub asked : IsAsked c e r send many
  pub message : message_of m ≡ informing e.instance many send name
  pub whole : length lines ≡ n
  pub mended : IsMended n c e r (message_of m) (chart_lines lines)

-- what is answered of the pair
abbrev pub Mends : ℕ → Chart → Place → Place → List ℕ → Mending → Type 0
Mends n c e r name (Enforced links) = Before c e r × IsShortestChain c e r links.items
Mends n c e r name Hidden = (Before c e r → ⊥)
    × ((m : Event) × (chart_event c e ≡ Some m) × (is_in (region_of_event (chart_event c r)) m ≡ true))
Mends n c e r name (Crossed x) = Crosses n c e r (place_of x)
Mends n c e r name (OnItsWay x) = Waits n c e r (place_of x)
Mends n c e r name (Mended m chart reports) = Informs n c e r name m chart

-- the chart that is answered has the lines of the old one, with the message's send and its receive, and nothing else; its
-- reports are answered too
abbrev pub IsMadeOf : List LineView → Mending → Type 0
IsMadeOf lines (Enforced links) = Unit {0}
IsMadeOf lines Hidden = Unit {0}
IsMadeOf lines (Crossed x) = Unit {0}
IsMadeOf lines (OnItsWay x) = Unit {0}
IsMadeOf lines (Mended m chart reports) = (chart ≡ map (line_with (message_of m)) lines)
    × AreReports chart reports.items

-- there would be a message, but this line, the sender's or else the receiver's, has no room for it
pub record IsFull (c : Chart) (e r : Place) (p : ℕ) : Type 0 where
  pub send : Place
  pub many : ℕ
  pub asked : IsAsked c e r send many
  pub can : CanInform c e.instance many send
  pub full : ((p ≡ e.instance) × (length (c e.instance) ≡ MAX_EVENTS))
      ⊎ ((p ≡ send.instance) × (length (c e.instance) ≢ MAX_EVENTS) × (length (c send.instance) ≡ MAX_EVENTS))

-- what a refusal says
abbrev pub Fails : Chart → Place → Place → MendError → Type 0
Fails c e r (LineFull p) = IsFull c e r p
Fails c e r Memory = Unit {0}
