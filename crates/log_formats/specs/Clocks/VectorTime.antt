-- Vector time (Fidge 1988, Mattern 1989), and which events come before which (Lamport 1978).
use Rattle.std.specs.Prelude.{◌≡◌, ℕ, ◌<◌, ◌≤◌, List, Some, Contains, slice_get}
use Rattle.log_lines.specs.Reading.{ReadView}
use Rattle.log_formats.specs.Clocks.Messages.{IsMessage}
use Rattle.log_formats.specs.Clocks.Moments.{MomentView}
use Rattle.log_formats.specs.Clocks.Saying.{moments_in}
use Rattle.log_formats.specs.Clocks.Stamps.{StampView, count_of}

-- the events at two places of a log
pub record AreAt (events : List MomentView) (i j : ℕ) (e f : MomentView) : Type 0 where
  pub one : slice_get events i ≡ Some e
  pub other : slice_get events j ≡ Some f

-- an event is later on its host's line, and clocks give the numbers of both
pub record IsLater (events : List MomentView) (i j : ℕ) : Type 0 where
  pub from : MomentView
  pub to : MomentView
  pub at : AreAt events i j from to
  pub less : i < j
  pub same : from.clocked.host ≡ to.clocked.host
  pub from_counted : 0 < from.own
  pub to_counted : 0 < to.own

-- a message goes from one to the other
pub record GoesTo (events : List MomentView) (i j : ℕ) : Type 0 where
  pub from : MomentView
  pub to : MomentView
  pub at : AreAt events i j from to
  pub message : IsMessage events from to

-- one event comes before another one: along a host's line, by a message, or by several such steps
pub data ComesBefore : List MomentView → ℕ → ℕ → Type 0 where
  along : {events : List MomentView} {i j : ℕ} → IsLater events i j → ComesBefore events i j
  message : {events : List MomentView} {i j : ℕ} → GoesTo events i j → ComesBefore events i j
  over : {events : List MomentView} {i k : ℕ} (j : ℕ) → ComesBefore events i j → ComesBefore events j k → ComesBefore events i k

-- an event knows another one, by its clock
abbrev pub Knows : MomentView → MomentView → Type 0
Knows f e = e.own ≤ count_of f.stamps e.clocked.host

-- clocks are vector time: each has one entry of a host; the own entries of a host's events grow; a clock is at least
-- that of each event that it knows; and no event knows one to which a message goes from it
pub record IsVectorTime (events : List MomentView) : Type 0 where
  pub once : (e : MomentView) (s : StampView) → Contains events e → Contains e.stamps s → count_of e.stamps s.host ≡ s.count
  pub counts : (i j : ℕ) → (later : IsLater events i j) → later.from.own < later.to.own
  pub least : (e f : MomentView) → Contains events e → Contains events f → 0 < e.own → Knows f e → (host : List ℕ) → count_of e.stamps host ≤ count_of f.stamps host
  pub ahead : (e f : MomentView) → IsMessage events e f → count_of e.stamps f.clocked.host < f.own

-- a clock is less than another: no entry is greater, and one is less
pub record IsLess (u v : List StampView) : Type 0 where
  pub none_greater : (host : List ℕ) → count_of u host ≤ count_of v host
  pub host : List ℕ
  pub less : count_of u host < count_of v host

-- the clocks of the events at two places are in this order
pub record AreInOrder (events : List MomentView) (i j : ℕ) : Type 0 where
  pub from : MomentView
  pub to : MomentView
  pub at : AreAt events i j from to
  pub less : IsLess from.stamps to.stamps

-- an event comes before another one only if their clocks say so
abbrev pub OrderLaw : Type 0
OrderLaw = (log : ReadView) → IsVectorTime (moments_in log) → (i j : ℕ) → ComesBefore (moments_in log) i j → AreInOrder (moments_in log) i j
