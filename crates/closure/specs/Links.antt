-- The other end of each event's message, and how the sends of a lane are passed along the sender's line. Lanes are
-- first in, first out, as Alur, Holzmann and Peled 1996 have them.
use Rattle.std.specs.Prelude.{◌≡◌, ℕ, suc, ◌+◌, ◌<◌, ◌≤◌, true, List, length, slice_index, Some}
use Rattle.chart.specs.Words.{Counts}
use Rattle.chart.specs.declared.event.Event.{Event}
use Rattle.chart.specs.declared.instance.EventNo.{EventNo}
use Rattle.chart.specs.Events.{ith, tally, is_send_to, is_receive_from, name_of}
use Rattle.chart.specs.Charts.{Chart, Place, at, chart_event, LineView, IsSendTo, BelongsTo, HasNoSend, HasOtherName, chart_lines}
use Rattle.closure.specs.declared.error.ChartError.{ChartError}
use Rattle.closure.specs.declared.error.ChartError.TheVariants.{ReceiveWithoutSend, NameMismatch, Cyclic, Memory}
use Rattle.closure.specs.declared.linking.Fault.{Fault}
use Rattle.closure.specs.declared.linking.Fault.TheVariants.{NoSend, OtherName}
use Rattle.closure.specs.declared.partner.Partner.{Partner}
use Rattle.closure.specs.declared.partner.Partner.TheVariants.{Receiver, Sender}
use Rattle.closure.specs.Faults.{place_of, IsFaulty}

-- the events at s and at r have the same name
abbrev pub HasSameName : Chart → Place → Place → Type 0
HasSameName c s r = (a b : Event) → chart_event c s ≡ Some a → chart_event c r ≡ Some b → name_of a ≡ name_of b

-- the event at r is a send to this line; or it is a receive that belongs to the send at this index of that line, with
-- its name
abbrev pub IsPartner : List LineView → Place → Partner → Type 0
IsPartner lines r (Receiver line) = (line < length lines) × IsSendTo (chart_lines lines) (suc line) r
IsPartner lines r (Sender line index) = (line < length lines) × BelongsTo (chart_lines lines) (at (suc line) index) r
    × HasSameName (chart_lines lines) (at (suc line) index) r

-- the event at j is the next send to q after the first `passed` events
pub record IsNextSend (line : List Event) (q passed j : ℕ) : Type 0 where
  pub begun : 1 ≤ j
  pub within : j ≤ length line
  pub send : (m : Event) × (ith line j ≡ Some m) × (is_send_to q m ≡ true)
  pub turn : tally (is_send_to q) line j ≡ tally (is_send_to q) line passed + 1

-- for the first k events of the line at p: the passed events of each sender's line have as many sends to this line as
-- there are receives from this sender
pub record HasPassed (c : Chart) (n p k : ℕ) (passed : Counts) : Type 0 where
  pub same : length passed ≡ n
  pub within : (q : ℕ) → q < n → slice_index passed q ≤ length (c (suc q))
  pub turn : (q : ℕ) → q < n → tally (is_send_to (suc p)) (c (suc q)) (slice_index passed q)
      ≡ tally (is_receive_from (suc q)) (c (suc p)) k

-- what is wrong with the receive
abbrev pub IsFaultOf : Chart → Place → Fault → Type 0
IsFaultOf c r NoSend = HasNoSend c r
IsFaultOf c r OtherName = HasOtherName c r

-- the refusal of a chart whose receive has the fault
abbrev pub refusal_of : Fault → EventNo → ChartError
refusal_of NoSend r = ReceiveWithoutSend r
refusal_of OtherName r = NameMismatch r

-- the refusal names the first faulty receive of p's line
abbrev pub RefusesLine : Chart → ℕ → ChartError → Type 0
RefusesLine c p (ReceiveWithoutSend e) = (e.instance ≡ p) × HasNoSend c (place_of e)
    × ((i : ℕ) → i < e.index → IsFaulty c (at p i) → ⊥)
RefusesLine c p (NameMismatch e) = (e.instance ≡ p) × HasOtherName c (place_of e)
    × ((i : ℕ) → i < e.index → IsFaulty c (at p i) → ⊥)
RefusesLine c p Cyclic = ⊥
RefusesLine c p Memory = Unit {0}
