-- The order of what is read of a log by clocks.
use Rattle.std.specs.Prelude.{◌≡◌, ℕ, ◌<◌, ◌⊎◌, true, List, [], Some, Contains, slice_get, is_some}
use Rattle.log_lines.specs.Events.{LoggedEventView}
use Rattle.log_lines.specs.Reading.{ReadView}
use Rattle.log_lines.specs.declared.event.Act.TheVariants.{Send, Receive}
use Rattle.log_formats.specs.Clocks.Moments.{MomentView}
use Rattle.log_formats.specs.Clocks.Saying.{moments_in, by_clocks}
use Rattle.log_formats.specs.Clocks.VectorTime.{AreAt, IsVectorTime, IsLess}

-- all lines have vector time, and no event is read by its words
pub record IsByClocks (log : ReadView) : Type 0 where
  pub no_lines : log.logged ≡ []
  pub no_words : (e : MomentView) → Contains (moments_in log) e → is_some e.worded.others ≡ true

-- a receive may take a send: it has its lane and its id
pub record MayTake (x y : LoggedEventView) : Type 0 where
  pub sends : x.event.act ≡ Send
  pub receives : y.event.act ≡ Receive
  pub host : y.event.host ≡ x.event.peer
  pub peer : y.event.peer ≡ x.event.host
  pub id : y.event.id ≡ x.event.id

-- one event is above another one on its host's line
pub record IsAbove (read : List LoggedEventView) (a b : ℕ) : Type 0 where
  pub x : LoggedEventView
  pub y : LoggedEventView
  pub x_at : slice_get read a ≡ Some x
  pub y_at : slice_get read b ≡ Some y
  pub less : a < b
  pub host : x.event.host ≡ y.event.host

-- one is a send, and the other is a receive that may take it
pub record IsTaken (read : List LoggedEventView) (a b : ℕ) : Type 0 where
  pub x : LoggedEventView
  pub y : LoggedEventView
  pub x_at : slice_get read a ≡ Some x
  pub y_at : slice_get read b ≡ Some y
  pub takes : MayTake x y

-- one event comes before another one in what is read: on its host's line, or as a send before a receive that may take
-- it, or by several such steps
pub data IsReadBefore : List LoggedEventView → ℕ → ℕ → Type 0 where
  above : {read : List LoggedEventView} {a b : ℕ} → IsAbove read a b → IsReadBefore read a b
  taken : {read : List LoggedEventView} {a b : ℕ} → IsTaken read a b → IsReadBefore read a b
  step : {read : List LoggedEventView} {a c : ℕ} (b : ℕ) → IsReadBefore read a b → IsReadBefore read b c → IsReadBefore read a c

-- an event that is read is of an event of the log
pub record IsOf (e : MomentView) (x : LoggedEventView) : Type 0 where
  pub place : x.place ≡ e.place
  pub host : x.event.host ≡ e.clocked.host

-- two events that are read are of one event, or of two whose clocks are in this order
pub record AreReadInOrder (events : List MomentView) (read : List LoggedEventView) (a b : ℕ) : Type 0 where
  pub x : LoggedEventView
  pub y : LoggedEventView
  pub x_at : slice_get read a ≡ Some x
  pub y_at : slice_get read b ≡ Some y
  pub i : ℕ
  pub j : ℕ
  pub from : MomentView
  pub to : MomentView
  pub at : AreAt events i j from to
  pub x_of : IsOf from x
  pub y_of : IsOf to y
  pub order : (i ≡ j) ⊎ IsLess from.stamps to.stamps

-- in what is read by clocks that are vector time, an event is before another only if the clocks say so
abbrev pub ReadLaw : Type 0
ReadLaw = (log : ReadView) → IsByClocks log → IsVectorTime (moments_in log) → (a b : ℕ) → IsReadBefore (by_clocks log).logged a b
    → AreReadInOrder (moments_in log) (by_clocks log).logged a b
