-- The numbers that C gets (this project's profile): 0 for done, 1 if nothing waits, 2 for ended, and for a refusal its
-- number, below 0.
use Rattle.std.specs.Prelude.{◌≡◌, ℕ, cond, List, Option, Result, Ok, Err}
use lib.IntN.{ℤ, pos, neg_ℤ}
use Rattle.board.specs.declared.answer.Arrival.{Arrival}
use Rattle.chart.specs.declared.instance.EventNo.{EventNo}
use Rattle.c_board.specs.declared.found.Arrived.{Arrived}
use Rattle.c_board.specs.declared.found.Found.{Found}
use Rattle.c_board.specs.declared.found.Found.TheVariants.{Message, Nothing, Ended}
use Rattle.c_board.specs.declared.kept.Kept.{Kept}
use Rattle.c_board.specs.declared.closing.CloseRefusal.{CloseRefusal}
use Rattle.c_board.specs.declared.events.EventRefusal.{EventRefusal}
use Rattle.c_board.specs.declared.found.MessageLengths.{MessageLengths}
use Rattle.c_board.specs.declared.misuse.Misuse.{Misuse}
use Rattle.c_board.specs.declared.misuse.Numbering.TheVariants.{Alike}
use Rattle.c_board.specs.declared.receiving.AnyRefusal.{AnyRefusal}
use Rattle.c_board.specs.declared.receiving.TakeRefusal.{TakeRefusal}
use Rattle.c_board.specs.declared.regions.RegionRefusal.{RegionRefusal}
use Rattle.c_board.specs.declared.reserving.ReserveRefusal.{ReserveRefusal}
use Rattle.c_board.specs.declared.sending.SendRefusal.{SendRefusal}
use Rattle.c_board.specs.Contents.{post_in}
use Rattle.c_board.specs.Refusals.{of_misuse}
use Rattle.c_board.specs.Sending.{HandleSends, of_unsent}
use Rattle.c_board.specs.SendingAll.{HandleSendsAll}
use Rattle.c_board.specs.Receiving.{HandleTakes, HandleTakesAny, arrived_after, of_untaken, of_none_taken}
use Rattle.c_board.specs.Closing.{HandleCloses, of_unclosed}
use Rattle.c_board.specs.Copying as races
use Rattle.c_board.specs.Copying.{CopiesOut, arrival_in}
use Rattle.c_board.specs.declared.came.Which.{Which}
use Rattle.c_board.specs.declared.found.EventInfo.{EventInfo}
use Rattle.c_board.specs.Regions.{HandleOpens, HandleShuts, of_unchanged}
use Rattle.c_board.specs.Reserving.{HandleReserves, of_unreserved}
use Rattle.c_board.specs.EventInfos.{HandleCopies, of_unseen}
use Rattle.msc.specs.declared.answers.MscEvent.{MscEvent}

-- a refusal's number, below 0
abbrev pub code_of : ℕ → ℤ
code_of number = neg_ℤ (pos number)

-- the number of a call that was done or refused, where refusals have these numbers
abbrev pub done_code : {A E : Type 0} → (E → ℕ) → Result A E → ℤ
done_code number (Ok done) = pos 0
done_code number (Err refusal) = code_of (number refusal)

-- the number of what a receive found, or of its refusal
abbrev pub found_code : {E : Type 0} → (E → ℕ) → Result Found E → ℤ
found_code number (Ok (Message arrived)) = pos 0
found_code number (Ok Nothing) = pos 1
found_code number (Ok Ended) = pos 2
found_code number (Err refusal) = code_of (number refusal)

-- the number of the event, or otherwise what was there before
abbrev pub event_after : {E : Type 0} → ℕ → Result EventNo E → ℕ
event_after before (Ok event) = event.index
event_after before (Err refusal) = before

-- a number, or otherwise what was there before
abbrev pub number_after : {E : Type 0} → ℕ → Result ℕ E → ℕ
number_after before (Ok number) = number
number_after before (Err refusal) = before

-- What C gets from a call: its number, and the output written through a pointer, where something was before.
pub record Got (T : Type 0) : Type 0 where
  pub code : ℤ
  pub before : T
  pub output : T

-- what a send, a receive, .. answers: some answer of the handle's call has this code and this output
abbrev pub Sends : Option Kept → ℕ → List ℕ → List ℕ → Got ℕ → Option Kept → Type 0
Sends old to name body got new = (answer : Result EventNo SendRefusal)
    × HandleSends old to name body answer new × (got.code ≡ done_code (of_unsent Alike) answer)
    × (got.output ≡ event_after got.before answer)

abbrev pub SendsAll : Option Kept → ℕ → List ℕ → List MessageLengths → Got ℕ → Option Kept → Type 0
SendsAll old to bytes lengths got new = (answer : Result ℕ SendRefusal)
    × HandleSendsAll old to bytes lengths answer new × (got.code ≡ done_code (of_unsent Alike) answer)
    × (got.output ≡ number_after got.before answer)

abbrev pub Takes : Option Kept → ℕ → Got Arrived → Option Kept → Type 0
Takes old from got new = (answer : Result Found TakeRefusal)
    × HandleTakes old from answer new × (got.code ≡ found_code (of_untaken Alike) answer) × (got.output ≡ arrived_after got.before answer)

abbrev pub TakesAny : Option Kept → Got Arrived → Option Kept → Type 0
TakesAny old got new = (answer : Result Found AnyRefusal)
    × HandleTakesAny old answer new × (got.code ≡ found_code (of_none_taken Alike) answer) × (got.output ≡ arrived_after got.before answer)

abbrev pub Closes : Option Kept → ℕ → ℤ → Option Kept → Type 0
Closes old to code new = (answer : Result (Unit {0}) CloseRefusal) × HandleCloses old to answer new
    × (code ≡ done_code (of_unclosed Alike) answer)

-- what is copied out of the selected one of the messages that were received last, and its whole length
abbrev pub Copies : (Arrival → List ℕ) → Which → Option Kept → List ℕ → Got ℕ → List ℕ → Type 0
Copies what which old room got out = (answer : Result ℕ Misuse)
    × CopiesOut what (arrival_in which (post_in old)) room answer out × (got.code ≡ done_code (of_misuse Alike) answer)
    × (got.output ≡ number_after got.before answer)

abbrev pub CopiesRaces : Which → Option Kept → List ℕ → Got ℕ → List ℕ → Type 0
CopiesRaces which old room got out = (answer : Result ℕ Misuse)
    × races.CopiesRaces (arrival_in which (post_in old)) room answer out × (got.code ≡ done_code (of_misuse Alike) answer)
    × (got.output ≡ number_after got.before answer)

abbrev pub OpensRegion : Option Kept → ℤ → Option Kept → Type 0
OpensRegion old code new = (answer : Result (Unit {0}) RegionRefusal) × HandleOpens old answer new × (code ≡ done_code (of_unchanged Alike) answer)

abbrev pub ShutsRegion : Option Kept → ℤ → Option Kept → Type 0
ShutsRegion old code new = (answer : Result (Unit {0}) RegionRefusal) × HandleShuts old answer new × (code ≡ done_code (of_unchanged Alike) answer)

-- the description of an event, field by field: 1 means a receive
abbrev pub event_from : EventInfo → MscEvent
event_from output = record {
  receives = cond output.receives 1 0;
  partner = output.partner;
  region = output.region;
  name_length = output.name;
}

-- this description, or otherwise the one before
abbrev pub filled_event : {E : Type 0} → MscEvent → Result EventInfo E → MscEvent
filled_event before (Ok output) = event_from output
filled_event before (Err refusal) = before

abbrev pub CopiesEvent : Option Kept → ℕ → List ℕ → Got MscEvent → List ℕ → Type 0
CopiesEvent old number room got out = (answer : Result EventInfo EventRefusal)
    × HandleCopies old number room answer out × (got.code ≡ done_code (of_unseen Alike) answer) × (got.output ≡ filled_event got.before answer)

abbrev pub Reserves : Option Kept → ℕ → ℤ → Option Kept → Type 0
Reserves old events code new = (answer : Result (Unit {0}) ReserveRefusal) × HandleReserves old events answer new
    × (code ≡ done_code (of_unreserved Alike) answer)
