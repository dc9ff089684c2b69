-- How a handle's contents are copied out: as much as there is room for (this project's profile).
use Rattle.std.specs.Prelude.{◌≡◌, ℕ, ◌-◌, ◌^◌, min, List, ◌++◌, length, take, drop, map, Option, None, Some, Result, Ok, Err}
use Rattle.std.specs.Borrow.{Bor}
use Rattle.chart.specs.declared.instance.EventNo.{EventNo}
use Rattle.board.specs.declared.answer.Arrival.{Arrival}
use Rattle.c_board.specs.Came.{picked}
use Rattle.c_board.specs.declared.came.Which.{Which}
use Rattle.c_board.specs.declared.misuse.Misuse.{Misuse}
use Rattle.c_board.specs.declared.misuse.Misuse.TheVariants.{NoPost, NoMessage}
use Rattle.c_board.specs.PostStates.{PostStateView}

-- the first elements of the first list, as many as there is room for, and after them the second list's old ones
abbrev pub put_over : {X : Type 0} → List X → List X → List X
put_over items room = take (length room) items ++ drop (length items) room

-- the selected one of the messages that the post received last: without a post, and without such a message, a misuse
abbrev pub arrival_or : Option Arrival → Result Arrival Misuse
arrival_or None = Err NoMessage
arrival_or (Some arrival) = Ok arrival

abbrev pub arrival_in : Which → Option PostStateView → Result Arrival Misuse
arrival_in which None = Err NoPost
arrival_in which (Some state) = arrival_or (picked which state.came)

-- the result borrows this message, or is this misuse
abbrev pub IsSeenIn : Result Arrival Misuse → Result (Bor Arrival) Misuse → Type 0
IsSeenIn its (Ok seen) = its ≡ Ok seen.now
IsSeenIn its (Err how) = its ≡ Err how

abbrev pub name_in : Arrival → List ℕ
name_in arrival = arrival.message.name

abbrev pub body_in : Arrival → List ℕ
body_in arrival = arrival.message.body

-- the numbers of events
abbrev pub indices : List EventNo → List ℕ
indices events = map (λ (event : EventNo). event.index) events

-- how many they are
abbrev pub counted : List EventNo → ℕ
counted events = min (length events) (2 ^ 64 - 1)

-- a part of the message is copied out, and its whole length is the answer; without a message the call is this misuse
abbrev pub CopiesOut : (Arrival → List ℕ) → Result Arrival Misuse → List ℕ → Result ℕ Misuse → List ℕ → Type 0
CopiesOut what (Err how) room result out = (result ≡ Err how) × (out ≡ room)
CopiesOut what (Ok arrival) room result out = (result ≡ Ok (length (what arrival)))
    × (out ≡ put_over (what arrival) room)

-- the races of the message are copied out: the numbers of the earlier events
abbrev pub CopiesRaces : Result Arrival Misuse → List ℕ → Result ℕ Misuse → List ℕ → Type 0
CopiesRaces (Err how) room result out = (result ≡ Err how) × (out ≡ room)
CopiesRaces (Ok arrival) room result out = (result ≡ Ok (counted arrival.report.earlier))
    × (out ≡ put_over (indices arrival.report.earlier) room)
