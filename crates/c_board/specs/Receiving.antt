-- What a receive over a handle answers, and how the message is described (this project's profile).
use Rattle.std.specs.Prelude.{◌≡◌, ℕ, ◌-◌, ◌^◌, true, false, List, [], ◌∷◌, length, slice_get, min, Option, Some, Result, Ok, Err}
use Rattle.chart.specs.declared.event.Event.{Event}
use Rattle.chart.specs.Events.{name_of}
use Rattle.board.specs.declared.answer.Arrival.{Arrival}
use Rattle.board.specs.declared.answer.Peek.{Peek}
use Rattle.board.specs.declared.answer.Peek.TheVariants as peek
use Rattle.board.specs.declared.answer.Taken.TheVariants as taken
use Rattle.board.specs.Views.{PostView, Sound, Stays, line_of}
use Rattle.board.specs.Taking.{IsGot, IsFoundEmpty, IsUntaken}
use Rattle.mailbox.specs.TakingAny.{TakesAny}
use Rattle.c_board.specs.declared.found.Arrived.{Arrived}
use Rattle.c_board.specs.declared.found.Found.{Found}
use Rattle.c_board.specs.declared.found.Found.TheVariants.{Message, Nothing, Ended}
use Rattle.c_board.specs.declared.kept.Kept.{Kept}
use Rattle.c_board.specs.declared.misuse.Misuse.TheVariants.{NoPost}
use Rattle.c_board.specs.declared.misuse.Numbering.{Numbering}
use Rattle.c_board.specs.declared.receiving.AnyRefusal.{AnyRefusal}
use Rattle.c_board.specs.declared.receiving.AnyRefusal.TheVariants as any
use Rattle.c_board.specs.declared.receiving.TakeRefusal.{TakeRefusal}
use Rattle.c_board.specs.declared.receiving.TakeRefusal.TheVariants as why
use Rattle.c_board.specs.Contents.{post_in, OverPost}
use Rattle.c_board.specs.PostStates.{PostStateView, Keeps}
use Rattle.c_board.specs.Refusals.{of_misuse, of_take}
use Rattle.c_board.specs.Sending.{IsNoInstance}

-- the description of a message: its sender, the number of its receive, the lengths of its name and its body, and how
-- many races its receive has
abbrev pub arrived_of : Arrival → Arrived
arrived_of arrival = record {
  from = arrival.from;
  event = arrival.report.receive.index;
  name = length arrival.message.name;
  body = length arrival.message.body;
  races = min (length arrival.report.earlier) (2 ^ 64 - 1);
}

-- what a receive finds, if the description of the message is in a place of its own
abbrev pub found_with : {E : Type 0} → Result Peek E → Arrived → Result Found E
found_with (Ok peek.Message) output = Ok (Message output)
found_with (Ok peek.Nothing) output = Ok Nothing
found_with (Ok peek.Ended) output = Ok Ended
found_with (Err refusal) output = Err refusal

-- the description after a receive: of the received message, or the old one if none was received
abbrev pub arrived_after : {E : Type 0} → Arrived → Result Found E → Arrived
arrived_after before (Ok (Message arrived)) = arrived
arrived_after before (Ok Nothing) = before
arrived_after before (Ok Ended) = before
arrived_after before (Err refusal) = before

-- the last event of the post's line has this name
abbrev pub IsLastNamed : PostView → List ℕ → Type 0
IsLastNamed post name = (event : Event) × (slice_get (line_of post) (length (line_of post) - 1) ≡ Some event)
    × (name_of event ≡ name)

-- the message stays in the handle, and this describes it; the post is of the same board
pub record IsOutput (arrival : Arrival) (arrived : Arrived) (old new : PostStateView) : Type 0 where
  pub output : arrived ≡ arrived_of arrival
  pub stays : new.came ≡ arrival ∷ []
  pub last : new.last ≡ arrival.from
  pub board : new.board_number ≡ old.board_number

-- what a receive answers for a seated post: the same as the post's own receive
abbrev pub PostTakes : PostStateView → ℕ → Result Found TakeRefusal → PostStateView → Type 0
PostTakes old from (Ok (Message arrived)) new = (arrival : Arrival) × IsOutput arrival arrived old new
    × Sound old.post new.post × IsGot old.post from arrival new.post
PostTakes old from (Ok Nothing) new = Keeps old new × Sound old.post new.post × Stays old.post new.post
    × IsFoundEmpty old.post from false new.post
PostTakes old from (Ok Ended) new = Keeps old new × Sound old.post new.post × Stays old.post new.post
    × IsFoundEmpty old.post from true new.post
PostTakes old from (Err (why.Misuse _)) new = ⊥
PostTakes old from (Err why.NoInstance) new = (new ≡ old) × IsNoInstance from
PostTakes old from (Err (why.Post refused)) new = Keeps old new × Sound old.post new.post × Stays old.post new.post
    × IsUntaken old.post from refused new.post

-- what a receive from any instance answers: the same as that of a mailbox which begins after the instance from which
-- the post received last
abbrev pub PostTakesAny : PostStateView → Result Found AnyRefusal → PostStateView → Type 0
PostTakesAny old (Ok (Message arrived)) new = (arrival : Arrival) × IsOutput arrival arrived old new
    × Sound old.post new.post × TakesAny old.post old.last (Ok (taken.Got arrival)) new.post
PostTakesAny old (Ok Nothing) new = Keeps old new × Sound old.post new.post
    × TakesAny old.post old.last (Ok taken.Nothing) new.post
PostTakesAny old (Ok Ended) new = Keeps old new × Sound old.post new.post
    × TakesAny old.post old.last (Ok taken.Ended) new.post
PostTakesAny old (Err (any.Misuse _)) new = ⊥
PostTakesAny old (Err (any.Post refused)) new = Keeps old new × Sound old.post new.post
    × TakesAny old.post old.last (Err refused) new.post

-- the same for a handle
abbrev pub HandleTakes : Option Kept → ℕ → Result Found TakeRefusal → Option Kept → Type 0
HandleTakes old from result new = OverPost (post_in old) old new (result ≡ Err (why.Misuse NoPost))
    (λ state after. PostTakes state from result after)

abbrev pub HandleTakesAny : Option Kept → Result Found AnyRefusal → Option Kept → Type 0
HandleTakesAny old result new = OverPost (post_in old) old new (result ≡ Err (any.Misuse NoPost))
    (λ state after. PostTakesAny state result after)

-- the numbers of these refusals
abbrev pub of_untaken : Numbering → TakeRefusal → ℕ
of_untaken misuses (why.Misuse how) = of_misuse misuses how
of_untaken misuses why.NoInstance = 14
of_untaken misuses (why.Post refused) = of_take refused

abbrev pub of_none_taken : Numbering → AnyRefusal → ℕ
of_none_taken misuses (any.Misuse how) = of_misuse misuses how
of_none_taken misuses (any.Post refused) = of_take refused
