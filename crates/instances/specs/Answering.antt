-- What a mailbox may answer to an act, and the mailbox afterwards (this project's profile, after ITU-T Z.120).
use Rattle.std.specs.Prelude.{◌≡◌, ◌≢◌, ℕ, ◌+◌, ◌<◌, ◌≤◌, Option, Some, None, Result, Ok, Err, IfErr}
use Rattle.clock.specs.declared.clock.TheConstants.{INLINE_ENTRIES}
use Rattle.chart.specs.Events.{greatest_region}
use Rattle.chart.specs.Messages.{Content}
use Rattle.board.specs.declared.answer.Sent.{Sent}
use Rattle.board.specs.declared.answer.Taken.{Taken}
use Rattle.board.specs.declared.answer.Taken.TheVariants as taken
use Rattle.board.specs.declared.error.CloseError.{CloseError}
use Rattle.board.specs.declared.error.RegionError.{RegionError}
use Rattle.board.specs.declared.error.RegionError.TheVariants.{CoregionOpen, CoregionNotOpen}
use Rattle.board.specs.declared.error.SendError.{SendError}
use Rattle.board.specs.declared.error.SendError.TheVariants as sending
use Rattle.board.specs.declared.error.TakeError.{TakeError}
use Rattle.board.specs.Closing.{Closes}
use Rattle.board.specs.Sending.{Sends}
use Rattle.board.specs.Taking.{Takes}
use Rattle.board.specs.Views.{PostView, line_of, Sound}
use Rattle.mailbox.specs.Mailboxes.{MailboxView, last_after}
use Rattle.mailbox.specs.TakingAny.{TakesAny}
use Rattle.behaviour.specs.declared.act.Act.{Act}
use Rattle.behaviour.specs.declared.act.Act.TheVariants as act
use Rattle.behaviour.specs.declared.answer.Answer.{Answer}
use Rattle.behaviour.specs.declared.answer.Answer.TheVariants as answer

-- the results of a mailbox's calls
abbrev pub SendResult : Type 0
SendResult = Result Sent (Content × SendError)

abbrev pub TakeResult : Type 0
TakeResult = Result Taken TakeError

abbrev pub CloseResult : Type 0
CloseResult = Result (Unit {0}) CloseError

abbrev pub RegionResult : Type 0
RegionResult = Result (Unit {0}) RegionError

-- The behaviour's answer for each result of its mailbox.

abbrev pub send_answer : SendResult → Answer
send_answer (Ok sent) = answer.Sent sent.event
send_answer (Err (message, error)) = answer.Unsent message error

abbrev pub take_answer : TakeResult → Answer
take_answer (Ok (taken.Got arrival)) = answer.Got arrival
take_answer (Ok taken.Nothing) = answer.Nothing
take_answer (Ok taken.Ended) = answer.Ended
take_answer (Err error) = answer.Unreceived error

abbrev pub close_answer : CloseResult → Answer
close_answer (Ok done) = answer.NowClosed
close_answer (Err error) = answer.Unclosed error

abbrev pub region_answer : RegionResult → Answer
region_answer (Ok done) = answer.Marked
region_answer (Err error) = answer.Unmarked error

-- What each call of a mailbox answers, as the mailbox promises it.

-- with room, a send among up to eight instances isn't refused for lack of memory
abbrev pub HasMemory : PostView → SendResult → Type 0
HasMemory old result = 0 < old.room → old.board.size ≤ INLINE_ENTRIES
    → IfErr result (λ refused. refused.1 ≢ sending.Memory)

pub record IsSendResult (old : MailboxView) (to : ℕ) (message : Content)
    (result : SendResult) (new : MailboxView) : Type 0 where
  pub sound : Sound old.post new.post
  pub sends : Sends old.post to message result new.post
  pub memory : HasMemory old.post result
  pub last : new.last ≡ old.last

pub record IsReceiveResult (old : MailboxView) (from : ℕ) (result : TakeResult) (new : MailboxView) : Type 0 where
  pub sound : Sound old.post new.post
  pub takes : Takes old.post from result new.post
  pub last : new.last ≡ last_after old.last result

pub record IsAnyResult (old : MailboxView) (result : TakeResult) (new : MailboxView) : Type 0 where
  pub sound : Sound old.post new.post
  pub takes : TakesAny old.post old.last result new.post
  pub last : new.last ≡ last_after old.last result

pub record IsCloseResult (old : MailboxView) (to : ℕ) (result : CloseResult) (new : MailboxView) : Type 0 where
  pub sound : Sound old.post new.post
  pub closes : Closes old.post to result new.post
  pub last : new.last ≡ old.last

-- only the open coregion has changed
abbrev pub in_region : MailboxView → ℕ → MailboxView
in_region mailbox region = record mailbox { post = record mailbox.post { region = region } }

-- a coregion with a new number begins, unless one is open
abbrev pub IsOpenResult : MailboxView → RegionResult → MailboxView → Type 0
IsOpenResult old (Ok done) new = (old.post.region ≡ 0) × (new ≡ in_region old (greatest_region (line_of old.post) + 1))
IsOpenResult old (Err CoregionOpen) new = (0 < old.post.region) × (new ≡ old)
IsOpenResult old (Err CoregionNotOpen) new = ⊥

-- the coregion ends, if one is open
abbrev pub IsShutResult : MailboxView → RegionResult → MailboxView → Type 0
IsShutResult old (Ok done) new = (0 < old.post.region) × (new ≡ in_region old 0)
IsShutResult old (Err CoregionNotOpen) new = (old.post.region ≡ 0) × (new ≡ old)
IsShutResult old (Err CoregionOpen) new = ⊥

-- Starting from the first view, the act may get this answer, which leads to the second view. Stopping has no answer.
abbrev pub Allows : MailboxView → Act → Answer → MailboxView → Type 0
Allows old (act.Send to message) a new = (result : _) × (a ≡ send_answer result)
    × IsSendResult old to message result new
Allows old (act.Receive from) a new = (result : _) × (a ≡ take_answer result) × IsReceiveResult old from result new
Allows old act.Any a new = (result : _) × (a ≡ take_answer result) × IsAnyResult old result new
Allows old (act.Close to) a new = (result : _) × (a ≡ close_answer result) × IsCloseResult old to result new
Allows old act.Open a new = (result : _) × (a ≡ region_answer result) × IsOpenResult old result new
Allows old act.Shut a new = (result : _) × (a ≡ region_answer result) × IsShutResult old result new
Allows old act.Stop a new = ⊥

-- an act that was made, with its answer; stopping changes nothing
abbrev pub Performs : MailboxView → Act → Option Answer → MailboxView → Type 0
Performs old a (Some answer) new = Allows old a answer new
Performs old a None new = (a ≡ act.Stop) × (new ≡ old)
