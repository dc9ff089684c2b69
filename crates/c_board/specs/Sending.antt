-- What a send over a handle answers (this project's profile).
use Rattle.std.specs.Prelude.{◌≡◌, ◌≢◌, ℕ, ◌<◌, ◌≤◌, ◌⊎◌, List, length, Option, Result, Ok, Err}
use Rattle.chart.specs.declared.instance.EventNo.{EventNo}
use Rattle.chart.specs.declared.instance.TheConstants.{MAX_INSTANCES}
use Rattle.chart.specs.declared.message.TheConstants.{MAX_BODY}
use Rattle.chart.specs.Messages.{Content}
use Rattle.chart.specs.Names.{name_of, IsName}
use Rattle.clock.specs.declared.clock.TheConstants.{INLINE_ENTRIES}
use Rattle.board.specs.declared.error.SendError.{SendError}
use Rattle.board.specs.declared.error.SendError.TheVariants as error
use Rattle.board.specs.Views.{PostView, Sound, Stays, HasReceivedNothing}
use Rattle.board.specs.Sending.{IsSent, IsUnsent}
use Rattle.c_board.specs.declared.kept.Kept.{Kept}
use Rattle.c_board.specs.declared.misuse.Misuse.TheVariants.{NoPost}
use Rattle.c_board.specs.declared.misuse.Numbering.{Numbering}
use Rattle.c_board.specs.declared.sending.MessageRefusal.{MessageRefusal}
use Rattle.c_board.specs.declared.sending.MessageRefusal.TheVariants as message
use Rattle.c_board.specs.declared.sending.SendRefusal.{SendRefusal}
use Rattle.c_board.specs.declared.sending.SendRefusal.TheVariants as why
use Rattle.c_board.specs.Contents.{post_in, OverPost}
use Rattle.c_board.specs.PostStates.{PostStateView, Keeps}
use Rattle.c_board.specs.Refusals.{of_misuse, of_name, of_send}

-- the number isn't one of 1 to MAX_INSTANCES
abbrev pub IsNoInstance : ℕ → Type 0
IsNoInstance number = (number < 1) ⊎ (MAX_INSTANCES < number)

-- it is one of these; whether the board has such an instance is asked later
abbrev pub MayBeInstance : ℕ → Type 0
MayBeInstance number = (1 ≤ number) × (number ≤ MAX_INSTANCES)

-- the bytes make a message
pub record IsMessage (name body : List ℕ) : Type 0 where
  pub is_name : IsName name
  pub short : length body ≤ MAX_BODY

-- The first of these that applies refuses the bytes of a message (docs/reference/refusals.md): the first fault of the
-- name, F1 to F4; that the body is too long, F5; memory for the copy of a body that has a byte, F6.
abbrev pub IsFirstOfMessage : List ℕ → List ℕ → MessageRefusal → Type 0
IsFirstOfMessage name body (message.Naming fault) = name_of name ≡ Err fault
IsFirstOfMessage name body message.BodyTooLong = IsName name × (MAX_BODY < length body)
IsFirstOfMessage name body message.Memory = IsMessage name body × (0 < length body)

-- What a reserve promises of a send that its post refuses. While there is room for its event, F6 isn't why: on a board
-- of up to 8 instances, and on each other board if the post has received nothing.
pub record IsReserved (old : PostView) (refused : SendError) : Type 0 where
  pub small : 0 < old.room → old.board.size ≤ INLINE_ENTRIES → refused ≢ error.Memory
  pub alone : 0 < old.room → HasReceivedNothing old → refused ≢ error.Memory

-- The first of these that applies refuses a send over a seated post (docs/reference/refusals.md): that no instance has
-- the number, F14; what refuses the bytes of the message, F1 to F6; and the first of what the post's own send refuses.
abbrev pub IsFirstOfSend : PostStateView → ℕ → List ℕ → List ℕ → SendRefusal → PostStateView → Type 0
IsFirstOfSend old to name body (why.Misuse _) new = ⊥
IsFirstOfSend old to name body why.NoInstance new = (new ≡ old) × IsNoInstance to
IsFirstOfSend old to name body (why.Message fault) new = (new ≡ old) × MayBeInstance to × IsFirstOfMessage name body fault
IsFirstOfSend old to name body (why.Post refused) new = MayBeInstance to × IsMessage name body × Keeps old new
    × Sound old.post new.post × Stays old.post new.post × IsUnsent old.post to 1 refused new.post
    × IsReserved old.post refused

-- what a send answers for a seated post: the same as the post's own send, if the bytes make a message
abbrev pub PostSends : PostStateView → ℕ → List ℕ → List ℕ → Result EventNo SendRefusal → PostStateView → Type 0
PostSends old to name body (Ok event) new = IsMessage name body × Keeps old new × Sound old.post new.post
    × IsSent old.post to (record { name = name; body = body }) (record { event = event }) new.post
PostSends old to name body (Err refusal) new = IsFirstOfSend old to name body refusal new

-- what a send answers for a handle
abbrev pub HandleSends : Option Kept → ℕ → List ℕ → List ℕ → Result EventNo SendRefusal → Option Kept → Type 0
HandleSends old to name body result new = OverPost (post_in old) old new (result ≡ Err (why.Misuse NoPost))
    (λ state after. PostSends state to name body result after)

-- the message with these bytes, or why they make none
abbrev pub MakesMessage : List ℕ → List ℕ → Result Content MessageRefusal → Type 0
MakesMessage name body (Ok content) = (content ≡ record { name = name; body = body }) × IsMessage name body
MakesMessage name body (Err fault) = IsFirstOfMessage name body fault

-- the numbers of these refusals
abbrev pub of_message : MessageRefusal → ℕ
of_message (message.Naming fault) = of_name fault
of_message message.BodyTooLong = 5
of_message message.Memory = 6

abbrev pub of_unsent : Numbering → SendRefusal → ℕ
of_unsent misuses (why.Misuse how) = of_misuse misuses how
of_unsent misuses why.NoInstance = 14
of_unsent misuses (why.Message fault) = of_message fault
of_unsent misuses (why.Post refused) = of_send refused
