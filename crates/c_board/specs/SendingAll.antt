-- What a send of several messages over a handle answers (this project's profile).
use Rattle.std.specs.Prelude.{◌≡◌, ℕ, ◌+◌, List, [], ◌∷◌, ◌++◌, length, take, drop, slice_get, Option, Some, Result, Ok, Err}
use Rattle.std.specs.Global.{Vec}
use Rattle.chart.specs.Messages.{Content}
use Rattle.board.specs.declared.answer.Sent.{Sent}
use Rattle.board.specs.Views.{Sound, Stays}
use Rattle.board.specs.Sending.{AreSent, IsUnsent}
use Rattle.c_board.specs.declared.found.MessageLengths.{MessageLengths}
use Rattle.c_board.specs.declared.kept.Kept.{Kept}
use Rattle.c_board.specs.declared.misuse.Misuse.TheVariants.{NoPost, WrongNumber}
use Rattle.c_board.specs.declared.sending.MessageRefusal.{MessageRefusal}
use Rattle.c_board.specs.declared.sending.MessageRefusal.TheVariants as message
use Rattle.c_board.specs.declared.sending.SendRefusal.{SendRefusal}
use Rattle.c_board.specs.declared.sending.SendRefusal.TheVariants as why
use Rattle.c_board.specs.Contents.{post_in, OverPost}
use Rattle.c_board.specs.PostStates.{PostStateView, Keeps}
use Rattle.c_board.specs.Sending.{IsMessage, IsNoInstance, MayBeInstance, MakesMessage}

-- how many bytes the names and the bodies have together
abbrev pub total_of : List MessageLengths → ℕ
total_of [] = 0
total_of (its ∷ more) = its.name + its.body + total_of more

-- each byte belongs to a name or a body, and none lacks
abbrev pub AddUp : List ℕ → List MessageLengths → Type 0
AddUp bytes lengths = total_of lengths ≡ length bytes

-- the messages whose names and bodies are one after another
abbrev pub contents_in : List ℕ → List MessageLengths → List Content
contents_in bytes [] = []
contents_in bytes (its ∷ more) = record { name = take its.name bytes; body = take its.body (drop its.name bytes) }
    ∷ contents_in (drop its.body (drop its.name bytes)) more

-- the number of the first send, 0 for none
abbrev pub first_event : List Sent → ℕ
first_event [] = 0
first_event (sent ∷ more) = sent.event.index

-- all of these are messages
abbrev pub AreMessages : List Content → Type 0
AreMessages all = (i : ℕ) (it : Content) → slice_get all i ≡ Some it → IsMessage it.name it.body

-- one of these messages is refused with this, and those before it are messages
pub record IsFirstRefused (all : List Content) (fault : MessageRefusal) : Type 0 where
  pub before : List Content
  pub it : Content
  pub rest : List Content
  pub splits : all ≡ before ++ it ∷ rest
  pub messages : AreMessages before
  pub refused : MakesMessage it.name it.body (Err fault)

-- the messages, or why they aren't
abbrev pub ReadsMessages : List Content → Result (Vec Content) MessageRefusal → Type 0
ReadsMessages all (Ok messages) = (messages.items ≡ all) × AreMessages all
ReadsMessages all (Err message.Memory) = Unit {0}
ReadsMessages all (Err fault) = IsFirstRefused all fault

-- The first of these that applies refuses a send of several messages over a seated post (docs/reference/refusals.md):
-- that the lengths don't add up, which is a misuse; that no instance has the number, F14; memory for their list, F6; of
-- the first message that is refused what refuses its bytes, F1 to F6; and the first of what the post's own call refuses.
abbrev pub IsFirstOfSendAll : PostStateView → ℕ → List ℕ → List MessageLengths → SendRefusal → PostStateView → Type 0
IsFirstOfSendAll old to bytes lengths (why.Misuse how) new = (new ≡ old) × (AddUp bytes lengths → ⊥)
    × (how ≡ WrongNumber)
IsFirstOfSendAll old to bytes lengths why.NoInstance new = (new ≡ old) × AddUp bytes lengths × IsNoInstance to
IsFirstOfSendAll old to bytes lengths (why.Message fault) new = (new ≡ old) × AddUp bytes lengths × MayBeInstance to
    × ReadsMessages (contents_in bytes lengths) (Err fault)
IsFirstOfSendAll old to bytes lengths (why.Post refused) new = AddUp bytes lengths × MayBeInstance to
    × AreMessages (contents_in bytes lengths) × Keeps old new × Sound old.post new.post × Stays old.post new.post
    × IsUnsent old.post to (length (contents_in bytes lengths)) refused new.post

-- what a send of these messages answers for a seated post: the same as the post's own call, for whole messages only
abbrev pub PostSendsAll : PostStateView → ℕ → List ℕ → List MessageLengths → Result ℕ SendRefusal → PostStateView → Type 0
PostSendsAll old to bytes lengths (Ok event) new = AddUp bytes lengths × AreMessages (contents_in bytes lengths)
    × Keeps old new × Sound old.post new.post
    × (sents : List Sent) × AreSent old.post to (contents_in bytes lengths) sents new.post × (event ≡ first_event sents)
PostSendsAll old to bytes lengths (Err refusal) new = IsFirstOfSendAll old to bytes lengths refusal new

abbrev pub HandleSendsAll : Option Kept → ℕ → List ℕ → List MessageLengths → Result ℕ SendRefusal → Option Kept → Type 0
HandleSendsAll old to bytes lengths result new = OverPost (post_in old) old new (result ≡ Err (why.Misuse NoPost))
    (λ state after. PostSendsAll state to bytes lengths result after)
