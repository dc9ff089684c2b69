-- The mailbox after acts with their answers: the same post, which has seen more, and whose own new events are just the
-- accepted ones.
use mathlib.Core.List.{map-append}
use Rattle.std.proofs.Common.{◌≡◌, ℕ, List, [], ◌∷◌, ◌++◌, map, reverse, Some, Ok, Err, refl, sym, ap, ap₂, ◌∙◌, subst, append_assoc}
use Rattle.std.proofs.lemmas.List.{reverse-append}
use Rattle.chart.specs.declared.history.Occurrence.{Occurrence}
use Rattle.chart.specs.Histories.{Begins}
use Rattle.chart.specs.Messages.{Content}
use Rattle.chart.proofs.Histories.{begins_same, begins_onward}
use Rattle.board.specs.declared.answer.Taken.TheVariants as taken
use Rattle.board.specs.declared.error.RegionError.TheVariants.{CoregionOpen, CoregionNotOpen}
use Rattle.board.specs.Views.{Sound, Makes, Stays, IsSamePost}
use Rattle.mailbox.specs.Mailboxes.{MailboxView}
use Rattle.behaviour.specs.declared.act.Act.{Act}
use Rattle.behaviour.specs.declared.act.Act.TheVariants as act
use Rattle.behaviour.specs.declared.answer.Answer.{Answer}
use Rattle.behaviour.specs.declared.bare_act.BareAct.{BareAct}
use Rattle.behaviour.specs.declared.bare_act.BareAct.TheVariants.{Send, Receive, Any, Close, Open, Shut}
use Rattle.behaviour.specs.Bare.{bare_act, bare_answer}
use Rattle.instances.specs.Answering.{SendResult, TakeResult, CloseResult, RegionResult, send_answer, take_answer, close_answer, region_answer, IsSendResult, IsReceiveResult, IsAnyResult, IsCloseResult, IsOpenResult, IsShutResult, in_region, Allows}
use Rattle.instances.specs.Driving.{Made}
use Rattle.instances.specs.Traces.{made_by, accepted}

pub record Leaves (old : MailboxView) (acts : List BareAct) (new : MailboxView) : Type 0 where
  pub same : IsSamePost old.post new.post
  pub later : Begins old.post.seen new.post.seen
  pub made : Made old acts new

pub leaves-none : (view : MailboxView) → Leaves view [] view
leaves-none view = record {
  same = record { board = refl; number = refl };
  later = begins_same view.post.seen;
  made = ([], refl, refl);
}

pub leaves-onward : (old mid new : MailboxView) (acts more : List BareAct) → Leaves old acts mid
    → Leaves mid more new → Leaves old (acts ++ more) new
leaves-onward old mid new acts more before after =
    let first = before.made.0 in
    let then = after.made.0 in
    record {
      same = record { board = after.same.board ∙ before.same.board; number = after.same.number ∙ before.same.number };
      later = begins_onward old.post.seen mid.post.seen new.post.seen before.later after.later;
      made = (
        then ++ first,
        after.made.1 ∙ ap (λ h. then ++ h) before.made.1 ∙ sym (append_assoc then first old.post.made),
        ap (λ h. map made_by h) (reverse-append then first) ∙ map-append made_by (reverse first) (reverse then)
            ∙ ap₂ (λ x y. x ++ y) before.made.2 after.made.2,
      );
    }

leaves-sound : (old new : MailboxView) (acts : List BareAct) → Sound old.post new.post → Made old acts new
    → Leaves old acts new
leaves-sound old new acts sound made = record { same = sound.same; later = sound.later; made = made }

made-one : (old new : MailboxView) (before : List Occurrence) (e : Occurrence)
    → Makes old.post before (e ∷ []) new.post → Made old (made_by e ∷ []) new
made-one old new before e makes = (e ∷ [], makes.made, refl)

made-none : (old new : MailboxView) → Stays old.post new.post → Made old [] new
made-none old new stays = ([], stays.made, refl)

-- a result that changes nothing but the open coregion
leaves-region : (old new : MailboxView) (region : ℕ) → new ≡ in_region old region → Leaves old [] new
leaves-region old new region is = subst (λ view. Leaves old [] view) (sym is) (record {
  same = record { board = refl; number = refl };
  later = begins_same old.post.seen;
  made = ([], refl, refl);
})

-- the acts that were made, according to an answer
abbrev made_of : BareAct → Answer → List BareAct
made_of a answer = accepted a (Some (bare_answer answer))

leaves-send : (old new : MailboxView) (to : ℕ) (message : Content) (result : SendResult)
    → IsSendResult old to message result new → Leaves old (made_of (Send to message.name) (send_answer result)) new
leaves-send old new to message (Ok sent) is = leaves-sound old new (Send to message.name ∷ []) is.sound
    (made-one old new is.sends.makes.0 _ is.sends.makes.1)
leaves-send old new to message (Err (back, error)) is = leaves-sound old new [] is.sound (made-none old new is.sends.1)

leaves-receive : (old new : MailboxView) (from : ℕ) (result : TakeResult) → IsReceiveResult old from result new
    → Leaves old (made_of (Receive from) (take_answer result)) new
leaves-receive old new from (Ok (taken.Got arrival)) is = leaves-sound old new (Receive arrival.from ∷ []) is.sound
    (subst (λ q. Made old (Receive q ∷ []) new) (sym is.takes.sender)
    (made-one old new is.takes.makes.0 _ is.takes.makes.2))
leaves-receive old new from (Ok taken.Nothing) is = leaves-sound old new [] is.sound (made-none old new is.takes.0)
leaves-receive old new from (Ok taken.Ended) is = leaves-sound old new [] is.sound (made-none old new is.takes.0)
leaves-receive old new from (Err error) is = leaves-sound old new [] is.sound (made-none old new is.takes.0)

leaves-any : (old new : MailboxView) (result : TakeResult) → IsAnyResult old result new
    → Leaves old (made_of Any (take_answer result)) new
leaves-any old new (Ok (taken.Got arrival)) is = leaves-sound old new (Receive arrival.from ∷ []) is.sound
    (made-one old new is.takes.0.0.makes.0 _ is.takes.0.0.makes.2)
leaves-any old new (Ok taken.Nothing) is = leaves-sound old new [] is.sound (made-none old new is.takes.0.0)
leaves-any old new (Ok taken.Ended) is = leaves-sound old new [] is.sound (made-none old new is.takes.0.0)
leaves-any old new (Err error) is = leaves-sound old new [] is.sound (made-none old new is.takes.0.0)

leaves-close : (old new : MailboxView) (to : ℕ) (result : CloseResult) → IsCloseResult old to result new
    → Leaves old (made_of (Close to) (close_answer result)) new
leaves-close old new to (Ok done) is = leaves-sound old new (Close to ∷ []) is.sound
    (made-one old new is.closes.makes.0 _ is.closes.makes.1)
leaves-close old new to (Err error) is = leaves-sound old new [] is.sound ([], ap (λ post. post.made) is.closes.0, refl)

leaves-same : (old new : MailboxView) → new ≡ old → Leaves old [] new
leaves-same old new is = subst (λ view. Leaves old [] view) (sym is) (leaves-none old)

leaves-open : (old new : MailboxView) (result : RegionResult) → IsOpenResult old result new
    → Leaves old (made_of Open (region_answer result)) new
leaves-open old new (Ok done) is = leaves-region old new _ is.1
leaves-open old new (Err CoregionOpen) is = leaves-same old new is.1
leaves-open old new (Err CoregionNotOpen) is = absurd is

leaves-shut : (old new : MailboxView) (result : RegionResult) → IsShutResult old result new
    → Leaves old (made_of Shut (region_answer result)) new
leaves-shut old new (Ok done) is = leaves-region old new _ is.1
leaves-shut old new (Err CoregionOpen) is = absurd is
leaves-shut old new (Err CoregionNotOpen) is = leaves-same old new is.1

by_answer : (old new : MailboxView) (a : BareAct) (answer of : Answer) → answer ≡ of → Leaves old (made_of a of) new
    → Leaves old (made_of a answer) new
by_answer old new a answer of is leaves = subst (λ x. Leaves old (made_of a x) new) (sym is) leaves

-- the mailbox after an allowed answer
pub leaves-act : (old : MailboxView) (a : Act) (answer : Answer) (new : MailboxView) → Allows old a answer new
    → Leaves old (made_of (bare_act a) answer) new
leaves-act old (act.Send to message) answer new (result, of, is) =
    by_answer old new (Send to message.name) answer (send_answer result) of (leaves-send old new to message result is)
leaves-act old (act.Receive from) answer new (result, of, is) =
    by_answer old new (Receive from) answer (take_answer result) of (leaves-receive old new from result is)
leaves-act old act.Any answer new (result, of, is) =
    by_answer old new Any answer (take_answer result) of (leaves-any old new result is)
leaves-act old (act.Close to) answer new (result, of, is) =
    by_answer old new (Close to) answer (close_answer result) of (leaves-close old new to result is)
leaves-act old act.Open answer new (result, of, is) =
    by_answer old new Open answer (region_answer result) of (leaves-open old new result is)
leaves-act old act.Shut answer new (result, of, is) =
    by_answer old new Shut answer (region_answer result) of (leaves-shut old new result is)
leaves-act old act.Stop answer new is = absurd is
