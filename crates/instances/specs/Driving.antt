-- Runs of a behaviour with a mailbox (this project's profile).
use Rattle.std.specs.Prelude.{◌≡◌, ℕ, ◌<◌, ◌≤◌, List, [], ◌∷◌, ◌++◌, length, map, reverse}
use Rattle.chart.specs.declared.history.Occurrence.{Occurrence}
use Rattle.chart.specs.Histories.{Begins}
use Rattle.board.specs.Views.{PostView, IsSamePost}
use Rattle.mailbox.specs.Mailboxes.{MailboxView}
use Rattle.behaviour.specs.declared.act.Act.{Act}
use Rattle.behaviour.specs.declared.act.Act.TheVariants as act
use Rattle.behaviour.specs.declared.answer.Answer.{Answer}
use Rattle.behaviour.specs.declared.answer.Answer.TheVariants.{Start}
use Rattle.behaviour.specs.declared.bare_act.BareAct.{BareAct}
use Rattle.instances.specs.declared.end.End.{End}
use Rattle.instances.specs.declared.end.End.TheVariants.{Stopped, TurnsSpent, Memory}
use Rattle.instances.specs.declared.turn.Turn.{Turn}
use Rattle.instances.specs.Answering.{Allows}
use Rattle.instances.specs.Traces.{turn_of, last_turn, made_by, all_accepted}

-- what a behaviour does: the act and the new state, for a state and the last answer
pub record Meaning (S : Type 0) : Type 0 where
  pub act : S → Answer → Act
  pub after : S → Answer → S

-- the meaning of a behaviour with this act and this new state
abbrev pub meaning : {S : Type 0} → (S → Answer → Act) → (S → Answer → S) → Meaning S
meaning act after = record { act = act; after = after }

-- a behaviour's state, the last answer, which it hasn't got yet, and the mailbox's view
pub record Moment (S : Type 0) : Type 0 where
  pub state : S
  pub last : Answer
  pub view : MailboxView

-- These turns lead from one moment to another: each has the act that the behaviour does, and an answer that the mailbox
-- may give to it.
abbrev pub Leads : {S : Type 0} → Meaning S → Moment S → List Turn → Moment S → Type 0
Leads m now [] end = end ≡ now
Leads m now (turn ∷ turns) end = (answer : Answer) × (view : MailboxView)
    × (turn ≡ turn_of (m.act now.state now.last) answer)
    × Allows now.view (m.act now.state now.last) answer view
    × Leads m (record { state = m.after now.state now.last; last = answer; view = view }) turns end

-- the end of a run: the behaviour's state, and the mailbox's view
pub record Ended (S : Type 0) : Type 0 where
  pub state : S
  pub view : MailboxView

-- Why at most `most` turns ended with this trace. Stopped: the last turn is a stop. Turns spent: all turns were made,
-- and none was a stop. Memory: there were fewer turns, and the behaviour wasn't asked again.
abbrev pub Ends : {S : Type 0} → Meaning S → ℕ → Moment S → List Turn → End → Ended S → Type 0
Ends m most start trace Stopped left = (turns : List Turn) × (now : _)
    × (trace ≡ turns ++ last_turn ∷ []) × (length trace ≤ most) × Leads m start turns now
    × (m.act now.state now.last ≡ act.Stop) × (left.state ≡ m.after now.state now.last)
    × (left.view ≡ now.view)
Ends m most start trace TurnsSpent left = (now : _)
    × (length trace ≡ most) × Leads m start trace now × (left.state ≡ now.state) × (left.view ≡ now.view)
Ends m most start trace Memory left = (now : _)
    × (length trace < most) × Leads m start trace now × (left.state ≡ now.state) × (left.view ≡ now.view)

-- The made events are just those of these acts, in their order.
abbrev pub Made : MailboxView → List BareAct → MailboxView → Type 0
Made old acts new = (events : List Occurrence) × (new.post.made ≡ events ++ old.post.made)
    × (map made_by (reverse events) ≡ acts)

-- A run of at most `most` turns, from a behaviour's state and a mailbox's view to those at its end.
pub record IsRun {S : Type 0} (m : Meaning S) (most : ℕ) (state : S) (old : MailboxView)
    (trace : List Turn) (end : End) (left : Ended S) : Type 0 where
  pub ends : Ends m most (record { state = state; last = Start; view = old }) trace end left
  pub made : Made old (all_accepted trace) left.view
  pub same : IsSamePost old.post left.view.post
  pub later : Begins old.post.seen left.view.post.seen

-- The same from a post to the post at the end, with a new mailbox; the behaviour isn't kept.
pub record IsRunOfPost {S : Type 0} (m : Meaning S) (most : ℕ) (state : S) (old : PostView)
    (trace : List Turn) (end : End) (new : PostView) : Type 0 where
  pub left : S
  pub last : ℕ
  pub run : IsRun m most state (record { post = old; last = 0 }) trace end
      (record { state = left; view = record { post = new; last = last } })
