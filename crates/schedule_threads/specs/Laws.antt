-- A run has one outcome, and a note belongs to the command that left it (this project's profile).
use Rattle.std.specs.Prelude.{◌≡◌, ℕ, List, [], ◌∷◌, length, slice_index_or}
use Rattle.behaviour.specs.Scripts.{ScriptView, script_act, script_after}
use Rattle.behaviour.specs.declared.bare_act.BareAct.{BareAct}
use Rattle.behaviour.specs.declared.bare_act.BareAct.TheVariants.{Stop}
use Rattle.instances.specs.Driving.{Meaning, meaning, IsRun}
use Rattle.instances.specs.declared.end.End.{End}
use Rattle.instances.specs.declared.outcome.Run.{Run}
use Rattle.instances.specs.declared.turn.Turn.{Turn}
use Rattle.mailbox.specs.Mailboxes.{MailboxView}
use Rattle.schedule.specs.declared.command.Command.{Command}
use Rattle.schedule.specs.Plans.{Plan}
use Rattle.schedule_threads.specs.Scripts.InstanceScripts.{acts_of, script_of}
use Rattle.schedule_threads.specs.RunNotes.{lines_of, next_place}
use Rattle.schedule_threads.specs.RunOutcomes.{RunView, IsRunOutcome}

-- a run of a plan's scripts has only one outcome
abbrev pub OneRunOutcomeLaw : Type 0
OneRunOutcomeLaw = (plan : Plan) (run : Run) (a b : RunView) → IsRunOutcome plan run a → IsRunOutcome plan run b → a ≡ b

-- the meaning of a script
abbrev pub script_meaning : Meaning ScriptView
script_meaning = meaning (λ script last. script_act (script_after script last)) script_after

-- Each of these turns does the act of one of `many` commands, the one at the place to which the earlier answers have
-- led. Past the last command it stops.
abbrev pub AreOf : List BareAct → ℕ → ℕ → List Turn → Type 0
AreOf acts many place [] = Unit {0}
AreOf acts many place (turn ∷ turns) =
    (turn.act ≡ slice_index_or acts place Stop) × AreOf acts many (next_place many place turn.answer) turns

-- In a run of an instance's script each turn belongs to the command that gets its note: the acts and the lines of the
-- instance's commands have the same places.
abbrev pub TurnsLaw : Type 0
TurnsLaw = (commands : List Command) (p most : ℕ) (old new : MailboxView) (trace : List Turn) (end : End)
    → (left : ScriptView)
    → IsRun script_meaning most (script_of commands p) old trace end (record { state = left; view = new })
    → AreOf (acts_of commands p) (length (lines_of commands p)) 0 trace
