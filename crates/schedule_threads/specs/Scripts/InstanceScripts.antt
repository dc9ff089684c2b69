-- What each instance of a schedule does by itself (this project's profile).
use Rattle.std.specs.Prelude.{ℕ, ◌==◌, List, filter, length, map}
use Rattle.std.specs.List.{range_with_len}
use Rattle.behaviour.specs.Scripts.{ScriptView}
use Rattle.behaviour.specs.declared.bare_act.BareAct.{BareAct}
use Rattle.behaviour.specs.declared.bare_act.BareAct.TheVariants.{Send, Receive, Any, Close, Open, Shut}
use Rattle.schedule.specs.Plans.{Plan}
use Rattle.schedule.specs.declared.command.Action.{Action}
use Rattle.schedule.specs.declared.command.Action.TheVariants as action
use Rattle.schedule.specs.declared.command.Command.{Command}

-- the act of an action, with the same partner and the same message's name
abbrev pub act_of : Action → BareAct
act_of (action.Send to name) = Send to name
act_of (action.Receive from) = Receive from
act_of action.Any = Any
act_of (action.Close to) = Close to
act_of action.Open = Open
act_of action.Shut = Shut

-- the acts of the instance p: those of its commands, in order
abbrev pub acts_of : List Command → ℕ → List BareAct
acts_of commands p = map (λ c. act_of c.action) (filter (λ c. c.actor == p) commands)

-- the script of the instance p, at its first act
abbrev pub script_of : List Command → ℕ → ScriptView
script_of commands p = record { acts = acts_of commands p; place = 0 }

-- a script for each instance, in rising order of their numbers
abbrev pub scripts_of : Plan → List ScriptView
scripts_of plan = map (script_of plan.commands) (range_with_len 1 (length plan.names))
