-- Schedules as contracts see them (this project's profile).
use Rattle.std.specs.Prelude.{◌≢◌, ℕ, ◌≤◌, List, length, All}
use Rattle.schedule.specs.declared.command.Action.{Action}
use Rattle.schedule.specs.declared.command.Action.TheVariants.{Send, Receive, Any, Close, Open, Shut}
use Rattle.schedule.specs.declared.command.Command.{Command}
use Rattle.chart.specs.NameSets.{AreNames}

-- the instances' names, the capacity of each lane, and the commands in order
pub record Plan : Type 0 where
  pub names : List (List ℕ)
  pub capacity : ℕ
  pub commands : List Command

-- the action is one of the actor p, with another of n instances
abbrev pub HasPartner : ℕ → ℕ → Action → Type 0
HasPartner n p (Send q name) = (q ≤ n) × (p ≢ q)
HasPartner n p (Receive q) = (q ≤ n) × (p ≢ q)
HasPartner n p Any = Unit {0}
HasPartner n p (Close q) = (q ≤ n) × (p ≢ q)
HasPartner n p Open = Unit {0}
HasPartner n p Shut = Unit {0}

-- the command's actor is one of n instances, and its partner another one
abbrev pub IsAmong : ℕ → Command → Type 0
IsAmong n command = (command.actor ≤ n) × HasPartner n command.actor command.action

-- the partner's number, if there is one, is at least 1
abbrev pub HasNumber : Action → Type 0
HasNumber (Send q name) = 1 ≤ q
HasNumber (Receive q) = 1 ≤ q
HasNumber Any = Unit {0}
HasNumber (Close q) = 1 ≤ q
HasNumber Open = Unit {0}
HasNumber Shut = Unit {0}

-- the numbers of the command's instances are at least 1
abbrev pub IsNumbered : Command → Type 0
IsNumbered command = (1 ≤ command.actor) × HasNumber command.action

-- what holds of each schedule
pub record IsPlan (plan : Plan) : Type 0 where
  pub several : 2 ≤ length plan.names
  pub names : AreNames plan.names
  pub commands : All (IsAmong (length plan.names)) plan.commands
