-- The text of a plan: its lines from the top, each ended by a line feed, with one space between words (this project's
-- profile).
use Rattle.std.specs.Prelude.{◌≡◌, ℕ, ◌+◌, ◌≤◌, List, [], ◌∷◌, All, decimal, map}
use Rattle.std.specs.List.{flat_map, join_with_byte}
use Rattle.chart.specs.Names.{IsName}
use Rattle.texts.specs.Instances.{name_at}
use Rattle.texts.specs.Lines.{ended}
use Rattle.schedule.specs.Keywords.{written}
use Rattle.schedule.specs.declared.keyword.ScheduleWord.TheVariants as keywords
use Rattle.schedule.specs.declared.command.Action.{Action}
use Rattle.schedule.specs.declared.command.Action.TheVariants.{Send, Receive, Any, Close, Open, Shut}
use Rattle.schedule.specs.declared.command.Command.{Command}
use Rattle.chart.specs.declared.history.TheConstants.{MAX_CAPACITY}
use Rattle.schedule.specs.Plans.{Plan, IsPlan}

-- a line of these words, with one space between each two
abbrev pub spaced : List (List ℕ) → List ℕ
spaced words = join_with_byte 32 words

-- instances NAME NAME ..
abbrev pub instances_line : List (List ℕ) → List ℕ
instances_line names = spaced (written keywords.Instances ∷ names)

-- capacity N, in decimal
abbrev pub capacity_line : ℕ → List ℕ
capacity_line capacity = spaced (written keywords.Capacity ∷ decimal capacity ∷ [])

-- the words after the actor's name
abbrev pub action_words : List (List ℕ) → Action → List (List ℕ)
action_words names (Send to name) = written keywords.Send ∷ name_at names to ∷ name ∷ []
action_words names (Receive from) = written keywords.Receive ∷ name_at names from ∷ []
action_words names Any = written keywords.Any ∷ []
action_words names (Close to) = written keywords.Close ∷ name_at names to ∷ []
action_words names Open = written keywords.Concurrent ∷ []
action_words names Shut = written keywords.EndConcurrent ∷ []

-- NAME send NAME MESSAGE, NAME receive NAME, and so on
abbrev pub command_line : List (List ℕ) → Command → List ℕ
command_line names command = spaced (name_at names command.actor ∷ action_words names command.action)

-- the lines, without their line feeds
abbrev pub plan_lines : Plan → List (List ℕ)
plan_lines plan = instances_line plan.names ∷ capacity_line plan.capacity ∷ map (command_line plan.names) plan.commands

-- the text of a plan
unfoldable pub schedule_text : Plan → List ℕ
schedule_text plan = flat_map ended (plan_lines plan)

-- the line of each command in the text: the first is on line n, the next on line n + 1, and so on
abbrev pub AreNumbered : ℕ → List Command → Type 0
AreNumbered n [] = Unit {0}
AreNumbered n (command ∷ commands) = (command.line ≡ n) × AreNumbered (n + 1) commands

-- the partner's number is at least 1, and the message's name is a name
abbrev pub CanBeNamed : Action → Type 0
CanBeNamed (Send to name) = (1 ≤ to) × IsName name
CanBeNamed (Receive from) = 1 ≤ from
CanBeNamed Any = Unit {0}
CanBeNamed (Close to) = 1 ≤ to
CanBeNamed Open = Unit {0}
CanBeNamed Shut = Unit {0}

-- the same of the command and its actor
abbrev pub CanBeSpelled : Command → Type 0
CanBeSpelled command = (1 ≤ command.actor) × CanBeNamed command.action

-- a plan that has a text: its first command is on line 3
pub record HasText (plan : Plan) : Type 0 where
  pub keeps : IsPlan plan
  pub named : All IsName plan.names
  pub slots : (1 ≤ plan.capacity) × (plan.capacity ≤ MAX_CAPACITY)
  pub spelled : All CanBeSpelled plan.commands
  pub numbered : AreNumbered 3 plan.commands

-- no two plans have the same text
abbrev pub OneTextLaw : Type 0
OneTextLaw = (p q : Plan) → HasText p → HasText q → schedule_text p ≡ schedule_text q → p ≡ q
