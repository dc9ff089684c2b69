-- A schedule's text as it is written: a line is its first word, and then a space and a word for each further one.
use Rattle.std.specs.Prelude.{ℕ, List, ◌++◌, codes, decimal}
use Rattle.std.specs.List.{flat_map}
use Rattle.texts.specs.Instances.{name_at}
use Rattle.schedule.specs.Keywords.{written}
use Rattle.schedule.specs.declared.keyword.ScheduleWord.TheVariants as keywords
use Rattle.schedule.specs.Plans.{Plan}
use Rattle.schedule.specs.ScheduleText.{action_words}
use Rattle.schedule.specs.declared.command.Command.{Command}

-- a space, followed by the word
unfoldable pub behind_space : List ℕ → List ℕ
behind_space word = codes " " ++ word

-- the line feed
unfoldable pub line_end : List ℕ
line_end = codes "\n"

-- the line of this word and of these further words
unfoldable pub line_of : List ℕ → List (List ℕ) → List ℕ
line_of first words = first ++ (flat_map behind_space words ++ line_end)

-- line 2
unfoldable pub capacity_text : ℕ → List ℕ
capacity_text capacity = written keywords.Capacity ++ (behind_space (decimal capacity) ++ line_end)

-- the line of a command
abbrev pub command_text : List (List ℕ) → Command → List ℕ
command_text names command = line_of (name_at names command.actor) (action_words names command.action)

-- line 1, line 2, and the commands' lines
unfoldable pub plan_text : Plan → List ℕ
plan_text plan = line_of (written keywords.Instances) plan.names
    ++ (capacity_text plan.capacity ++ flat_map (command_text plan.names) plan.commands)
