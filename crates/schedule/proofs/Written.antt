-- A schedule's text as it is written is its lines, with one space between words.
use Rattle.std.proofs.Common.{◌≡◌, ℕ, List, [], ◌∷◌, ◌++◌, refl, sym, ap, ◌∙◌, append_assoc, append-nil, map, decimal, codes}
use Rattle.std.specs.List.{flat_map}
use Rattle.texts.specs.Instances.{name_at}
use Rattle.texts.specs.Lines.{ended}
use Rattle.schedule.specs.Keywords.{written}
use Rattle.schedule.specs.declared.command.Command.{Command}
use Rattle.schedule.specs.declared.keyword.ScheduleWord.TheVariants as keywords
use Rattle.schedule.specs.Plans.{Plan}
use Rattle.schedule.specs.ScheduleText.{spaced, instances_line, capacity_line, action_words, command_line, schedule_text}
use Rattle.schedule.specs.WrittenLines.{behind_space, line_end, line_of, capacity_text, command_text, plan_text}

-- a word, and the others after a space each
spaced-is : (first : List ℕ) (words : List (List ℕ)) → spaced (first ∷ words) ≡ first ++ flat_map behind_space words
unfolding behind_space
spaced-is first [] = sym (append-nil first)
spaced-is first (word ∷ words) = ap (λ l. first ++ (32 ∷ l)) (spaced-is word words)

line-is : (first : List ℕ) (words : List (List ℕ)) → ended (spaced (first ∷ words)) ≡ line_of first words
unfolding line_of line_end
line-is first words = ap (λ l. l ++ codes "\n") (spaced-is first words) ∙ append_assoc first (flat_map behind_space words) (codes "\n")

capacity-is : (capacity : ℕ) → ended (capacity_line capacity) ≡ capacity_text capacity
unfolding behind_space line_end capacity_text
capacity-is capacity = append_assoc (written keywords.Capacity) (32 ∷ decimal capacity) (codes "\n")

commands-are : (names : List (List ℕ)) (commands : List Command) → flat_map ended (map (command_line names) commands) ≡ flat_map (command_text names) commands
commands-are names [] = refl
commands-are names (command ∷ commands) =
    ap (λ l. l ++ flat_map ended (map (command_line names) commands)) (line-is (name_at names command.actor) (action_words names command.action))
    ∙ ap (λ l. command_text names command ++ l) (commands-are names commands)

pub plan_text-is : (plan : Plan) → plan_text plan ≡ schedule_text plan
unfolding plan_text schedule_text
plan_text-is plan =
    ap (λ l. l ++ (capacity_text plan.capacity ++ flat_map (command_text plan.names) plan.commands)) (sym (line-is (written keywords.Instances) plan.names))
    ∙ ap (λ l. ended (instances_line plan.names) ++ l) (ap (λ l. l ++ flat_map (command_text plan.names) plan.commands) (sym (capacity-is plan.capacity))
    ∙ ap (λ l. ended (capacity_line plan.capacity) ++ l) (sym (commands-are plan.names plan.commands)))
