-- Along a schedule's commands: the state after one more.
use Rattle.std.proofs.Common.{◌≡◌, ℕ, ◌+◌, ◌<◌, List, length, take, get_or, sym, ap, ◌∙◌}
use Rattle.std.proofs.lemmas.List.Sums.{fold_more}
use Rattle.schedule.specs.declared.command.Command.{Command}
use Rattle.schedule.specs.Meaning.{start, step, after}

pub after_more : (n k : ℕ) (commands : List Command) (i : ℕ) (command : Command) → i < length commands → command ≡ get_or commands i command → after n k (take (i + 1) commands) ≡ step n k (after n k (take i commands)) command
after_more n k commands i command h e = fold_more (step n k) start commands i command h ∙ ap (step n k (after n k (take i commands))) (sym e)
