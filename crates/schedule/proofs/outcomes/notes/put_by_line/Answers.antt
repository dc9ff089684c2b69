use Rattle.std.proofs.Common.{rules}
use Rattle.std.proofs.lemmas.List.Sorted.{answers_always, IsNonDecreasingBy-from_sort_by_key}
use Rattle.schedule.specs.declared.command.Note.{Note}
use Rattle.schedule.proofs.OutcomesLemmas.ByLine.{by_line}
use Rattle.schedule.proofs.outcomes.notes.put_by_line.Goals as goal

pub returns : goal.returns
returns c =
    by_line _ _ (IsNonDecreasingBy-from_sort_by_key (λ (note : Note). note.line) _ c.in_ok-sort_by_key.ensures.sorted (λ a r q k. search rules))
    (c.sort_by_key.ensures.stable (λ (note : Note). note.line) (answers_always _ _ _ (λ f a r g h. search rules)))
