use Rattle.std.proofs.Common.{◌≡◌, map, drop}
use Rattle.std.specs.List.{list_any}
use Rattle.log_lines.specs.Takes.Patterns.{is_misspelled}
use Rattle.log_lines.proofs.takes.reading.any_misspelled.Given as goal

abbrev pub invariant-loop-word : goal.invariant-loop-word
invariant-loop-word l = list_any is_misspelled (map (λ w. w.now) (drop l.word-index l.words)) ≡ list_any is_misspelled (map (λ w. w.now) l.words)
