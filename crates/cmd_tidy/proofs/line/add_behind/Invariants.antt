use Rattle.std.proofs.Common.{◌≡◌, ◌++◌, map, take}
use Rattle.std.specs.List.{flat_map}
use Rattle.cmd_tidy.specs.Typing.{behind_space}
use Rattle.cmd_tidy.proofs.line.add_behind.Given as goal

abbrev pub invariant-loop-word : goal.invariant-loop-word
invariant-loop-word l = l.text.items ≡ l.initial.text.items ++ flat_map behind_space (map (λ w. w.now) (take l.word-index l.words))
