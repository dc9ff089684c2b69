use Rattle.std.proofs.Common.{take}
use Rattle.std.specs.List.{flat_map}
use Rattle.texts.specs.Writing.{Buffers}
use Rattle.cmd_page.specs.Text.RaceText.{behind_space}
use Rattle.cmd_page.proofs.text.race.add_numbers.Given as goal

-- the items so far were added
abbrev pub invariant-loop-number : goal.invariant-loop-number
invariant-loop-number g l = Buffers g.W.Out.sink l.initial.text l.text (flat_map (behind_space) (take l.number-index l.numbers))
