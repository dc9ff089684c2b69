use Rattle.std.proofs.Common.{take}
use Rattle.std.specs.List.{flat_map}
use Rattle.texts.specs.Writing.{Buffers}
use Rattle.cmd_page.specs.Text.RaceText.{race_text}
use Rattle.cmd_page.proofs.text.page.add_races.Given as goal

-- the items so far were added
abbrev pub invariant-loop-race : goal.invariant-loop-race
invariant-loop-race g l = Buffers g.W.Out.sink l.initial.text l.text (flat_map (race_text) (take l.race-index l.races))
