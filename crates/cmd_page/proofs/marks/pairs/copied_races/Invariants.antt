use Rattle.std.proofs.Common.{◌≡◌, take}
use Rattle.cmd_page.proofs.marks.pairs.copied_races.Given as goal

abbrev pub invariant-loop-race : goal.invariant-loop-race
invariant-loop-race l = l.races.items ≡ take l.race-index l.given
