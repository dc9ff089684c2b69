use Rattle.cmd_page.specs.Races.{AreFirst}
use Rattle.cmd_page.proofs.races.races_of.Given as goal

abbrev pub invariant-loop-place : goal.invariant-loop-place
invariant-loop-place l = AreFirst l.file.bytes.now (l.names, l.closure) l.explained l.pairs l.place l.races.items
