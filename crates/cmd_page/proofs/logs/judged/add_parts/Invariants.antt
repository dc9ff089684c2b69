use Rattle.std.proofs.Common.{◌≡◌, ◌++◌, take, map}
use Rattle.std.specs.Prelude.{All}
use Rattle.cmd_page.specs.Marks.Judging.{judged_pair}
use Rattle.cmd_page.specs.Marks.Pairing.{HasRange}
use Rattle.cmd_page.proofs.logs.judged.add_parts.Given as goal

-- the races of the parts so far were added
abbrev pub invariant-loop-part : goal.invariant-loop-part
invariant-loop-part l = (l.pairs.items ≡ l.initial.pairs.items ++ map (judged_pair l.receive) (take l.part-index l.parts)) × All HasRange l.pairs.items
