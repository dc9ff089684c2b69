use Rattle.std.proofs.Common.{◌≡◌}
use Rattle.cmd_base.specs.Pairs.Sayings.{passing, comes_too}
use Rattle.cmd_page.proofs.marks.marks.also_before.Given as goal

abbrev pub invariant-loop-place : goal.invariant-loop-place
invariant-loop-place l = l.list.items ≡ passing (comes_too l.events l.count l.sender) l.place
