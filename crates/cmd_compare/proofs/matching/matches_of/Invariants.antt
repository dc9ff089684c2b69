use Rattle.std.proofs.Common.{◌≡◌, length}
use Rattle.cmd_compare.specs.Matches.{AreMatches}
use Rattle.cmd_compare.proofs.matching.matches_of.Given as goal

abbrev pub invariant-loop : goal.invariant-loop
invariant-loop l = AreMatches l.both.others.now l.both.here.now l.both.there.now l.found.items × (length l.found.items ≡ l.counter)
