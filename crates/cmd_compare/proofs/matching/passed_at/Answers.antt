use Rattle.std.proofs.Common.{length}
use Rattle.cmd_compare.specs.Ends.{is_at, end_there}
use Rattle.cmd_compare.proofs.MatchLemmas.{HasPassed-none, passed_found}
use Rattle.cmd_compare.proofs.matching.passed_at.Goals as goal

pub returns-in-None : goal.returns-in-None
returns-in-None c =
    let both = c.args.both.now in
    HasPassed-none (is_at c.args.end.now) (is_at (end_there both.others.now c.args.end.now)) both.here.now both.there.now (length c.args.found.now) c.in-None.ensures

pub returns-in-Some : goal.returns-in-Some
returns-in-Some c =
    let both = c.args.both.now in
    passed_found both.others.now both.here.now both.there.now c.args.end.now c.args.found.now c.in-Some.index c.requires.found c.in-Some.ensures
