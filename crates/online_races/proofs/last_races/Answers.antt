use Rattle.std.proofs.Common.{◌≡◌, ◌+◌, ◌-◌, arith}
use Rattle.online_races.proofs.PassingLemmas.{HasFound-passed, HasFound-races, AreLineRaces-done}
use Rattle.online_races.proofs.last_races.Goals as goal

pub loop-last-preserved : goal.loop-last-preserved
loop-last-preserved c = (
  omega (arith, c.in-Passed.ensures.less, c.loop-last.invariant.0),
  λ end found has. HasFound-passed c.args.line.now.line end c.in-Passed.start c.loop-last.last c.args.entry c.args.sender c.args.region found c.in-Passed.ensures (c.loop-last.invariant.1 end found has),
)

pub returns-in-Races-clause-found : goal.returns-in-Races-clause-found
returns-in-Races-clause-found c end found has =
    let line = c.args.line.now.line in
    let last = c.loop-last.last in
    let earlier = c.max-earlier.result in
    let start : earlier + 1 - 1 ≡ earlier = omega arith in
    rw (c.instance.ensures, start)
    (HasFound-races line end c.in-Races.start last earlier c.args.entry c.args.sender c.args.region found c.in-Races.ensures (omega (arith, c.max-earlier.ensures)) (omega (arith, c.max-earlier.ensures)) (omega (arith, c.max-earlier.ensures, c.in-Races.ensures.less)) (c.loop-last.invariant.1 end found has))

pub returns-clause-found : goal.returns-clause-found
returns-clause-found c end found has = AreLineRaces-done c.args.line.now.line end c.loop-last.last c.args.entry c.args.sender c.args.region found c.loop-last-test.false (c.loop-last.invariant.1 end found has)
