use Rattle.std.proofs.Common.{◌<◌, ◌^◌, length, arith, rules}
use Rattle.diagram_labels.proofs.Called.{taken_few, least_is}
use Rattle.diagram_labels.proofs.giving.GivenNames.free_number.Goals as goal

pub unreachable-requires : goal.unreachable-requires
unreachable-requires c =
    let few = taken_few c.args.self.now c.args.word.now c.loop-number.number (omega arith) c.loop-number.invariant in
    omega (arith, few)

pub returns-then-not-is_given-clause-value : goal.returns-then-not-is_given-clause-value
returns-then-not-is_given-clause-value c =
    let small : length c.args.self.now < 2 ^ 63 = omega arith in
    least_is c.args.self.now c.args.word.now c.loop-number.number small (search rules)
