use Rattle.std.proofs.Common.{arith}
use Rattle.chart.proofs.RangeLists.{followed-is}
use Rattle.races_text.proofs.judged.part.Part.with.Goals as goal

pub overflow_add-result : goal.overflow_add-result
overflow_add-result c =
    let w = followed-is c.args.self.now.range c.args.next.now.range c.requires.follows in
    let index = w.1 in
    let short = c.requires.next.within in
    omega (arith, index, short)
