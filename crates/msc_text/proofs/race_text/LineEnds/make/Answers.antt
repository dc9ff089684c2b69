use Rattle.std.proofs.Common.{length, ap, arith}
use Rattle.std.proofs.lemmas.Fmt.{decimal_nonempty}
use Rattle.std.proofs.lemmas.List.{length-append}
use Rattle.msc_text.proofs.race_text.LineEnds.make.Goals as goal

pub overflow_sub-made : goal.overflow_sub-made
overflow_sub-made c =
    let some = decimal_nonempty c.args.earlier.index (omega arith) in
    let is = ap length c.format.ensures.text in
    let same = ap length c.as_bytes-index.ensures.value in
    omega (arith, some, is, same)

pub returns-clause-place : goal.returns-clause-place
returns-clause-place c =
    let some = decimal_nonempty c.args.earlier.index (omega arith) in
    let is = ap length c.format.ensures.text in
    let same = ap length c.as_bytes-index.ensures.value in
    let front = ap length c.as_bytes-front.ensures in
    omega (arith, some, is, same, front)

pub returns-clause-within : goal.returns-clause-within
returns-clause-within c =
    let front = ap length c.push.ensures in
    let first = ap length c.clear.ensures in
    let index = ap length c.push-2.ensures in
    let end = ap length c.push-3.ensures in
    let a = length-append c.clear.new.self c.as_bytes-front.result.now in
    let b = length-append c.push.new.self c.as_bytes-index.result.now in
    let d = length-append c.push-2.new.self c.as_bytes.result.now in
    let some = decimal_nonempty c.args.earlier.index (omega arith) in
    let is = ap length c.format.ensures.text in
    let same = ap length c.as_bytes-index.ensures.value in
    omega (arith, front, first, index, end, a, b, d, some, is, same)
