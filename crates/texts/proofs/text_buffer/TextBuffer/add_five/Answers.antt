use Rattle.std.proofs.Common.{◌++◌}
use Rattle.std.proofs.lemmas.Result.{err_from_is_err_and}
use Rattle.texts.proofs.Writes.{breaks_early}
use Rattle.texts.proofs.text_buffer.TextBuffer.add_five.Goals as goal

pub returns-in_err-finish : goal.returns-in_err-finish
returns-in_err-finish g c =
    let ensured = c.in_err-finish.ensures in
    let p = err_from_is_err_and c.from_residual.result c.from_residual.ensures.1 in
    rw p.1 (record {
      breaks = breaks_early (c.args.first.now ++ (c.args.second.now ++ (c.args.third.now ++ (c.args.fourth.now ++ c.args.fifth.now)))) ensured.wrote;
      empty = ensured.empty;
      same_out = ensured.same_out;
    })
